-- `group_listed::list::counts_fit` meets its contract: the three ranges are the definition's.
use mathlib.Core.Path.{◌≡◌, sym, ◌∙◌}
use Rattle.std.proofs.Common.{rules}
use Rattle.views.specs.Limits.{max_members, max_views}
use Rattle.rules.specs.Sound.{within}
use Rattle.group_listed.proofs.CreateLaws.{members-out, room-out, made-last}
use Rattle.group_listed.proofs.list.counts_fit.Goals as goal
use Rattle.group_listed.proofs.list.counts_fit.Goals.{then-contains, else-contains}

pub returns-then-contains-2 : goal.returns-then-contains-2
returns-then-contains-2 c =
    let a = c.args in
    let members : c.contains.result ≡ within 1 a.members max_members = search rules in
    let made : c.contains-then-contains-2.result ≡ within 1 a.made a.room = search rules in
    elim c.if-contains.branch [
      | then-contains w ↦
          let room : w.contains-then-contains.result ≡ within 1 a.room max_views = search rules in
          made ∙ made-last a.members a.room a.made (sym members ∙ w.if-contains.true) (sym room ∙ sym w.value-is ∙ c.if-contains-2.true)
      | else-contains w ↦ absurd cc
    ]

pub returns-else-contains-2 : goal.returns-else-contains-2
returns-else-contains-2 c =
    let a = c.args in
    let members : c.contains.result ≡ within 1 a.members max_members = search rules in
    elim c.if-contains.branch [
      | then-contains w ↦
          let room : w.contains-then-contains.result ≡ within 1 a.room max_views = search rules in
          c.if-contains-2.false ∙ room-out a.members a.room a.made (sym members ∙ w.if-contains.true) (sym room ∙ sym w.value-is ∙ c.if-contains-2.false)
      | else-contains w ↦ c.if-contains-2.false ∙ members-out a.members a.room a.made (sym members ∙ w.if-contains.false)
    ]
