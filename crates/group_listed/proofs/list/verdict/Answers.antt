-- `group_listed::list::verdict` meets its contract: 4 where the list is not sound, and else what is asked of the views made.
use mathlib.Core.Path.{◌≡◌, sym, ◌∙◌}
use lib.ListN.{length}
use Rattle.group_listed.proofs.CreateLaws.{by-unsound, by-sound}
use Rattle.group_listed.proofs.list.verdict.Goals as goal

pub returns-then-not-sound : goal.returns-then-not-sound
returns-then-not-sound c =
    let a = c.args in
    by-unsound a.members a.made a.l a.id.0 a.set (sym c.sound.ensures ∙ c.if-not-sound.true)

pub returns : goal.returns
returns c =
    let a = c.args in
    let z : length a.l.at ≡ 32 = c.well_formed.0.1.1.1.0.1.0.1 in
    c.asked.ensures ∙ by-sound a.members a.made a.l a.id.0 a.set z (sym c.sound.ensures ∙ c.if-not-sound.false) c.first-views.result c.first-views.ensures
