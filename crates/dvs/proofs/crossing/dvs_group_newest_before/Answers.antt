-- `dvs::crossing::dvs_group_newest_before` meets its contract: 4 for a range of another length, 4 for no sound group, else the view.
use mathlib.Core.Path.{sym, ◌∙◌}
use borrow.Author.Tests.{not-true, not-false}
use Rattle.group_bytes.specs.Groups.{ranges}
use Rattle.dvs.proofs.CrossingLaws.{seeks-unsized, seeks-unsound, seeks-call}
use Rattle.dvs.proofs.crossing.dvs_group_newest_before.Goals as goal

pub returns-then-found-ne-FOUND : goal.returns-then-found-ne-FOUND
returns-then-found-ne-FOUND c =
    let a = c.args in
    seeks-unsized (ranges a.list.now a.books.now a.queues.now) a.view _ _ c.if-found-ne-FOUND.true c.refused.ensures

pub returns-then-not-sound : goal.returns-then-not-sound
returns-then-not-sound c =
    let t = c in
    let a = t.args in
    seeks-unsound (ranges a.list.now a.books.now a.queues.now) a.view _ t.if-found-ne-FOUND.false _
    (sym c.sound.ensures ∙ not-true _ c.if-not-sound.true-raw) c.refused-then-not-sound.ensures

pub newest_before-f-requires : goal.newest_before-f-requires
newest_before-f-requires c = sym c.sound.ensures ∙ not-false _ c.if-not-sound.false-raw

pub returns : goal.returns
returns c =
    let n = c in
    let t = n in
    let a = t.args in
    seeks-call (ranges a.list.now a.books.now a.queues.now) a.view _ t.if-found-ne-FOUND.false _ _
    (sym n.sound.ensures ∙ not-false _ n.if-not-sound.false-raw) n.newest_before-f.ensures c.put_found.ensures
