-- `dvs::checks::dvs_group_check` meets its contract: 4, or 0.
use mathlib.Core.Path.{sym, ◌∙◌}
use borrow.Author.Tests.{not-true, not-false}
use Rattle.group_bytes.specs.Groups.{ranges}
use Rattle.dvs.proofs.CheckLaws.{group-unsound, group-sound}
use Rattle.dvs.proofs.checks.dvs_group_check.Goals as goal

pub returns-then-not-sound : goal.returns-then-not-sound
returns-then-not-sound c =
    let a = c.args in
    group-unsound (ranges a.list.now a.books.now a.queues.now) _ (sym c.sound.ensures ∙ not-true _ c.if-not-sound.true-raw) c.refused.ensures

pub returns : goal.returns
returns c =
    let a = c.args in
    group-sound (ranges a.list.now a.books.now a.queues.now) (sym c.sound.ensures ∙ not-false _ c.if-not-sound.false-raw)
