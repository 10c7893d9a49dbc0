use mathlib.Core.Path.{sym, ◌∙◌}
use borrow.Author.Tests.{not-true, not-false}
use Rattle.group_bytes.specs.Groups.{Ranges}
use Rattle.group.specs.StepCalls.{asked}
use Rattle.group.proofs.CarrierLaws.{unsound-went}
use Rattle.group.proofs.step.step.Goals as goal

pub returns-then-not-sound : goal.returns-then-not-sound
returns-then-not-sound c =
    let a = c.args in
    let r : Ranges = record { list = a.list.now; books = a.all.now; queues = a.queues.now } in
    unsound-went r (sym c.sound.ensures ∙ not-true _ c.if-not-sound.true-raw) (asked a.kind a.first a.second)

pub dispatch-requires : goal.dispatch-requires
dispatch-requires c = sym c.sound.ensures ∙ not-false _ c.if-not-sound.false-raw
