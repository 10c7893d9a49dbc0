-- `record_steps::client_view::has_room` meets its contract: only where a message would be queued is the room asked.
use mathlib.Core.Path.{sym, ◌∙◌}
use Rattle.record_steps.proofs.ClientLaws.{room-asked, room-unasked}
use Rattle.record_steps.proofs.client_view.has_room.Goals as goal

pub returns-then-not-in_step : goal.returns-then-not-in_step
returns-then-not-in_step c = rw c.if-not-in_step.true (room-unasked c.args.h c.args.out (sym c.in_step.ensures ∙ c.if-not-in_step.true))

pub returns-else-not-in_step : goal.returns-else-not-in_step
returns-else-not-in_step c = room-asked c.args.h c.args.out (sym c.in_step.ensures ∙ c.if-not-in_step.false)
