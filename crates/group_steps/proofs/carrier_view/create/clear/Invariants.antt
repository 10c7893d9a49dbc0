-- `group_steps::carrier_view::create::clear` meets its contract: after p turns nothing waits for the members below p.
use mathlib.Core.Path.{◌≡◌}
use Rattle.group_bytes.specs.Moves.{waiting_cleared}
use Rattle.group_steps.proofs.carrier_view.create.clear.Given as goal

abbrev pub invariant-loop-p : goal.invariant-loop-p
invariant-loop-p l = l.queues ≡ waiting_cleared l.initial.queues l.i l.p
