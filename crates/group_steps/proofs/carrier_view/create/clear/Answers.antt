-- `group_steps::carrier_view::create::clear` meets its contract: after p turns nothing waits for the members below p.
use mathlib.Core.Path.{◌∙◌}
use native.Mathlib.Omega.{arith}
use lib.ListN.{set}
use Rattle.group_steps.proofs.CreateLaws.{clear_first, clear-turn, clear-end}
use Rattle.group_steps.proofs.carrier_view.create.clear.Goals as goal

pub loop-p-init : goal.loop-p-init
loop-p-init c = clear_first (set c.args.queues.now c.order_at.result 0) c.args.i

pub loop-p-preserved : goal.loop-p-preserved
loop-p-preserved c = rw (c.loop-p.invariant, c.waiting_at.ensures) (clear-turn (set c.args.queues.now c.order_at.result 0) c.args.i c.loop-p.p)

pub returns : goal.returns
returns c = c.loop-p.invariant ∙ clear-end c.args.queues.now c.args.i c.order_at.result c.loop-p.p c.order_at.ensures (omega arith)
