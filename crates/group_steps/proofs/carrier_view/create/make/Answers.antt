-- `group_steps::carrier_view::create::make` meets its contract: the view is stored, its queues cleared, and the number of views made grows by one.
use Rattle.group_steps.proofs.carrier_view.create.make.Goals as goal

pub returns : goal.returns
returns c = (c.store_view.ensures, rw c.clear.ensures)
