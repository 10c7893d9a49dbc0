-- `record_steps::carrier_view::attempted` meets its contract: the view is opened in its place, and the client view starts anew.
use Rattle.record_steps.specs.Turns.{attempted_at}
use Rattle.record_steps.proofs.carrier_view.attempted.Goals as goal

pub returns : goal.returns
unfolding attempted_at
returns c = rw c.opened_to.ensures
