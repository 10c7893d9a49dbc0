-- `record_steps::carrier_view::opened_to` meets its contract: the test is that of the definition.
use borrow.Author.Tests.{lt-ltb, le-ltb}
use Rattle.record_steps.specs.Turns.{opened_to}
use Rattle.views.proofs.OrderLaws.{lt-holds, lt-fails}
use Rattle.record_steps.proofs.carrier_view.opened_to.Goals as goal

pub returns-then-lt : goal.returns-then-lt
unfolding opened_to
returns-then-lt c = rw (lt-ltb _ _ (lt-holds _ _ c.lt.ensures c.if-lt.true)) c.insert.ensures

pub returns-else-lt : goal.returns-else-lt
unfolding opened_to
returns-else-lt c = rw (le-ltb _ _ (lt-fails _ _ c.lt.ensures c.if-lt.false))
