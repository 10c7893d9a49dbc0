-- `record_steps::messages::later` meets its contract: with nothing open, a view that is above replaces its own.
use borrow.Author.Tests.{lt-ltb, le-ltb}
use Rattle.views.specs.Lists.{find_of}
use Rattle.rules.specs.Member.{settled_by}
use Rattle.views.proofs.OrderLaws.{lt-holds, lt-fails}
use Rattle.record_steps.proofs.messages.later.Goals as goal

pub returns-then-lt : goal.returns-then-lt
unfolding settled_by find_of
returns-then-lt c = rw (lt-ltb _ _ (lt-holds _ _ c.lt.ensures c.if-lt.true))

pub returns-else-lt : goal.returns-else-lt
unfolding settled_by
returns-else-lt c = rw (le-ltb _ _ (lt-fails _ _ c.lt.ensures c.if-lt.false))
