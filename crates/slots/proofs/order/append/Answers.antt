-- `slots::order::append` meets its contract: the entry is stored behind the last, and the count grows by one.
use Rattle.slots.specs.Changes.{ordered}
use Rattle.slots.proofs.order.append.Goals as goal

pub returns : goal.returns
unfolding ordered
returns c = rw (c.store.ensures, c.from.ensures)
