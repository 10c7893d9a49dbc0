-- `slots::pop` meets its contract: the slots behind the first go down by one slot, and the count falls by one.
use Rattle.slots.specs.Changes.{popped}
use Rattle.slots.proofs.pop.Goals as goal

pub returns : goal.returns
unfolding popped
returns c = rw (c.move_bytes.ensures, c.from.ensures)
