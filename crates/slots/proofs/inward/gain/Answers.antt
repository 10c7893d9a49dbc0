-- `slots::inward::gain` meets its contract: sender and number are stored behind the last of each, and the count grows by one.
use Rattle.slots.specs.Changes.{gained}
use Rattle.slots.proofs.inward.gain.Goals as goal

pub returns : goal.returns
unfolding gained
returns c = rw (c.put_number.ensures, c.from-k.ensures)
