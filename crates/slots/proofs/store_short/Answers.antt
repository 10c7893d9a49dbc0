-- `slots::store_short` meets its contract: sender, kind and number are stored one after the other.
use Rattle.slots.specs.Changes.{store_short}
use Rattle.slots.proofs.store_short.Goals as goal

pub returns : goal.returns
unfolding store_short
returns c = c.put_number.ensures
