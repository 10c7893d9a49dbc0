-- `group_steps::messages::pass::add` meets its contract: the slot is copied behind the last, and the count grows by one.
use Rattle.group_bytes.specs.Moves.{slot_added}
use Rattle.group_steps.proofs.messages.pass.add.Goals as goal

pub returns : goal.returns
unfolding slot_added
returns c = rw c.copy.ensures
