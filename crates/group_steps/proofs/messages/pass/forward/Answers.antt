-- `group_steps::messages::pass::forward` meets its contract: the first outgoing entry is copied, then it goes.
use Rattle.book_steps.specs.Acts.{pass_bytes}
use Rattle.group_steps.proofs.messages.pass.forward.Goals as goal

pub returns : goal.returns
unfolding pass_bytes
returns c = (c.pop.ensures, c.add.ensures)
