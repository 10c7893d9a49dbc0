-- `book_steps::say_short` meets its contract: the message is stored after those that are outgoing.
use Rattle.book_steps.proofs.say_short.Goals as goal

pub returns : goal.returns
returns c = rw c.store_short.ensures
