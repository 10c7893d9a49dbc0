-- `book_steps::say` meets its contract: what is said goes to the end of outgoing.
use Rattle.book_steps.specs.Parts.{said_bytes}
use Rattle.book_steps.proofs.say.Goals as goal

pub returns-in-Some : goal.returns-in-Some
unfolding said_bytes
returns-in-Some c = rw (c.say_short.ensures, c.kind.ensures, c.number.ensures, c.in-Some.is)

pub returns-in_default : goal.returns-in_default
unfolding said_bytes
returns-in_default c = rw c.in_default.is
