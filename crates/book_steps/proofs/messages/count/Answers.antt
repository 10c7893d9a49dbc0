-- `book_steps::messages::count` meets its contract: the number taken is one more.
use mathlib.Core.Path.{refl}
use Rattle.book_steps.specs.Acts.{one_more}
use Rattle.book_steps.proofs.messages.count.Goals as goal

pub returns : goal.returns
unfolding one_more
returns c = refl
