-- `c_answers::narrow` meets its contract: a number that is too large for a byte gives way to the other.
use Rattle.std.proofs.Common.{arith}
use Rattle.std.proofs.lemmas.Grind.{common_steps}
use Rattle.c_answers.specs.Answers.{narrowed}
use Rattle.c_answers.proofs.narrow.Goals as goal

pub returns : goal.returns
unfolding narrowed
returns c = grind (arith, common_steps)
