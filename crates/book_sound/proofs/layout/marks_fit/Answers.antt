-- `book_sound::layout::marks_fit` meets its contract: it checks the conditions of the definition in their order.
use Rattle.std.proofs.Common.{arith}
use Rattle.std.proofs.lemmas.Grind.{common_steps}
use Rattle.rules.specs.Sound.{conditions}
use Rattle.book_sound.specs.Parts.{marks_fit}
use Rattle.book_sound.proofs.layout.marks_fit.Goals as goal

pub returns-then-b-le1-3 : goal.returns-then-b-le1-3
unfolding marks_fit conditions
returns-then-b-le1-3 c = grind (arith, common_steps)

pub returns-else-b-le1-3 : goal.returns-else-b-le1-3
unfolding marks_fit conditions
returns-else-b-le1-3 c = grind (arith, common_steps)
