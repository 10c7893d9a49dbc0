-- `book_sound::layout::counts_fit` meets its contract: it checks the conditions of the definition in their order.
use Rattle.std.proofs.Common.{arith, sym, ◌∙◌}
use Rattle.std.proofs.lemmas.Grind.{common_steps}
use Rattle.rules.proofs.Truth.{four}
use Rattle.book_sound.specs.Parts.{counts_fit}
use Rattle.book_sound.proofs.layout.counts_fit.Goals as goal

pub returns-then-b-le-ORDERED : goal.returns-then-b-le-ORDERED
unfolding counts_fit
returns-then-b-le-ORDERED c = sym (four _ _ _ _ ∙ grind (arith, common_steps))

pub returns-else-b-le-ORDERED : goal.returns-else-b-le-ORDERED
unfolding counts_fit
returns-else-b-le-ORDERED c = sym (four _ _ _ _ ∙ grind (arith, common_steps))
