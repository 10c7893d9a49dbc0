-- `group_sound::sizes_fit` meets its contract: it checks what the definition checks.
use native.Mathlib.Omega.{arith}
use Rattle.std.proofs.lemmas.Grind.{common_steps}
use Rattle.std.proofs.lemmas.Bool.Decides.{nat_tests}
use Rattle.group_sound.proofs.Tests.{sizes-are}
use Rattle.group_sound.proofs.sizes_fit.Goals as goal

pub returns-then-books-eq-BOOKS : goal.returns-then-books-eq-BOOKS
returns-then-books-eq-BOOKS c = rw sizes-are (grind (arith, common_steps, nat_tests))

pub returns-else-books-eq-BOOKS : goal.returns-else-books-eq-BOOKS
returns-else-books-eq-BOOKS c = rw sizes-are (grind (arith, common_steps, nat_tests))
