-- `group::start::long` meets its contract: it checks what the definition checks.
use native.Mathlib.Omega.{arith}
use Rattle.std.proofs.lemmas.Grind.{common_steps}
use Rattle.std.proofs.lemmas.Bool.Decides.{nat_tests}
use Rattle.rules.specs.Sound.{conditions}
use Rattle.group.specs.StartParts.{long_for}
use Rattle.group.proofs.start.long.Goals as goal

pub returns-then-list-ne0 : goal.returns-then-list-ne0
unfolding long_for conditions
returns-then-list-ne0 c = grind (arith, common_steps, nat_tests)

pub returns-then-not-contains : goal.returns-then-not-contains
unfolding long_for conditions
returns-then-not-contains c = grind (arith, common_steps, nat_tests)

pub returns-else-not-contains : goal.returns-else-not-contains
unfolding long_for conditions
returns-else-not-contains c = grind (arith, common_steps, nat_tests)
