-- `group_sound::numbers_fit` meets its contract: it checks what the definition checks.
use native.Mathlib.Omega.{arith}
use Rattle.std.proofs.lemmas.Grind.{common_steps}
use Rattle.std.proofs.lemmas.Bool.Decides.{nat_tests}
use Rattle.views.proofs.SetLaws.{beyond-shift}
use Rattle.group_sound.proofs.Tests.{numbers-are}
use Rattle.group_sound.proofs.numbers_fit.Goals as goal

pub returns-then-contains-2 : goal.returns-then-contains-2
returns-then-contains-2 c = let beyond = beyond-shift c.args.marks c.args.made in rw numbers-are (grind (arith, common_steps, nat_tests, beyond))

pub returns-else-contains-2 : goal.returns-else-contains-2
returns-else-contains-2 c = rw numbers-are (grind (arith, common_steps, nat_tests))
