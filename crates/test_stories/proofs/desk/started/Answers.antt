-- By the verdict.
use mathlib.Core.Path.{refl, ap}
use Prim.Native.Nat.{ℕ}
use Rattle.test_stories.specs.DeskParts.{with_own, after_start}
use Rattle.test_stories.proofs.desk.started.Goals as goal

pub returns-in-Err : goal.returns-in-Err
unfolding after_start
returns-in-Err c = rw c.in-Err.is refl

pub returns-in-Ok : goal.returns-in-Ok
unfolding after_start
returns-in-Ok c = rw c.in-Ok.is (ap (λ (x : ℕ). with_own c.args.d c.args.k x) c.byte.ensures)
