-- `sets::majority` meets its contract: the ones counted in a byte are its members, and twice eight of them fit.
use Prim.Native.Nat.{ℕ, ◌*◌, ◌<◌, ◌^◌}
use native.Mathlib.Omega.{arith}
use lib.Bits.{and_lt}
use lib.Count.{ones, ones-le}
use mir.Syntax.{w32}
use mir.Val.{Fits}
use Rattle.views.specs.Limits.{max_members}
use Rattle.views.proofs.SetLaws.{majority-ones}
use Rattle.sets.proofs.majority.Goals as goal

-- of any byte
twice : (x : ℕ) → x < 2 ^ max_members → Fits w32 (2 * ones x)
twice x h = omega (arith, ones-le max_members x h)

pub overflow_mul-result : goal.overflow_mul-result
overflow_mul-result c = search (twice, and_lt max_members)

pub returns : goal.returns
returns c = majority-ones c.args.set c.args.held c.ranges.set.fits c.ranges.held.fits
