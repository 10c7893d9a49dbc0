-- `group_form::count` meets its contract: the ones counted in a byte are its members, of which there are at most eight.
use Prim.Native.Nat.{ℕ, ◌*◌, ◌^◌, ◌≤◌, ◌<◌}
use native.Mathlib.Nat.{mul-le-mul}
use native.Mathlib.Omega.{arith}
use lib.Count.{ones, ones-le}
use Rattle.views.specs.Limits.{max_members}
use Rattle.views.proofs.SetLaws.{ones-weigh}
use Rattle.group_form.proofs.count.Goals as goal

square : (x : ℕ) → x < 2 ^ max_members → ones x * ones x ≤ 64
square x h = mul-le-mul (ones-le max_members x h) (ones-le max_members x h)

pub overflow_mul-result : goal.overflow_mul-result
overflow_mul-result c = omega (arith, square c.args.set c.ranges.set.fits)

pub overflow_mul-result-2 : goal.overflow_mul-result-2
overflow_mul-result-2 c = omega (arith, square c.args.set c.ranges.set.fits)

pub overflow_mul-result-3 : goal.overflow_mul-result-3
overflow_mul-result-3 c = omega (arith, ones-le max_members c.args.set c.ranges.set.fits)

pub overflow_add-result : goal.overflow_add-result
overflow_add-result c = omega (arith, square c.args.set c.ranges.set.fits, ones-le max_members c.args.set c.ranges.set.fits)

pub returns : goal.returns
returns c = rw (ones-weigh max_members c.args.set c.ranges.set.fits)
