-- A member's digit in a set's byte.
use mathlib.Core.Path.{◌≡◌}
use Prim.Native.Nat.{ℕ, ◌*◌, ◌%◌, ◌^◌, ◌<◌, ◌≤◌}
use native.Mathlib.Nat.{one-mul, mod-eq_of_lt}
use native.Mathlib.Omega.{arith}
use lib.Pow.{pow_mono}
use Rattle.views.specs.Limits.{max_members}

-- a member's digit fits the byte
pub digit-fits : (q : ℕ) → q < max_members → 1 * 2 ^ q % 256 ≡ 2 ^ q
digit-fits q h = let b : 2 ^ q ≤ 2 ^ 7 = pow_mono {i = q} {j = 7} (omega arith) in rw (one-mul (2 ^ q)) (mod-eq_of_lt (omega arith))
