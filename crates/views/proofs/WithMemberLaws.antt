-- A set with one more member: which members it has, and that it stays below its bound.
use mathlib.Core.Path.{◌≡◌, refl, ap, fun_ext, ◌∙◌}
use mathlib.Core.Logic.{⊎_elim}
use mathlib.Core.Bool.{true, false}
use Prim.Native.Nat.{ℕ, zero, suc, ◌+◌, ◌-◌, ◌/◌, ◌%◌, ◌^◌, ◌<◌}
use native.Mathlib.Nat.{pow-suc, div-eq_of_lt, div_self}
use native.Mathlib.Omega.{arith}
use lib.Dec.{eqb, ltb}
use lib.Bits.{bit_or, or_lt, or_zero_r, or_shr, or_mod}
use lib.Pow.{pow_pos, pow-add, pow-lt, shl-shr}
use borrow.Author.Tests.{eqb-true, eqb-false, ltb-true, ltb-false}
use Rattle.views.specs.Sets.{has, with_member}
use Rattle.views.specs.Points.{at}
use Rattle.views.proofs.SetLaws.{known}

-- the digits of a set of one member
digit-same : (q : ℕ) → 2 ^ q / 2 ^ q % 2 ≡ 1
digit-same q = rw (div_self {n = 2 ^ q} (pow_pos q))

digit-below : (q r : ℕ) → r < q → 2 ^ q / 2 ^ r % 2 ≡ 0
digit-below q r h =
    let e : q ≡ suc (q - (r + 1)) + r = omega arith in
    let d : 2 ^ q / 2 ^ r ≡ 2 ^ suc (q - (r + 1)) =
    ap (λ (k : ℕ). 2 ^ k / 2 ^ r) e ∙ ap (λ (k : ℕ). k / 2 ^ r) (pow-add 2 (suc (q - (r + 1))) r) ∙ shl-shr (2 ^ suc (q - (r + 1))) r in
    rw (d, pow-suc 2 (q - (r + 1))) (omega arith)

digit-past : (q r : ℕ) → q < r → 2 ^ q / 2 ^ r % 2 ≡ 0
digit-past q r h = rw (div-eq_of_lt (pow-lt h))

digit-other : (q r : ℕ) → (r ≡ q → ⊥) → 2 ^ q / 2 ^ r % 2 ≡ 0
digit-other q r n =
    ⊎_elim (λ (t : ltb r q ≡ true). digit-below q r (ltb-true r q t))
    (λ (t : ltb r q ≡ false). digit-past q r (omega (arith, ltb-false r q t, n)))
    (known (ltb r q))

-- a digit with a digit 1
or-one : (x : ℕ) → x < 2 → bit_or x 1 ≡ 1
or-one zero h = refl
or-one (suc zero) h = refl
or-one (suc (suc x)) h = absurd (omega arith)

-- the digit of the set with the member
digit-with : (q s r : ℕ) → bit_or s (2 ^ q) / 2 ^ r % 2 ≡ bit_or (s / 2 ^ r % 2) (2 ^ q / 2 ^ r % 2)
digit-with q s r = rw (or_shr s (2 ^ q) r) (or_mod (s / 2 ^ r) (2 ^ q / 2 ^ r) 1)

has-with : (q s r : ℕ) → has (with_member q s) r ≡ at q true (has s) r
unfolding has with_member at
has-with q s r =
    ⊎_elim
    (λ (t : eqb r q ≡ true). rw (t, digit-with q s r, eqb-true r q t, digit-same q, or-one (s / 2 ^ q % 2) (omega arith)))
    (λ (t : eqb r q ≡ false). rw (t, digit-with q s r, digit-other q r (eqb-false r q t), or_zero_r (s / 2 ^ r % 2)))
    (known (eqb r q))

pub one-noted : (q s : ℕ) → has (with_member q s) ≡ at q true (has s)
one-noted q s = fun_ext (has-with q s)

-- a member below the bound leaves the set below it
pub with-below : (q s n : ℕ) → s < 2 ^ n → q < n → with_member q s < 2 ^ n
unfolding with_member
with-below q s n h l = or_lt n s (2 ^ q) h (pow-lt l)
