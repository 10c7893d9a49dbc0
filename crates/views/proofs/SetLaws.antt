-- Sets of members, a member at a time: what is in a set, in none, in both of two, and how many a set has.
use mathlib.Core.Path.{◌≡◌, refl, sym, ap, fun_ext, ◌∙◌}
use mathlib.Core.Logic.{◌⊎◌, inl, inr, ⊎_elim}
use mathlib.Core.Bool.{Bool, true, false, cond, true≢false}
use Prim.Native.Nat.{ℕ, zero, suc, ◌+◌, ◌*◌, ◌/◌, ◌%◌, ◌^◌, ◌<◌, ◌≤◌}
use native.Mathlib.Nat.{pow-suc, div-eq_of_lt, zero-div, div-one, div_self}
use native.Mathlib.Omega.{arith}
use lib.Dec.{eqb, ltb, leb}
use lib.Bits.{bit_and, and_zero_l, and_lt, and_mod, and_shr}
use lib.Pow.{pow_pos, pow_mono, shr-shr, shr_mono}
use lib.Count.{ones, ones_step}
use borrow.Author.Tests.{leb-false, leb-true, lt-leb, lt-ltb, eqb-false, ne_eqb}
use Rattle.views.specs.Limits.{max_members}
use Rattle.views.specs.Sets.{both, has, is_empty, is_beyond, in_common, weigh, one, majority_of}

-- ---- answers of tests

-- a test answers one or the other
pub known : (t : Bool) → (t ≡ true) ⊎ (t ≡ false)
known true = inl refl
known false = inr refl

pub both_true : (a b : Bool) → both a b ≡ true → (a ≡ true) × (b ≡ true)
both_true true b h = (refl, h)
both_true false b h = absurd (true≢false (sym h))

-- ---- a digit

low_digit : (x : ℕ) → x < 2 → x ≡ cond (eqb x 1) 1 0
low_digit zero h = refl
low_digit (suc zero) h = refl
low_digit (suc (suc x)) h = absurd (omega arith)

low-common : (x y : ℕ) → x < 2 → y < 2 → eqb (bit_and x y) 1 ≡ both (eqb x 1) (eqb y 1)
low-common zero y h k = ap (λ (x : ℕ). eqb x 1) (and_zero_l y)
low-common (suc zero) zero h k = refl
low-common (suc zero) (suc zero) h k = refl
low-common (suc zero) (suc (suc y)) h k = absurd (omega arith)
low-common (suc (suc x)) y h k = absurd (omega arith)

-- ---- members

pub has-common : (s t p : ℕ) → has (in_common s t) p ≡ both (has s p) (has t p)
unfolding has in_common
has-common s t p =
    rw (and_shr s t p, and_mod (s / 2 ^ p) (t / 2 ^ p) 1) (low-common (s / 2 ^ p % 2) (t / 2 ^ p % 2) (omega arith) (omega arith))

pub has-none : (p : ℕ) → has 0 p ≡ false
unfolding has
has-none p = rw (zero-div (2 ^ p))

-- the lowest digit is member 0's, and the others' are the digits of the half
has_first : (s : ℕ) → has s 0 ≡ eqb (s % 2) 1
unfolding has
has_first s = rw (div-one s)

has-next : (s p : ℕ) → has s (suc p) ≡ has (s / 2) p
unfolding has
has-next s p = let e : 1 + p ≡ suc p = omega arith in rw (← e, ← shr-shr s 1 p)

-- no member is at or past a bound on the digits
pub has-past : (s n p : ℕ) → s < 2 ^ n → n ≤ p → has s p ≡ false
unfolding has
has-past s n p h l = let m : s < 2 ^ p = omega (arith, pow_mono l) in rw (div-eq_of_lt m)

pub has-below : (s n p : ℕ) → is_beyond s n ≡ false → has s p ≡ true → p < n
unfolding is_beyond
has-below s n p h m =
    ⊎_elim (λ (e : leb n p ≡ true). absurd (true≢false (sym m ∙ has-past s n p (leb-false _ _ h) (leb-true _ _ e))))
    (λ (e : leb n p ≡ false). leb-false _ _ e)
    (known (leb n p))

-- a set below a bound on the digits is not beyond it, nor beyond what is past it
pub beyond-past : (s n m : ℕ) → s < 2 ^ n → n ≤ m → is_beyond s m ≡ false
unfolding is_beyond
beyond-past s n m h l = lt-leb (2 ^ m) s (omega (arith, pow_mono l))

-- a set is beyond m if digits are left above the m lowest
pub beyond-shift : (s m : ℕ) → ltb 0 (s / 2 ^ m) ≡ is_beyond s m
unfolding is_beyond
beyond-shift s m =
    ⊎_elim (λ (e : leb (2 ^ m) s ≡ true). rw e (lt-ltb 0 (s / 2 ^ m) (omega (arith, div_self {n = 2 ^ m} (pow_pos m), shr_mono {a = 2 ^ m} {b = s} m (leb-true _ _ e)))))
    (λ (e : leb (2 ^ m) s ≡ false). rw (e, div-eq_of_lt (leb-false _ _ e)))
    (known (leb (2 ^ m) s))

pub has_some : (n s : ℕ) → s < 2 ^ n → is_empty s ≡ false → (p : ℕ) × (p < n) × (has s p ≡ true)
has_some zero s h e = absurd (eqb-false s 0 e (omega arith))
has_some (suc n) s h e =
    let w : 2 ^ suc n ≡ 2 ^ n * 2 = pow-suc 2 n in
    ⊎_elim (λ (t : eqb (s % 2) 1 ≡ true). (0, omega arith, has_first s ∙ t))
    (λ (t : eqb (s % 2) 1 ≡ false).
    let u : s / 2 ≡ 0 → ⊥ = λ z. eqb-false s 0 e (omega (arith, eqb-false (s % 2) 1 t)) in
    let r = has_some n (s / 2) (omega arith) (ne_eqb (s / 2) 0 u) in (suc r.0, omega arith, has-next s r.0 ∙ r.2))
    (known (eqb (s % 2) 1))

-- ---- how many

-- what is weighed from the lowest member up
weigh-first : (w : ℕ → ℕ) (f : ℕ → Bool) (n : ℕ) → weigh w f (suc n) ≡ cond (f 0) (w 0) 0 + weigh (λ p. w (suc p)) (λ p. f (suc p)) n
unfolding weigh
weigh-first w f zero = omega arith
weigh-first w f (suc n) = omega (arith, weigh-first w f n)

-- the ones counted in a set are its members
pub ones-weigh : (n s : ℕ) → s < 2 ^ n → ones s ≡ weigh one (has s) n
unfolding weigh ones
ones-weigh zero s h = let z : s ≡ 0 = omega arith in rw z
ones-weigh (suc n) s h =
    let w : 2 ^ suc n ≡ 2 ^ n * 2 = pow-suc 2 n in
    let f : (λ (p : ℕ). has s (suc p)) ≡ has (s / 2) = fun_ext (λ (p : ℕ). has-next s p) in
    let d : s % 2 ≡ cond (has s 0) 1 0 = rw (has_first s) (low_digit (s % 2) (omega arith)) in
    omega (arith, ones_step s, ones-weigh n (s / 2) (omega arith), weigh-first one (has s) n, ap (λ (g : ℕ → Bool). weigh one g n) f)

-- the test by the ones counted
pub majority-ones : (s h : ℕ) → s < 2 ^ max_members → h < 2 ^ max_members → ltb (ones h) (2 * ones (bit_and s h)) ≡ majority_of s h
unfolding majority_of in_common
majority-ones s h i j = rw (ones-weigh max_members h j, ones-weigh max_members (bit_and s h) (and_lt max_members s h i j))
