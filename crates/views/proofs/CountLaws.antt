-- Counting members: two sets that each have more than half of a third share a member. For any number of members and any weights.
use mathlib.Core.Path.{◌≡◌, refl, ap, fun_ext}
use mathlib.Core.Logic.{◌⊎◌, inl, inr, ⊎_elim}
use mathlib.Core.Bool.{Bool, true, false, cond}
use Prim.Native.Nat.{ℕ, zero, suc, ◌+◌, ◌*◌, ◌<◌, ◌≤◌}
use native.Mathlib.Omega.{arith}
use borrow.Author.Tests.{ltb-true}
use Rattle.views.specs.Limits.{max_members}
use Rattle.views.specs.Sets.{both, has, in_common, weigh, one, size, majority_of}
use Rattle.views.proofs.SetLaws.{both_true, has-common}

-- one member
meet_one : (x y z : Bool) (w : ℕ) → cond (both x z) w 0 + cond (both y z) w 0 ≤ cond z w 0 + cond (both (both x y) z) w 0
meet_one true true true w = omega arith
meet_one true true false w = omega arith
meet_one true false true w = omega arith
meet_one true false false w = omega arith
meet_one false true true w = omega arith
meet_one false true false w = omega arith
meet_one false false true w = omega arith
meet_one false false false w = omega arith

-- what f and g each pick of h weighs together no more than h and what both pick of it
pub weigh-meet : (w : ℕ → ℕ) (f g h : ℕ → Bool) (n : ℕ)
    → weigh w (λ p. both (f p) (h p)) n + weigh w (λ p. both (g p) (h p)) n ≤ weigh w h n + weigh w (λ p. both (both (f p) (g p)) (h p)) n
unfolding weigh
weigh-meet w f g h zero = omega arith
weigh-meet w f g h (suc n) = omega (arith, weigh-meet w f g h n, meet_one (f n) (g n) (h n) (w n))

some_one : (k : ℕ) (t : Bool) (u : ℕ) → 0 < k + cond t u 0 → (0 < k) ⊎ ((t ≡ true) × (0 < u))
some_one zero true u h = inr (refl, omega arith)
some_one zero false u h = absurd (omega arith)
some_one (suc k) t u h = inl (omega arith)

-- what weighs something has a member
pub weigh-some : (w : ℕ → ℕ) (f : ℕ → Bool) (n : ℕ) → 0 < weigh w f n → (p : ℕ) × (p < n) × (f p ≡ true) × (0 < w p)
unfolding weigh
weigh-some w f zero h = absurd (omega arith)
weigh-some w f (suc n) h =
    ⊎_elim
    (λ (l : 0 < weigh w f n). let r = weigh-some w f n l in (r.0, omega arith, r.2, r.3))
    (λ (l : (f n ≡ true) × (0 < w n)). (n, omega arith, l.0, l.1))
    (some_one (weigh w f n) (f n) (w n) h)

pub halves-meet : (w : ℕ → ℕ) (f g h : ℕ → Bool) (n : ℕ)
    → weigh w h n < 2 * weigh w (λ p. both (f p) (h p)) n → weigh w h n < 2 * weigh w (λ p. both (g p) (h p)) n
    → (p : ℕ) × (p < n) × (f p ≡ true) × (g p ≡ true) × (h p ≡ true) × (0 < w p)
halves-meet w f g h n i j =
    let r = weigh-some w (λ p. both (both (f p) (g p)) (h p)) n (omega (arith, weigh-meet w f g h n)) in
    let t = both_true (both (f r.0) (g r.0)) (h r.0) r.2 in
    let u = both_true (f r.0) (g r.0) t.0 in
    (r.0, r.1, u.0, u.1, t.1, r.3)

-- the members in common, as the test counts them
size-common : (s t : ℕ) → size (in_common s t) ≡ weigh one (λ p. both (has s p) (has t p)) max_members
size-common s t = ap (λ (f : ℕ → Bool). weigh one f max_members) (fun_ext (λ (p : ℕ). has-common s t p))

-- two sets that pass the test against a third share a member
pub majorities-meet : (s t h : ℕ) → majority_of s h ≡ true → majority_of t h ≡ true → (p : ℕ) × (p < max_members) × (has s p ≡ true) × (has t p ≡ true)
unfolding majority_of
majorities-meet s t h i j =
    let r = halves-meet one (has s) (has t) (has h) max_members
    (omega (arith, size-common s h, ltb-true (size h) (2 * size (in_common s h)) i))
    (omega (arith, size-common t h, ltb-true (size h) (2 * size (in_common t h)) j)) in
    (r.0, r.1, r.2, r.3)
