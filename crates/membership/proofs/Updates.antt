-- What a step changes: a function at one number or at a pair, a relation by one instance more or at one number.
-- Each change has one law, by which what holds of the new state follows from what held of the old.
use mathlib.Core.Path.{◌≡◌, refl}
use mathlib.Core.Logic.Dec
use mathlib.Core.Logic.{◌≢◌}
use Prim.Native.Nat.{ℕ}
use native.Mathlib.Decide.{ℕ_discrete, map_dec}
pub use Rattle.views.specs.Points.{at as upd, at2 as upd2}

-- ---- a relation that grows

-- R, and a, b too
pub data Plus2 (R : ℕ → ℕ → Type 0) (a b : ℕ) : ℕ → ℕ → Type 0 where
  old : {x y : ℕ} → R x y → Plus2 R a b x y
  new : Plus2 R a b a b

pub plus2 : {R : ℕ → ℕ → Type 0} {a b : ℕ} (P : ℕ → ℕ → Type 0) → P a b → ((x y : ℕ) → R x y → P x y)
    → (x y : ℕ) → Plus2 R a b x y → P x y
plus2 P n o x y (old r) = o x y r
plus2 P n o x y new = n

pub plus2-dec : {R : ℕ → ℕ → Type 0} (a b : ℕ) → ((x y : ℕ) → Dec (R x y)) → (x y : ℕ) → Dec (Plus2 R a b x y)
plus2-dec {R} a b d x y = go (d x y) (Dec.and (ℕ_discrete x a) (ℕ_discrete y b))
  where
    newly : (x ≡ a) × (y ≡ b) → Plus2 R a b x y
    newly e = rw (e.0, e.1) new

    was : ¬ R x y → Plus2 R a b x y → (x ≡ a) × (y ≡ b)
    was n t = plus2 {R = R} {a = a} {b = b} (λ u w. ¬ R u w → (u ≡ a) × (w ≡ b)) (λ _. (refl, refl)) (λ u w r m. absurd (m r)) x y t n

    go : Dec (R x y) → Dec ((x ≡ a) × (y ≡ b)) → Dec (Plus2 R a b x y)
    go (yes r) _ = yes (old r)
    go (no n) e = map_dec newly (was n) e

-- R, and a, b, c too
pub data Plus3 (R : ℕ → ℕ → ℕ → Type 0) (a b c : ℕ) : ℕ → ℕ → ℕ → Type 0 where
  old : {x y z : ℕ} → R x y z → Plus3 R a b c x y z
  new : Plus3 R a b c a b c

pub plus3 : {R : ℕ → ℕ → ℕ → Type 0} {a b c : ℕ} (P : ℕ → ℕ → ℕ → Type 0) → P a b c → ((x y z : ℕ) → R x y z → P x y z)
    → (x y z : ℕ) → Plus3 R a b c x y z → P x y z
plus3 P n o x y z (old r) = o x y z r
plus3 P n o x y z new = n

-- R, and at a, b all that Q has
pub data Also (R : ℕ → ℕ → ℕ → Type 0) (a b : ℕ) (Q : ℕ → Type 0) : ℕ → ℕ → ℕ → Type 0 where
  old : {x y z : ℕ} → R x y z → Also R a b Q x y z
  new : {z : ℕ} → Q z → Also R a b Q a b z

-- R, but Q at p
pub data Put (p : ℕ) (Q : ℕ → Type 0) (R : ℕ → ℕ → Type 0) : ℕ → ℕ → Type 0 where
  here : {w : ℕ} → Q w → Put p Q R p w
  there : {r w : ℕ} → r ≢ p → R r w → Put p Q R r w
