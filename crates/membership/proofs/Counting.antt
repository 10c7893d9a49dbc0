-- Majorities by weight: two views that each have more than half of a third share a member, and that member weighs something.
use mathlib.Core.Path.{◌≡◌}
use mathlib.Core.Bool.{Bool, true}
use Prim.Native.Nat.{ℕ, ◌*◌, ◌<◌}
use lib.Dec.{T}
use Rattle.views.specs.Sets.{both, weigh}
use Rattle.views.proofs.CountLaws.{halves-meet}

-- the members below n that `a` has of `c` weigh more than half of `c`
abbrev pub Most : (ℕ → ℕ) → ℕ → (ℕ → Bool) → (ℕ → Bool) → Type 0
Most w n a c = weigh w c n < 2 * weigh w (λ p. both (a p) (c p)) n

-- a member below n that both have, and that weighs something
abbrev pub Common : (ℕ → ℕ) → (ℕ → Bool) → (ℕ → Bool) → ℕ → Type 0
Common w a b n = (p : ℕ) × (p < n) × T (a p) × T (b p) × (0 < w p)

passed : (b : Bool) → b ≡ true → T b
passed b e = rw e tt

pub two-most : (w : ℕ → ℕ) (n : ℕ) (a b c : ℕ → Bool) → Most w n a c → Most w n b c → Common w a b n
two-most w n a b c i j =
    let r = halves-meet w a b c n i j in
    (r.0, r.1, passed (a r.0) r.2, passed (b r.0) r.3, r.5)

pub one-most : (w : ℕ → ℕ) (n : ℕ) (a c : ℕ → Bool) → Most w n a c → Common w a c n
one-most w n a c i =
    let r = halves-meet w a a c n i i in
    (r.0, r.1, passed (a r.0) r.2, passed (c r.0) r.4, r.5)
