-- Zeros: nothing noted, no count told, no entry and no item.
use mathlib.Core.Path.{◌≡◌, refl, fun_ext}
use mathlib.Core.Bool.{true, false}
use mathlib.Core.List.{List, []}
use Prim.Native.Nat.{ℕ, zero, suc}
use native.Mathlib.Omega.{arith}
use lib.ListN.{get_or, replicate}
use Rattle.views.specs.Sets.{has}
use Rattle.views.proofs.SetLaws.{has-none}
use Rattle.wire.proofs.TripViews.{AreBytes}
use Rattle.slots.specs.Slots.{entries_in, slots_fit}
use Rattle.slots.specs.Columns.{firsts, items_in}

pub none-noted : has 0 ≡ (λ q. false)
none-noted = fun_ext has-none

pub zero-at : (n j : ℕ) → ◌≡◌ {A = ℕ} (get_or (replicate n 0) j 0) 0
zero-at zero j = refl
zero-at (suc n) zero = refl
zero-at (suc n) (suc j) = zero-at n j

pub none_told : (n : ℕ) → ◌≡◌ {A = ℕ → ℕ} (λ q. get_or (replicate n 0) q 0) (λ q. 0)
none_told n = fun_ext (zero-at n)

pub zero-bytes : (n : ℕ) → AreBytes (replicate n 0)
zero-bytes n j = omega (arith, zero-at n j)

-- a queue, slots and items whose count is zero

pub no-entries : (b : List ℕ) (at k : ℕ) → k ≡ 0 → entries_in b at k ≡ []
unfolding entries_in
no-entries b at k e = rw e

pub no-slots : (b : List ℕ) (at k : ℕ) → k ≡ 0 → slots_fit b at k ≡ true
unfolding slots_fit
no-slots b at k e = rw e

pub no_items : (b : List ℕ) (c : ℕ) → get_or b c 0 ≡ 0 → items_in b c ≡ []
unfolding firsts
no_items b c e = rw e
