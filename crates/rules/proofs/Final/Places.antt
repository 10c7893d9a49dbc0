-- Places of a list that grows at its end: what is at a place stays there, and what is new comes after the old.
use mathlib.Core.Path.{◌≡◌, refl, sym, ◌∙◌, ap}
use mathlib.Core.Logic.{◌⊎◌, inl, inr}
use mathlib.Core.List.{List, [], ◌∷◌, ◌++◌}
use Prim.Native.Nat.{ℕ, zero, suc, ◌≤◌, ◌<◌}
use native.Mathlib.Omega.{arith}
use lib.ListN.{length}
use Rattle.views.proofs.Members.{In, top, pop}
use Rattle.rules.specs.Figure1.{At}
use Rattle.rules.proofs.Flat.Queues.{no-first, place_in, place-below}

module _ {A : Type 0} where
  pub at_in : (l : List A) (n : ℕ) (x : A) → At l n x → In x l
  at_in l n x h = place_in l n x h.0 h.1

  pub at-below : (l : List A) (n : ℕ) (x : A) → At l n x → n < length l
  at-below l n x h = place-below l n x h.0 h.1

  -- whatever is in a list has a place
  pub in-at : {x : A} {l : List A} → In x l → (n : ℕ) × At l n x
  in-at (top {l}) = (0, (l, refl))
  in-at (pop h) = let r = in-at h in (suc r.0, r.1)

  pub at_more : (l k : List A) (n : ℕ) (x : A) → At l n x → At (l ++ k) n x
  at_more [] k zero x h = absurd (no-first h.1)
  at_more [] k (suc n) x h = absurd (no-first h.1)
  at_more (y ∷ l) k zero x h = (l ++ k, ap (λ (r : List A). first r ∷ (l ++ k)) h.1)
    where
      first : List A → A
      first [] = y
      first (z ∷ r) = z
  at_more (y ∷ l) k (suc n) x h = at_more l k n x h

  -- old or new
  pub at-append : (l k : List A) (n : ℕ) (x : A) → At (l ++ k) n x → At l n x ⊎ ((length l ≤ n) × In x k)
  at-append [] k n x h = inr (omega arith, at_in k n x h)
  at-append (y ∷ l) k zero x h = inl (l, ap (λ (r : List A). first r ∷ l) h.1)
    where
      first : List A → A
      first [] = y
      first (z ∷ r) = z
  at-append (y ∷ l) k (suc n) x h = elim (at-append l k n x h) [ inl i ↦ inl i | inr i ↦ inr (omega (arith, i.0), i.1) ]

  -- a place has one element
  pub at_one : (l : List A) (n : ℕ) (x y : A) → At l n x → At l n y → x ≡ y
  at_one l n x y h i = ap first (sym h.1 ∙ i.1)
    where
      first : List A → A
      first [] = x
      first (z ∷ r) = z
