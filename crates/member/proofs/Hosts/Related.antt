-- Two lists that are related place by place.
use mathlib.Core.Path.{◌≡◌, refl, subst}
use mathlib.Core.List.{List, [], ◌∷◌, ◌++◌}
use Prim.Native.Nat.{ℕ, zero, suc}
use lib.ListN.{drop}

pub data Pairs {A B : Type 0} (R : A → B → Type 0) : List A → List B → Type 0 where
  none : Pairs R [] []
  more : {x : A} {y : B} {l : List A} {k : List B} → R x y → Pairs R l k → Pairs R (x ∷ l) (y ∷ k)

-- what is related to a first one and the rest
pub record Front {A B : Type 0} (R : A → B → Type 0) (x : A) (l : List A) (k : List B) : Type 0 where
  pub first : B
  pub rest : List B
  pub is : k ≡ first ∷ rest
  pub related : R x first
  pub others : Pairs R l rest

module _ {A B : Type 0} {R : A → B → Type 0} where
  -- one more at the end
  pub pairs-snoc : {l : List A} {k : List B} (x : A) (y : B) → Pairs R l k → R x y → Pairs R (l ++ (x ∷ [])) (k ++ (y ∷ []))
  pairs-snoc x y none r = more r none
  pairs-snoc x y (more s h) r = more s (pairs-snoc x y h r)

  front : (x : A) (l : List A) {k : List B} → Pairs R (x ∷ l) k → Front R x l k
  front x l (more {y = y} {k = k} r h) = record { first = y; rest = k; is = refl; related = r; others = h }

  pub pairs-front : (l : List A) (k : List B) (x : A) (r : List A) → l ≡ x ∷ r → Pairs R l k → Front R x r k
  pairs-front l k x r e h = front x r (subst (λ (l : List A). Pairs R l k) e h)

  pub pairs-drop : (n : ℕ) {l : List A} {k : List B} → Pairs R l k → Pairs R (drop n l) (drop n k)
  pairs-drop zero h = h
  pairs-drop (suc n) none = none
  pairs-drop (suc n) (more r h) = pairs-drop n h
