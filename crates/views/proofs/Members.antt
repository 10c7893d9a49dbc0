-- Membership in a list.
use mathlib.Core.Path.{◌≡◌, refl, subst}
use mathlib.Core.Logic.{◌⊎◌, inl, inr}
use mathlib.Core.List.{List, [], ◌∷◌, ◌++◌}
pub use Rattle.views.specs.Members.{In, top, pop}

pub in-nil : {A : Type 0} {x : A} → In x [] → ⊥
in-nil h = elim h [ ]

-- at the front, or behind it
pub in-cons : {A : Type 0} {x y : A} {l : List A} → In x (y ∷ l) → (x ≡ y) ⊎ In x l
in-cons top = inl refl
in-cons (pop h) = inr h

-- equal to the front
pub in_top : {A : Type 0} {x y : A} {l : List A} → x ≡ y → In x (y ∷ l)
in_top {A} {x} {y} {l} e = subst (λ (z : A). In x (z ∷ l)) e top

pub in_left : {A : Type 0} {x : A} {l : List A} (m : List A) → In x l → In x (l ++ m)
in_left m top = top
in_left m (pop h) = pop (in_left m h)

pub in_right : {A : Type 0} {x : A} (l : List A) {m : List A} → In x m → In x (l ++ m)
in_right [] h = h
in_right (y ∷ l) h = pop (in_right l h)

pub in-append : {A : Type 0} {x : A} (l : List A) {m : List A} → In x (l ++ m) → In x l ⊎ In x m
in-append [] h = inr h
in-append (y ∷ l) top = inl top
in-append (y ∷ l) (pop h) = elim (in-append l h) [ inl k ↦ inl (pop k) | inr k ↦ inr k ]
