-- x is one of a list.
use Rattle.std.specs.Prelude.{List, ◌∷◌}

pub data In {A : Type 0} (x : A) : List A → Type 0 where
  top : {l : List A} → In x (x ∷ l)
  pop : {y : A} {l : List A} → In x l → In x (y ∷ l)
