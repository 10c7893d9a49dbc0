-- A function changed at one point: of a member or of a view, or of both.
use Rattle.std.specs.Prelude.{cond, ℕ, eqb}

-- f with the value x at q
unfoldable pub at : {A : Type 0} → ℕ → A → (ℕ → A) → ℕ → A
at q x f r = cond (eqb r q) x (f r)

-- f with the value x at q and g
unfoldable pub at2 : {A : Type 0} → ℕ → ℕ → A → (ℕ → ℕ → A) → ℕ → ℕ → A
at2 q g x f r h = cond (eqb r q) (cond (eqb h g) x (f r h)) (f r h)
