-- Two lists of views put together in one walk.
use Rattle.std.specs.Prelude.{◌≡◌, Bool, true, false, cond, List, [], ◌∷◌, ◌++◌, ℕ, suc, eqb, length}
use Rattle.views.specs.declared.View.{View}
use Rattle.views.specs.Lists.{id_of, is_rising, union_of, above_of, placed}
use Rattle.wire.specs.declared.merging.Merged.{Merged}

-- a view of the list has the identifier g
unfoldable pub has_id : ℕ → List View → Bool
has_id g [] = false
has_id g (v ∷ l) = cond (eqb (id_of v) g) true (has_id g l)

-- how many different identifiers the views of a list have
unfoldable pub different_in : List View → ℕ
different_in [] = 0
different_in (v ∷ l) = cond (has_id (id_of v) l) (different_in l) (suc (different_in l))

-- the views of both lists that are above g, and the number of turns: of rising lists the number of different
-- identifiers in the two, before any view is left out
pub record Merges (k l : List View) (g : ℕ) (r : Merged) : Type 0 where
  pub views : r.views ≡ placed (above_of g (union_of k l))
  pub turns : r.turns ≡ length (union_of k l)
  pub different : is_rising k ≡ true → is_rising l ≡ true → r.turns ≡ different_in (k ++ l)
