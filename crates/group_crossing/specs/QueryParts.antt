-- The parts in which the code finds the views: place by place of the list, from the last view made down.
use Rattle.std.specs.Prelude.{Bool, cond, List, [], ◌∷◌, ℕ, zero, suc, ◌*◌, ltb, Option, Some, None}
use Rattle.numbers.specs.Number.{get}
use Rattle.views.specs.declared.View.{View}
use Rattle.views.specs.Sizes.{view_size, identifier_size}
use Rattle.views.specs.Sets.{both, has}
use Rattle.views.specs.Lists.{id_of}
use Rattle.wire.specs.Reader.{view_in}
use Rattle.rules.specs.Data.{Identifier}
use Rattle.group_crossing.specs.Queries.{is_wanted}

-- ---- the two queries that fill a buffer

-- the view at place i is marked, and the test picks it
unfoldable pub pick_at : List ℕ → ℕ → Bool → ℕ → ℕ → Bool
pick_at list marks hold T i = both (has marks i) (is_wanted hold T (view_in list (view_size * i)))

-- the identifiers at the places below n that the test picks, the last first
unfoldable pub ids_below : List ℕ → (ℕ → Bool) → ℕ → List Identifier
ids_below list t zero = []
ids_below list t (suc n) =
    cond (t n) (get list (view_size * n) identifier_size ∷ ids_below list t n) (ids_below list t n)

-- ---- the newest view before an identifier

-- the view at place i is marked, and its identifier is below g
unfoldable pub earlier_at : List ℕ → ℕ → Identifier → ℕ → Bool
earlier_at list marks g i = both (has marks i) (ltb (id_of (view_in list (view_size * i))) g)

-- the last view at the places below n that the test picks
unfoldable pub last_below : List ℕ → (ℕ → Bool) → ℕ → Option View
last_below list t zero = None
last_below list t (suc n) = cond (t n) (Some (view_in list (view_size * n))) (last_below list t n)
