-- Lists of views, rising by identifier: the definitions on plain lists, and how a list lies in the places of a record.
use Rattle.std.specs.Prelude.{Bool, true, cond, List, [], ◌∷◌, ◌++◌, ℕ, eqb, ltb, length, take, replicate, Option}
use Rattle.views.specs.declared.View.{View}
use Rattle.views.specs.declared.list.Views.{Views}
use Rattle.std.specs.Prelude.{Some, None}
use Rattle.views.specs.Limits.{max_views}
use Rattle.views.specs.Sets.{both}

-- a view's identifier as a number
abbrev pub id_of : View → ℕ
id_of v = v.id.0

-- the view of an identifier and a set
abbrev pub view_of : ℕ → ℕ → View
view_of g S = record { id = record { 0 = g }; set = S }

-- the identifiers rise, the first from above g
unfoldable pub rises_above : ℕ → List View → Bool
rises_above g [] = true
rises_above g (v ∷ l) = both (ltb g (id_of v)) (rises_above (id_of v) l)

-- each identifier is below the next
unfoldable pub is_rising : List View → Bool
is_rising [] = true
is_rising (v ∷ l) = rises_above (id_of v) l

-- the first view with the identifier g
unfoldable pub find_of : ℕ → List View → Option View
find_of g [] = None
find_of g (v ∷ l) = cond (eqb (id_of v) g) (Some v) (find_of g l)

-- x put before the first view that is not below it, unless that one has its identifier
unfoldable pub insert_of : View → List View → List View
insert_of x [] = x ∷ []
insert_of x (y ∷ l) =
    cond (ltb (id_of y) (id_of x)) (y ∷ insert_of x l) (cond (eqb (id_of x) (id_of y)) (y ∷ l) (x ∷ y ∷ l))

-- x among the views of a list: those below x before it, and after it what `rest` makes of the others, less the one with
-- x's identifier
unfoldable pub among : View → (List View → List View) → List View → List View
among x rest [] = x ∷ rest []
among x rest (y ∷ l) =
    cond (ltb (id_of y) (id_of x)) (y ∷ among x rest l) (x ∷ rest (cond (eqb (id_of x) (id_of y)) l (y ∷ l)))

-- both lists together, by identifier; of two views with one identifier the first list's
unfoldable pub union_of : List View → List View → List View
union_of [] l = l
union_of (x ∷ k) l = among x (union_of k) l

-- only the views above g
unfoldable pub above_of : ℕ → List View → List View
above_of g [] = []
above_of g (v ∷ l) = cond (ltb g (id_of v)) (v ∷ above_of g l) (above_of g l)

-- ---- a list in its places

-- what an unused place holds
abbrev pub no_view : View
no_view = record { id = record { 0 = 0 }; set = 0 }

-- the list that a record holds: its first views, as many as its count says and there are places
abbrev pub list_of : Views → List View
list_of v = take v.count v.at

-- the first views of a list, and unused places behind them
unfoldable pub places : List View → List View
places l = take max_views (l ++ replicate max_views no_view)

-- the record of a list: of one too long for the places, its count and the first views
abbrev pub placed : List View → Views
placed l = record { count = length l; at = places l }
