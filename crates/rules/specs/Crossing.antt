-- Which views does a set cross? The definitions of the marks of attempted views, of the attempted views that a test
-- picks, newest first, and of the newest attempted view before an identifier; and what is promised of them. M is what a
-- client sends.
use Rattle.std.specs.Prelude.{◌≡◌, Bool, true, not, cond, List, [], ◌∷◌, ◌++◌, ℕ, ◌≤◌, ◌<◌, eqb, ltb}
use Rattle.std.specs.Prelude.{Option, None, Some}
use Rattle.views.specs.declared.View.{View}
use Rattle.views.specs.Members.{In}
use Rattle.views.specs.Points.{at}
use Rattle.views.specs.Sets.{both, is_empty, in_common}
use Rattle.views.specs.Lists.{id_of, view_of}
use Rattle.rules.specs.Data.{Identifier, Member, Group, Step, accepted}
use Rattle.rules.specs.Data.{Event, attempt, register, send, hand, safe}
use Rattle.rules.specs.Member.{passes}
use Rattle.rules.specs.Group.{start, first_view}
use Rattle.rules.specs.Runs.{last_of, answers_of, events_of, Attempted}

-- ---- marks: whether the view with an identifier was attempted

abbrev pub Marks : Type 0
Marks = Identifier → Bool

-- the first view is marked from the start
abbrev pub first_marks : Marks
first_marks g = eqb g (id_of (first_view 0))

-- an attempt marks its view; no event removes a mark
abbrev pub marking : {M : Type 0} → Event M → Marks → Marks
marking (attempt p v) m = at (id_of v) true m
marking (register p g) m = m
marking (send p g x) m = m
marking (hand p g x) m = m
marking (safe p g x) m = m

unfoldable pub marks_after : {M : Type 0} → Marks → List (Event M) → Marks
marks_after m [] = m
marks_after m (e ∷ l) = marks_after (marking e m) l

-- ---- the queries

-- the views of a list that the test picks, the last of them first
unfoldable pub newest_first : (View → Bool) → List View → List View
newest_first f [] = []
newest_first f (v ∷ l) = newest_first f l ++ cond (f v) (v ∷ []) []

-- the marked views that the test picks, among the views made
unfoldable pub picked : List View → Marks → (View → Bool) → List View
picked views m f = newest_first (λ v. both (m (id_of v)) (f v)) views

-- the set T shares a member with the view
abbrev pub shares : ℕ → View → Bool
shares T v = not (is_empty (in_common T v.set))

-- the set T holds a majority of the view: a view with the set T would pass the test against it
abbrev pub holds : (Member → ℕ) → ℕ → View → Bool
holds weight T v = passes weight (view_of 0 T) v

abbrev pub first_of : List View → Option View
first_of [] = None
first_of (v ∷ l) = Some v

unfoldable pub newest_before : List View → Marks → Identifier → Option View
newest_before views m g = first_of (picked views m (λ v. ltb (id_of v) g))

-- ---- what is promised: the answers agree with the replies

-- each identifier is above all that come after it
pub data Falls : List View → Type 0 where
  empty : Falls []
  down : {v : View} {l : List View} → ((w : View) → In w l → id_of w < id_of v) → Falls l → Falls (v ∷ l)

-- the views found are the attempted ones that the test picks, newest first and each once
pub record Crossed {M : Type 0} (S : ℕ) (l : List (Event M)) (f : View → Bool) (found : List View) : Type 0 where
  pub all : (v : View) → Attempted S l v → f v ≡ true → In v found
  pub only : (v : View) → In v found → Attempted S l v × (f v ≡ true)
  pub falls : Falls found

abbrev pub MarksTold : Type 0
MarksTold =
    (weight : Member → ℕ) (n S room : ℕ) (s : Group) → start n S room ≡ accepted s → (steps : List Step)
    → (f : View → Bool)
    → Crossed S (events_of (answers_of weight s steps)) f
    (picked (last_of weight s steps).views (marks_after first_marks (events_of (answers_of weight s steps))) f)

-- the newest attempted view before g, or none if no attempted view is before it
abbrev pub NewestBefore : {M : Type 0} → ℕ → List (Event M) → ℕ → Option View → Type 0
NewestBefore S l g None = (v : View) → Attempted S l v → id_of v < g → ⊥
NewestBefore S l g (Some v) =
    Attempted S l v × (id_of v < g) × ((w : View) → Attempted S l w → id_of w < g → id_of w ≤ id_of v)

abbrev pub NewestTold : Type 0
NewestTold =
    (weight : Member → ℕ) (n S room : ℕ) (s : Group) → start n S room ≡ accepted s → (steps : List Step) (g : ℕ)
    → NewestBefore S (events_of (answers_of weight s steps)) g
    (newest_before (last_of weight s steps).views (marks_after first_marks (events_of (answers_of weight s steps))) g)
