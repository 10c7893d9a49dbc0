-- What is promised of the walk that joins an info's open views to a book's.
use Rattle.std.specs.Prelude.{◌≡◌, true, List, ◌++◌, ℕ, ◌+◌, ◌-◌, get_or, Ok}
use Rattle.views.specs.declared.View.{View}
use Rattle.views.specs.Sizes.{view_size}
use Rattle.views.specs.Lists.{id_of, rises_above}
use Rattle.wire.specs.declared.Reading.{Reading}
use Rattle.wire.specs.declared.merging.Merged.{Merged}
use Rattle.wire.specs.Reader.{views_at, view_count, views_in, read_front}
use Rattle.wire.specs.Merges.{different_in, Merges}
use Rattle.book_bytes.specs.Places.{opens_at}
use Rattle.book_bytes.specs.Books.{book_in, bytes_sound}

-- the walk that joins l to the open views of the book b, whatever it leaves out, takes exactly as many turns as there
-- are different identifiers in the two lists
abbrev pub TurnsWith : List ℕ → List View → Type 0
TurnsWith b l =
    (g : ℕ) (r : Merged) → Merges (views_in b (opens_at + 1) (get_or b opens_at 0)) l g r
    → r.turns ≡ different_in ((book_in b).held.opens ++ l)

-- in a sound book
pub record InfoTurns : Type 0 where
  -- with an info whose open views rise above its settled view x: 4 asks that of every queued one
  pub queued : (b : List ℕ) → bytes_sound b ≡ true → (x : View) (l : List View) → rises_above (id_of x) l ≡ true
      → TurnsWith b l
  -- with the open views of a message that was read, by itself or in a packet; they stand behind the settled one
  pub read : (b : List ℕ) → bytes_sound b ≡ true → (c : List ℕ) (r : Reading) → read_front c ≡ Ok r
      → TurnsWith b (views_in c (views_at + view_size) (view_count c - 1))
