-- The group that three ranges of bytes are, and which ranges are sound: refusal 4.
use Rattle.std.specs.Prelude.{Bool, cond, not, List, [], ◌∷◌, ℕ, suc, ◌+◌, ◌%◌, eqb, ltb, leb, length, get_or}
use Rattle.numbers.specs.Number.{get}
use Rattle.views.specs.declared.View.{View}
use Rattle.views.specs.Limits.{max_members, max_views, max_waiting}
use Rattle.views.specs.Sizes.{view_size, layout_number}
use Rattle.views.specs.Sets.{both, has, is_beyond}
use Rattle.views.specs.Lists.{id_of}
use Rattle.wire.specs.Reader.{view_in, views_in}
use Rattle.rules.specs.Data.{Identifier, Member, Entry, Book, Group}
use Rattle.rules.specs.Member.{every}
use Rattle.rules.specs.Sound.{within, conditions, sound}
use Rattle.rules.specs.Group.{fresh}
use Rattle.slots.specs.Slots.{queue_in, slots_fit}
use Rattle.slots.specs.Columns.{entries_ordered, order_fits}
use Rattle.book_bytes.specs.Places.{members_at, self_at}
use Rattle.book_bytes.specs.Books.{book_in, layout_fits}
use Rattle.group_bytes.specs.Places.{room_of, books_size, book_bytes, made_at, marks_at, marks_size, layout_at}
use Rattle.group_bytes.specs.Places.{order_at, waiting_at, queues_size}

-- the three ranges
pub record Ranges : Type 0 where
  pub list : List ℕ
  pub books : List ℕ
  pub queues : List ℕ

abbrev pub ranges : List ℕ → List ℕ → List ℕ → Ranges
ranges list books queues = record { list = list; books = books; queues = queues }

-- the number of members is that of the first book, and of every other
abbrev pub members_of : Ranges → ℕ
members_of r = get_or r.books members_at 0

-- the number of views made, the first included
abbrev pub made_of : Ranges → ℕ
made_of r = get_or r.queues made_at 0

abbrev pub views_made : Ranges → List View
views_made r = views_in r.list 0 (made_of r)

-- the place of the first view with the identifier g; past the last if there is none
unfoldable pub place_of : Identifier → List View → ℕ
place_of g [] = 0
place_of g (v ∷ l) = cond (eqb (id_of v) g) 0 (suc (place_of g l))

-- the marks of the views attempted, a number: bit i is the mark of the view at place i
abbrev pub marks_of : Ranges → ℕ
marks_of r = get r.queues marks_at marks_size

-- the number of the layout that the bytes have
abbrev pub layout_of : Ranges → ℕ
layout_of r = get_or r.queues layout_at 0

-- whether the view with the identifier g is marked; an identifier of no view made has no mark in ranges that fit
unfoldable pub marks_in : Ranges → Identifier → Bool
marks_in r g = has (marks_of r) (place_of g (views_made r))

-- what waits for the member p in the view g, and the view's order; nothing for no member or no view made
unfoldable pub waiting_in : Ranges → Member → Identifier → List Entry
waiting_in r p g = let i = place_of g (views_made r) in
    cond (both (ltb p (members_of r)) (ltb i (made_of r))) (queue_in r.queues (waiting_at i p) (waiting_at i p + 1)) []

unfoldable pub order_in : Ranges → Identifier → List Entry
order_in r g =
    let i = place_of g (views_made r) in cond (ltb i (made_of r)) (entries_ordered r.queues (order_at i)) []

-- the book of the member p; of no member the book that a start gives one outside the first view
unfoldable pub book_of : Ranges → Member → Book
book_of r p = cond (ltb p (members_of r)) (book_in (book_bytes r.books p)) (fresh (view_in r.list 0).set p)

unfoldable pub group_in : Ranges → Group
group_in r = record {
  members = members_of r;
  room = room_of r.list;
  views = views_made r;
  books = book_of r;
  waiting = waiting_in r;
  order = order_in r;
}

-- ---- what only bytes can hold: a length, a mark or a count outside its limits, an entry of unknown kind

-- a queue with its count at c
abbrev pub queue_fits : List ℕ → ℕ → ℕ → Bool
queue_fits q limit c = both (leb (get_or q c 0) limit) (slots_fit q (c + 1) (get_or q c 0))

-- the queues of the view at place i, of n members
unfoldable pub table_fits : List ℕ → ℕ → ℕ → Bool
table_fits q n i = both (order_fits q (order_at i)) (every n (λ p. queue_fits q max_waiting (waiting_at i p)))

-- the book of p is one of n members, and p's own
unfoldable pub seat_fits : List ℕ → ℕ → ℕ → Bool
seat_fits books n p = let b = book_bytes books p in
    conditions (layout_fits b ∷ eqb (get_or b members_at 0) n ∷ eqb (get_or b self_at 0) p ∷ [])

unfoldable pub ranges_fit : Ranges → Bool
ranges_fit r = conditions (
    eqb (length r.list % view_size) 0
    ∷ within 1 (room_of r.list) max_views
    ∷ eqb (length r.books) books_size
    ∷ eqb (length r.queues) (queues_size (room_of r.list))
    ∷ within 1 (members_of r) max_members
    ∷ within 1 (made_of r) (room_of r.list)
    ∷ not (is_beyond (marks_of r) (made_of r))
    ∷ eqb (layout_of r) layout_number
    ∷ every (members_of r) (seat_fits r.books (members_of r))
    ∷ every (made_of r) (table_fits r.queues (members_of r))
    ∷ [])

unfoldable pub ranges_sound : Ranges → Bool
ranges_sound r = both (ranges_fit r) (sound (group_in r))
