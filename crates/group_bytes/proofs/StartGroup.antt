-- The ranges that an accepted start leaves are the started group of the rules.
use mathlib.Core.Path.{◌≡◌, refl, ap, fun_ext, ◌∙◌}
use mathlib.Core.Logic.{inl, ⊎_elim}
use mathlib.Core.Bool.{Bool, true, false, cond}
use mathlib.Core.List.{List, [], ◌∷◌}
use Prim.Native.Nat.{ℕ, zero, suc, ◌+◌, ◌/◌, ◌%◌, ◌≤◌, ◌<◌}
use native.Mathlib.Decide.{ℕ_discrete}
use native.Mathlib.Omega.{arith}
use borrow.Author.Tests.{ltb-true}
use lib.Dec.{ltb}
use lib.ListN.{length, get_or, set, replicate, length-set, length-replicate}
use lib.Seq.{get_or-set_same, get_or-set_other}
use Rattle.numbers.specs.Number.{put}
use Rattle.numbers.proofs.NumberLaws.{length-put, put-below, put-past, get-put-same}
use Rattle.views.specs.declared.View.{View}
use Rattle.views.specs.Limits.{max_members, max_views, max_waiting}
use Rattle.views.specs.Sizes.{view_size, layout_number}
use Rattle.views.specs.Sets.{both, fits}
use Rattle.views.proofs.SetLaws.{known}
use Rattle.wire.specs.Reader.{view_in, views_in}
use Rattle.wire.proofs.TripViews.{AreBytes}
use Rattle.rules.specs.Data.{Entry}
use Rattle.rules.specs.Group.{first_view, fresh, started}
use Rattle.slots.proofs.Outside.{Changed, get-apart, set-changed}
use Rattle.slots.proofs.Stored.{view-stored}
use Rattle.slots.proofs.BytesKept.{set-bytes, put-bytes, store_view-bytes}
use Rattle.book_bytes.specs.Places.{book_size}
use Rattle.book_bytes.proofs.Blank.{zero-at, zero-bytes, no-entries, no-slots}
use Rattle.book_bytes.specs.Starts.{start_bytes}
use Rattle.book_bytes.proofs.StartBook.{fits_byte, start-size, start-layout, start-members, start-self, start-book, start-bytes}
use Rattle.group_bytes.specs.Places.{room_of, books_size, book_bytes, made_at, marks_at, marks_size, layout_at, order_at, waiting_at, queues_size}
use Rattle.group_bytes.specs.Groups.{Ranges, members_of, made_of, marks_of, layout_of, views_made, place_of, book_of, waiting_in, order_in, group_in}
use Rattle.group_bytes.specs.Starts.{start_books, start_ranges}
use Rattle.group_bytes.proofs.RangesLaws.{RangesBytes, Queued, no-order, Tabled, InPlace, Ranged, MeansGroup}
use Rattle.group_bytes.proofs.BookBytes.{first-members, book-size, with-bytes, with_size, with-own, with-other}

-- what start asks: 4 for ranges not of their lengths, then 1, 2, 3
pub record Startable (n S : ℕ) (r : Ranges) : Type 0 where
  pub whole : length r.list % view_size ≡ 0
  pub room : (1 ≤ room_of r.list) × (room_of r.list ≤ max_views)
  pub books : length r.books ≡ books_size
  pub queues : length r.queues ≡ queues_size (room_of r.list)
  pub members : (1 ≤ n) × (n ≤ max_members)
  pub set : fits n S ≡ true

-- ---- the books

module _ (n S : ℕ) (byte : S < 256) (books : List ℕ) (size : length books ≡ books_size) where
  abbrev own : ℕ → List ℕ
  own p = start_bytes n S p (book_bytes books p)

  own-size : (p : ℕ) → p < max_members → length (own p) ≡ book_size
  own-size p h = start-size n S p (book_bytes books p) (book-size books size p h) byte

  books-size : (k : ℕ) → k ≤ max_members → length (start_books n S k books) ≡ books_size
  unfolding start_books
  books-size zero h = length-replicate {A = ℕ} (length books) 0 ∙ size
  books-size (suc k) h =
      let before = books-size k (omega arith) in
      with_size (start_books n S k books) before k (omega arith) (own k) (own-size k (omega arith)) ∙ before

  books-own : (k : ℕ) → k ≤ max_members → (p : ℕ) → p < k → book_bytes (start_books n S k books) p ≡ own p
  unfolding start_books
  books-own zero h p i = absurd (omega arith)
  books-own (suc k) h p i =
      let before = books-size k (omega arith) in
      elim (ℕ_discrete p k) [
        | yes e ↦ rw e (with-own (start_books n S k books) before k (omega arith) (own k) (own-size k (omega arith)))
        | no e ↦
            with-other (start_books n S k books) before k (omega arith) (own k) (own-size k (omega arith)) p (omega arith) e
            ∙ books-own k (omega arith) p (omega (arith, e))
      ]

  books-bytes : n < 256 → (k : ℕ) → k ≤ max_members → AreBytes (start_books n S k books)
  unfolding start_books
  books-bytes few zero h = zero-bytes (length books)
  books-bytes few (suc k) h =
      with-bytes (start_books n S k books) k (own k) (books-bytes few k (omega arith))
      (start-bytes n S k (book_bytes books k) (book-size books size k (omega arith)) byte few (omega arith))

-- ---- the ranges

-- a list with nothing in it, whichever way
none-either : (c : Bool) (l : List Entry) → l ≡ [] → cond c l [] ≡ []
none-either true l e = e
none-either false l e = refl

module _ (n S : ℕ) (r : Ranges) (asks : Startable n S r) where
  byte : S < 256
  byte = fits_byte n S asks.members.1 asks.set

  abbrev after : Ranges
  after = start_ranges n S r

  abbrev blank-list : List ℕ
  blank-list = replicate (length r.list) 0

  abbrev blank-queues : List ℕ
  blank-queues = replicate (length r.queues) 0

  abbrev one-made : List ℕ
  one-made = set blank-queues made_at 1

  abbrev one-marked : List ℕ
  one-marked = put one-made marks_at marks_size 1

  made-size : length one-made ≡ length r.queues
  made-size = length-set blank-queues made_at 1 ∙ length-replicate {A = ℕ} (length r.queues) 0

  marked-size : length one-marked ≡ length r.queues
  marked-size = length-put one-made marks_at marks_size 1 ∙ made-size

  numbered : Changed one-marked after.queues layout_at 1
  unfolding start_ranges
  numbered = set-changed one-marked layout_at layout_number

  list-size : length after.list ≡ length r.list
  unfolding start_ranges
  list-size = length-set (put blank-list 0 4 0) 4 S ∙ length-put blank-list 0 4 0 ∙ length-replicate {A = ℕ} (length r.list) 0

  queues-size : length after.queues ≡ length r.queues
  unfolding start_ranges
  queues-size = numbered.long ∙ marked-size

  made_one : made_of after ≡ 1
  unfolding start_ranges
  made_one =
      numbered.below made_at (omega arith)
      ∙ put-below one-made marks_at marks_size 1 made_at (omega arith)
      ∙ get_or-set_same blank-queues made_at 1 0 (omega (arith, length-replicate {A = ℕ} (length r.queues) 0, asks.queues))

  -- the first view's mark alone
  pub marks-one : marks_of after ≡ 1
  unfolding start_ranges
  marks-one =
      get-apart numbered marks_at marks_size (inl (omega arith))
      ∙ get-put-same one-made marks_at marks_size 1 (omega (arith, made-size, asks.queues)) (omega arith)

  layout_is : layout_of after ≡ layout_number
  unfolding start_ranges
  layout_is = get_or-set_same one-marked layout_at layout_number 0 (omega (arith, marked-size, asks.queues))

  -- every other byte of the queues is zero
  queues-zero : (j : ℕ) → layout_at < j → get_or after.queues j 0 ≡ 0
  unfolding start_ranges
  queues-zero j h =
      numbered.past j (omega arith)
      ∙ put-past one-made marks_at marks_size 1 j (omega arith)
      ∙ get_or-set_other blank-queues made_at j 1 0 (λ e. omega arith) ∙ zero-at (length r.queues) j

  first-view : view_in after.list 0 ≡ first_view S
  unfolding start_ranges
  first-view = view-stored blank-list 0 (first_view S) (omega arith) (omega (arith, length-replicate {A = ℕ} (length r.list) 0, asks.room.0))

  book-at : (p : ℕ) → p < n → book_bytes after.books p ≡ start_bytes n S p (book_bytes r.books p)
  unfolding start_ranges
  book-at p h = books-own n S byte r.books asks.books n asks.members.1 p h

  size-at : (p : ℕ) → p < n → length (book_bytes r.books p) ≡ book_size
  size-at p h = book-size r.books asks.books p (omega (arith, asks.members.1))

  members-are : members_of after ≡ n
  members-are =
      first-members after.books ∙ rw (book-at 0 asks.members.0)
      (start-members n S 0 (book_bytes r.books 0) (size-at 0 asks.members.0) byte)

  -- ---- the group

  pub views-are : views_made after ≡ first_view S ∷ []
  unfolding views_in
  views-are = rw (made_one, first-view)

  book-are : (p : ℕ) → book_of after p ≡ fresh S p
  unfolding book_of
  book-are p =
      ⊎_elim
      (λ (t : ltb p n ≡ true).
      let h = ltb-true p n t in
      rw (members-are, t, book-at p h) (start-book n S p (book_bytes r.books p) (size-at p h) byte))
      (λ (t : ltb p n ≡ false). rw (members-are, t) (ap (λ (v : View). fresh v.set p) first-view))
      (known (ltb p n))

  waiting-are : (p g : ℕ) → waiting_in after p g ≡ []
  unfolding waiting_in
  waiting-are p g =
      let i = place_of g (views_made after) in
      let w = waiting_at i p in
      none-either (both (ltb p (members_of after)) (ltb i (made_of after))) _ (no-entries after.queues (w + 1) (get_or after.queues w 0) (queues-zero w (omega arith)))

  order-are : (g : ℕ) → order_in after g ≡ []
  unfolding order_in
  order-are g =
      let i = place_of g (views_made after) in
      let o = order_at i in
      none-either (ltb i (made_of after)) _ (no-order after.queues o (queues-zero o (omega arith))).1

  group-is : group_in after ≡ started n S (room_of r.list)
  unfolding group_in started
  group-is = λ i. record {
    members = members-are i;
    room = list-size i / view_size;
    views = views-are i;
    books = fun_ext book-are i;
    waiting = fun_ext (λ (p : ℕ). fun_ext (waiting-are p)) i;
    order = fun_ext order-are i;
  }

  -- ---- the ranges fit

  none-queued : (limit c : ℕ) → layout_at < c → Queued after.queues limit c
  none-queued limit c h = let z = queues-zero c h in record { few = omega (arith, z); slots = no-slots after.queues (c + 1) _ z }

  place_is : (p : ℕ) → p < n → InPlace after.books n p
  place_is p h =
      let b = book_bytes r.books p in
      record {
        layout = rw (book-at p h) (start-layout n S p b (size-at p h) byte);
        members = rw (book-at p h) (start-members n S p b (size-at p h) byte);
        self = rw (book-at p h) (start-self n S p b (size-at p h) byte);
      }

  table_is : (i : ℕ) → Tabled after.queues n i
  table_is i = record {
    order = (no-order after.queues (order_at i) (queues-zero (order_at i) (omega arith))).0;
    waiting = λ p h. none-queued max_waiting (waiting_at i p) (omega arith);
  }

  length-books : length after.books ≡ books_size
  unfolding start_ranges
  length-books = books-size n S byte r.books asks.books n asks.members.1

  fits_after : Ranged after
  fits_after = record {
    whole = rw list-size asks.whole;
    room = rw list-size asks.room;
    books = length-books;
    queues = rw list-size (queues-size ∙ asks.queues);
    members = rw members-are asks.members;
    made = rw (made_one, list-size) (omega arith, asks.room.0);
    marks = rw (marks-one, made_one) (omega arith);
    layout = layout_is;
    in_place = rw members-are place_is;
    tables = rw members-are (λ (i : ℕ) (h : i < made_of after). table_is i);
  }

  bytes_after : RangesBytes after
  unfolding start_ranges
  bytes_after = record {
    list = store_view-bytes blank-list 0 (first_view S) (zero-bytes (length r.list)) byte;
    books = books-bytes n S byte r.books asks.books (omega (arith, asks.members.1)) n asks.members.1;
    queues =
        set-bytes one-marked layout_at layout_number
        (put-bytes one-made marks_at marks_size 1 (set-bytes blank-queues made_at 1 (zero-bytes (length r.queues)) (omega arith))) (omega arith);
  }

  pub start-group : MeansGroup (start_ranges n S r) (started n S (room_of r.list))
  start-group = record { group = group-is; fits = fits_after; bytes = bytes_after }
