-- What ranges that fit say, in words of numbers, both ways.
use mathlib.Core.Path.{◌≡◌}
use mathlib.Core.Bool.{true, not}
use mathlib.Core.List.{List, []}
use Prim.Native.Nat.{ℕ, ◌+◌, ◌%◌, ◌^◌, ◌≤◌, ◌<◌}
use native.Mathlib.Omega.{arith}
use borrow.Author.Tests.{eqb-true, leb-true, leb-false, eq-eqb, le-leb, lt-leb, not-true}
use lib.Dec.{leb}
use lib.ListN.{length, get_or}
use Rattle.views.specs.Limits.{max_members, max_views, max_waiting, max_ordered}
use Rattle.views.specs.Sizes.{view_size, layout_number}
use Rattle.views.specs.Sets.{is_beyond}
use Rattle.views.proofs.SetLaws.{both_true}
use Rattle.rules.specs.Data.{Group}
use Rattle.rules.proofs.TestLaws.{◌and◌, both-from, within-says, within-from, every-at, every-from, conditions-say, conditions-from}
use Rattle.slots.specs.Slots.{slots_fit, fits_kind}
use Rattle.slots.specs.Columns.{firsts, order_kind, order_count, entries_ordered, order_fits}
use Rattle.book_bytes.specs.Places.{members_at, self_at}
use Rattle.book_bytes.proofs.LayoutLaws.{Layout, layout-says, layout-from}
use Rattle.group_bytes.specs.Places.{room_of, books_size, book_bytes, order_at, waiting_at, queues_size}
use Rattle.group_bytes.specs.Groups.{Ranges, members_of, made_of, marks_of, layout_of, queue_fits, table_fits, seat_fits, ranges_fit, group_in}
pub use Rattle.group_bytes.specs.Promises.{RangesBytes}

-- ranges are their three parts
pub same-ranges : (x y : Ranges) → x.list ≡ y.list → x.books ≡ y.books → x.queues ≡ y.queues → x ≡ y
same-ranges x y p q r = λ i. record { list = p i; books = q i; queues = r i }

-- ---- a queue with its count at c

pub record Queued (q : List ℕ) (limit c : ℕ) : Type 0 where
  pub few : get_or q c 0 ≤ limit
  pub slots : slots_fit q (c + 1) (get_or q c 0) ≡ true

pub queue_says : (q : List ℕ) (limit c : ℕ) → queue_fits q limit c ≡ true → Queued q limit c
queue_says q limit c h = let t = both_true (leb (get_or q c 0) limit) (slots_fit q (c + 1) (get_or q c 0)) h in record { few = leb-true _ _ t.0; slots = t.1 }

pub queue-from : (q : List ℕ) (limit c : ℕ) → Queued q limit c → queue_fits q limit c ≡ true
queue-from q limit c h = both-from _ _ (le-leb _ _ h.few) h.slots

-- ---- an order with its count at c

pub record Columned (q : List ℕ) (c : ℕ) : Type 0 where
  pub few : get_or q c 0 ≤ max_ordered
  pub kinds : (k : ℕ) → k < get_or q c 0 → fits_kind (get_or q (order_kind c k) 0) (get_or q (order_count c k) 0) ≡ true

pub order-says : (q : List ℕ) (c : ℕ) → order_fits q c ≡ true → Columned q c
unfolding order_fits
order-says q c h = let t = both_true (leb (get_or q c 0) max_ordered) _ h in record { few = leb-true _ _ t.0; kinds = every-at (get_or q c 0) _ t.1 }

pub order_from : (q : List ℕ) (c : ℕ) → Columned q c → order_fits q c ≡ true
unfolding order_fits
order_from q c h = both-from _ _ (le-leb _ _ h.few) (every-from (get_or q c 0) _ h.kinds)

-- with nothing in it
pub no-order : (q : List ℕ) (c : ℕ) → get_or q c 0 ≡ 0 → Columned q c × (entries_ordered q c ≡ [])
unfolding firsts
no-order q c z = (record { few = omega (arith, z); kinds = λ k h. absurd (omega (arith, z)) }, rw z)

-- ---- the queues of the view at place i

pub record Tabled (q : List ℕ) (n i : ℕ) : Type 0 where
  pub order : Columned q (order_at i)
  pub waiting : (p : ℕ) → p < n → Queued q max_waiting (waiting_at i p)

pub table-says : (q : List ℕ) (n i : ℕ) → table_fits q n i ≡ true → Tabled q n i
unfolding table_fits
table-says q n i h =
    let t = both_true _ _ h in
    record { order = order-says q (order_at i) t.0; waiting = λ p k. queue_says q max_waiting (waiting_at i p) (every-at n _ t.1 p k) }

pub table-from : (q : List ℕ) (n i : ℕ) → Tabled q n i → table_fits q n i ≡ true
unfolding table_fits
table-from q n i t = both-from _ _ (order_from q (order_at i) t.order) (every-from n _ (λ p k. queue-from q max_waiting (waiting_at i p) (t.waiting p k)))

-- ---- the book of p, of n members

pub record InPlace (books : List ℕ) (n p : ℕ) : Type 0 where
  pub layout : Layout (book_bytes books p)
  pub members : get_or (book_bytes books p) members_at 0 ≡ n
  pub self : get_or (book_bytes books p) self_at 0 ≡ p

pub place-says : (books : List ℕ) (n p : ℕ) → seat_fits books n p ≡ true → InPlace books n p
unfolding seat_fits
place-says books n p h =
    let (layout, (members, (self, _))) = conditions-say _ h in
    record { layout = layout-says _ layout; members = eqb-true _ _ members; self = eqb-true _ _ self }

pub place-from : (books : List ℕ) (n p : ℕ) → InPlace books n p → seat_fits books n p ≡ true
unfolding seat_fits
place-from books n p s = conditions-from _ (layout-from _ s.layout and eq-eqb _ _ s.members and eq-eqb _ _ s.self and tt)

-- ---- the ranges

pub record Ranged (r : Ranges) : Type 0 where
  pub whole : length r.list % view_size ≡ 0
  pub room : (1 ≤ room_of r.list) × (room_of r.list ≤ max_views)
  pub books : length r.books ≡ books_size
  pub queues : length r.queues ≡ queues_size (room_of r.list)
  pub members : (1 ≤ members_of r) × (members_of r ≤ max_members)
  pub made : (1 ≤ made_of r) × (made_of r ≤ room_of r.list)
  pub marks : marks_of r < 2 ^ made_of r
  pub layout : layout_of r ≡ layout_number
  pub in_place : (p : ℕ) → p < members_of r → InPlace r.books (members_of r) p
  pub tables : (i : ℕ) → i < made_of r → Tabled r.queues (members_of r) i

-- no mark past the views made
pub marks-says : (m made : ℕ) → not (is_beyond m made) ≡ true → m < 2 ^ made
unfolding is_beyond
marks-says m made h = leb-false _ _ (not-true _ h)

pub marks-from : (m made : ℕ) → m < 2 ^ made → not (is_beyond m made) ≡ true
unfolding is_beyond
marks-from m made h = rw (lt-leb _ _ h)

pub ranges-says : (r : Ranges) → ranges_fit r ≡ true → Ranged r
unfolding ranges_fit
ranges-says r h =
    let (whole, (room, (books, (queues, (members, (made, (marks, (layout, (in_place, (tables, _)))))))))) = conditions-say _ h in
    record {
      whole = eqb-true _ _ whole;
      room = within-says _ _ _ room;
      books = eqb-true _ _ books;
      queues = eqb-true _ _ queues;
      members = within-says _ _ _ members;
      made = within-says _ _ _ made;
      marks = marks-says _ _ marks;
      layout = eqb-true _ _ layout;
      in_place = λ p k. place-says r.books (members_of r) p (every-at (members_of r) _ in_place p k);
      tables = λ i k. table-says r.queues (members_of r) i (every-at (made_of r) _ tables i k);
    }

pub ranges-from : (r : Ranges) → Ranged r → ranges_fit r ≡ true
unfolding ranges_fit
ranges-from r s =
    conditions-from _ (
    eq-eqb _ _ s.whole
    and within-from _ _ _ s.room.0 s.room.1
    and eq-eqb _ _ s.books
    and eq-eqb _ _ s.queues
    and within-from _ _ _ s.members.0 s.members.1
    and within-from _ _ _ s.made.0 s.made.1
    and marks-from _ _ s.marks
    and eq-eqb _ _ s.layout
    and every-from (members_of r) _ (λ p k. place-from r.books (members_of r) p (s.in_place p k))
    and every-from (made_of r) _ (λ i k. table-from r.queues (members_of r) i (s.tables i k))
    and tt
    )

-- ---- the ranges r are the group s

pub record MeansGroup (r : Ranges) (s : Group) : Type 0 where
  pub group : group_in r ≡ s
  pub fits : Ranged r
  pub bytes : RangesBytes r
