-- Where the records of a group stand, and from sound ranges to their parts: the sizes, the list, each member's book, the queues of each view made.
use mathlib.Core.Path.{◌≡◌, refl, sym, ap, ◌∙◌}
use mathlib.Core.Bool.{true, not}
use Rattle.std.specs.Prelude.{Option, None, Some}
use mathlib.Core.List.{List}
use Prim.Native.Nat.{ℕ, ◌+◌, ◌<◌, ◌≤◌}
use native.Mathlib.Omega.{arith}
use borrow.Author.Tests.{lt-ltb, le-leb, eq-eqb}
use lib.ListN.{length, get_or}
use Rattle.views.specs.declared.View.{View}
use Rattle.views.specs.Limits.{max_members, max_outgoing, max_ordered}
use Rattle.views.specs.Sets.{is_empty, is_beyond}
use Rattle.views.specs.Lists.{id_of, is_rising, no_view}
use Rattle.views.proofs.Members.{In}
use Rattle.wire.proofs.ReaderLaws.{length-views_in}
use Rattle.rules.specs.Sound as S
use Rattle.rules.specs.Sound.{set_fits, book_listed}
use Rattle.rules.specs.Alone.{book_sound}
use Rattle.rules.proofs.TestLaws.{◌and◌, both-from, within-from, every-from, conditions-from, all_from}
use Rattle.rules.proofs.Sound.Books.{BookSound}
use Rattle.rules.proofs.Sound.{in_group, QueueSound, Sound}
use Rattle.slots.specs.Slots.{queue_in}
use Rattle.slots.specs.Columns.{order_entry, entries_ordered}
use Rattle.slots.proofs.Columns.{length-firsts}
use Rattle.book_bytes.specs.Records.{record_in}
use Rattle.book_bytes.specs.Books.{outgoing_in, book_in, bytes_sound}
use Rattle.book_bytes.proofs.LayoutLaws.{layout-from}
use Rattle.group_bytes.specs.Places.{book_bytes, order_at, waiting_at}
use Rattle.group_bytes.specs.Groups.{Ranges, members_of, made_of, views_made, place_of, waiting_in, order_in, book_of, group_in}
use Rattle.group_bytes.proofs.RangesLaws.{Ranged, marks-from}
use Rattle.group_sound.specs.Parts.{sizes_fit, numbers_fit, record_listed, ordered_in, book_known, member_sound, order_sound, waiting_sound, table_sound, records_sound, parts_sound}
use Rattle.group_bytes.proofs.PlaceLaws.{place_in}
use Rattle.group_bytes.proofs.PlaceTurns.{in-at, place_at}
use Rattle.group_sound.proofs.GroupParts.{entries-listed, queue-out, order-out, book-listed, book-out}

module _ (r : Ranges) where
  abbrev views : List View
  views = views_made r

  abbrev n : ℕ
  n = members_of r

  abbrev bytes : ℕ → List ℕ
  bytes p = book_bytes r.books p

  pub made : length views ≡ made_of r
  made = length-views_in r.list 0 (made_of r)

  -- ---- where the records of a group stand

  pub book-of : (p : ℕ) → p < n → book_of r p ≡ book_in (bytes p)
  unfolding book_of
  book-of p h = rw (lt-ltb p n h)

  pub place-made : (v : View) → In v views → place_of (id_of v) views < made_of r
  place-made v i = omega (arith, place_in v views i, made)

  pub order-of : (v : View) → In v views → order_in r (id_of v) ≡ entries_ordered r.queues (order_at (place_of (id_of v) views))
  unfolding order_in
  order-of v i = rw (lt-ltb _ _ (place-made v i))

  pub waiting-of : (p : ℕ) → p < n → (v : View) → In v views
      → waiting_in r p (id_of v) ≡ queue_in r.queues (waiting_at (place_of (id_of v) views) p) (waiting_at (place_of (id_of v) views) p + 1)
  unfolding waiting_in
  waiting-of p h v i = rw (lt-ltb _ _ h, lt-ltb _ _ (place-made v i))

  pub ordered_of : (o : Option View) → ((v : View) → o ≡ Some v → In v views) → length (S.order_at (group_in r) o) ≡ ordered_in views r.queues o
  unfolding group_in ordered_in
  ordered_of None h = refl
  ordered_of (Some v) h =
      let i = place_of (id_of v) views in
      ap length (order-of v (h v refl)) ∙ length-firsts (order_entry r.queues (order_at i)) (get_or r.queues (order_at i) 0)

  pub record-listed : (b : List ℕ) → book_listed views (book_in b) ≡ record_listed views (record_in b)
  unfolding book_listed book_in record_listed
  record-listed b = refl

  -- ---- from the ranges to the parts

  module _ (f : Ranged r) (s : Sound (group_in r)) where
    sets-fit : (v : View) → In v views → set_fits n v ≡ true
    unfolding group_in
    sets-fit v i = both-from (not (is_empty v.set)) (not (is_beyond v.set n)) (rw (s.fits v i).0) (rw (s.fits v i).1)

    rising : is_rising views ≡ true
    unfolding group_in
    rising = s.rising

    order-short : (v : View) → In v views → length (order_in r (id_of v)) ≤ max_ordered
    unfolding group_in
    order-short v i = (s.ordered v i).short

    module _ (p : ℕ) (h : p < n) where
      seated-book : BookSound (in_group (group_in r)) (book_in (bytes p))
      unfolding group_in
      seated-book = rw (book-of p h) at (s.book p h)

      seated-outgoing : QueueSound (group_in r) max_outgoing (book_in (bytes p)).outgoing
      unfolding group_in
      seated-outgoing = rw (book-of p h) at (s.outgoing p h)

      alone : book_sound n (book_in (bytes p)) ≡ true
      unfolding group_in
      alone = book-out (group_in r) (book_in (bytes p)) (within-from 1 n max_members f.members.0 f.members.1) sets-fit order-short seated-book seated-outgoing

      known-part : book_known views r.queues (bytes p) ≡ true
      unfolding book_known group_in book_in
      known-part = conditions-from _ (
          sym (record-listed (bytes p)) ∙ book-listed (group_in r) (book_in (bytes p)) seated-book
          and le-leb _ _ (rw (ordered_of (record_in (bytes p)).carrier seated-book.carrier-known) at seated-book.taken_in)
          and entries-listed views n (outgoing_in (bytes p)) seated-outgoing.entries
          and tt)

      place-part : member_sound views r.queues n p (bytes p) ≡ true
      unfolding member_sound bytes_sound
      place-part =
          let t = f.in_place p h in
          conditions-from _ (
          conditions-from _ (layout-from _ t.layout and rw t.members alone and tt)
          and eq-eqb _ _ t.members
          and eq-eqb _ _ t.self
          and known-part
          and tt)

    module _ (i : ℕ) (h : i < made_of r) where
      abbrev v : View
      v = get_or views i no_view

      inside : In v views
      inside = in-at views i (omega (arith, made))

      here : place_of (id_of v) views ≡ i
      here = place_at views rising i (omega (arith, made))

      order-part : order_sound views n r.queues (order_at i) ≡ true
      unfolding group_in
      order-part =
          let e = rw here at (order-of v inside) in
          order-out views n r.queues (order_at i) sets-fit (f.tables i h).order (rw e at (s.ordered v inside))

      waiting-part : waiting_sound views n r.queues i ≡ true
      unfolding group_in waiting_sound
      waiting-part = every-from n _ (λ p k.
          let e = rw here at (waiting-of p k v inside) in
          queue-out views n r.queues (waiting_at i p) sets-fit ((f.tables i h).waiting p k) (rw e at (s.waiting p k v inside)))

      table-part : table_sound views n r.queues i ≡ true
      unfolding table_sound
      table-part = both-from _ _ order-part waiting-part

    pub parts_from : parts_sound r ≡ true
    unfolding parts_sound sizes_fit numbers_fit records_sound
    parts_from = conditions-from _ (
        conditions-from _ (
        eq-eqb _ _ f.whole
        and within-from 1 _ _ f.room.0 f.room.1
        and eq-eqb _ _ f.books
        and eq-eqb _ _ f.queues
        and tt)
        and conditions-from _ (eq-eqb _ _ f.layout and within-from 1 _ _ f.members.0 f.members.1 and within-from 1 _ _ f.made.0 f.made.1 and marks-from _ _ f.marks and tt)
        and conditions-from _ (
        both-from _ _ (all_from (set_fits n) views sets-fit) rising
        and every-from n _ place-part
        and every-from (length views) _ (λ i h. table-part i (omega (arith, made)))
        and tt)
        and tt)
