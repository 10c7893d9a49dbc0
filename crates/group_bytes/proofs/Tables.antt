-- Other bytes for the queues: one queue of one view changes, and the group has that queue changed and everything else as it was.
use mathlib.Core.Path.{◌≡◌, refl, sym, ◌∙◌, fun_ext}
use mathlib.Core.Logic.{◌≢◌, inl}
use mathlib.Core.List.{List, []}
use Prim.Native.Nat.{ℕ, ◌+◌, ◌^◌, ◌≤◌, ◌<◌}
use native.Mathlib.Decide.{dec_lt, ℕ_discrete}
use native.Mathlib.Omega.{arith}
use borrow.Author.Tests.{lt-ltb, le-ltb}
use lib.ListN.{length, get_or}
use Rattle.numbers.specs.Number.{get}
use Rattle.views.specs.Limits.{max_members, max_waiting}
use Rattle.views.specs.Points.{at, at2}
use Rattle.views.proofs.PointLaws.{upd-ind, upd2-ind}
use Rattle.wire.specs.Reader.{views_in}
use Rattle.wire.proofs.TripViews.{AreBytes}
use Rattle.rules.specs.Data.{Identifier, Member, Entry, Group}
use Rattle.slots.specs.Slots.{queue_in}
use Rattle.slots.specs.Columns.{order_size, entries_ordered}
use Rattle.slots.proofs.Outside.{Changed, Apart, get-apart}
use Rattle.group_bytes.specs.Places.{room_of, made_at, marks_at, marks_size, layout_at, waiting_size, order_at, waiting_at}
use Rattle.group_bytes.specs.Groups.{Ranges, members_of, made_of, layout_of, views_made, place_of, waiting_in, order_in, book_of, group_in}
use Rattle.group_bytes.proofs.RangesLaws.{RangesBytes, Queued, Columned, Tabled, Ranged, MeansGroup}
use Rattle.group_bytes.proofs.PlaceLaws.{length-made, place-one}
use Rattle.group_bytes.proofs.Apart.{orders-apart, waiting-off-order, order-off-waiting, waiting-apart, queue-still, queued-still, ordered-still, columned-still}

-- ---- what waits and what is ordered, by the view's place

module _ (r : Ranges) (g i : ℕ) (place : place_of g (views_made r) ≡ i) where
  pub waiting-at : (p : ℕ) → p < members_of r → i < made_of r → waiting_in r p g ≡ queue_in r.queues (waiting_at i p) (waiting_at i p + 1)
  unfolding waiting_in
  waiting-at p k h = rw (place, lt-ltb p (members_of r) k, lt-ltb i (made_of r) h)

  pub waiting-nobody : (p : ℕ) → members_of r ≤ p → waiting_in r p g ≡ []
  unfolding waiting_in
  waiting-nobody p k = rw (le-ltb p (members_of r) k)

  pub waiting-unmade : (p : ℕ) → made_of r ≤ i → waiting_in r p g ≡ []
  unfolding waiting_in
  waiting-unmade p h =
      elim (dec_lt p (members_of r)) [
        | yes k ↦ rw (place, lt-ltb p (members_of r) k, le-ltb i (made_of r) h)
        | no k ↦ rw (le-ltb p (members_of r) (omega arith))
      ]

  pub order-at : i < made_of r → order_in r g ≡ entries_ordered r.queues (order_at i)
  unfolding order_in
  order-at h = rw (place, lt-ltb i (made_of r) h)

  pub order-unmade : made_of r ≤ i → order_in r g ≡ []
  unfolding order_in
  order-unmade h = rw (place, le-ltb i (made_of r) h)

-- ---- other bytes for the queues

abbrev pub requeued : Ranges → List ℕ → Ranges
requeued r d = record { list = r.list; books = r.books; queues = d }

-- under another name of the group
pub group-as : {r : Ranges} {s t : Group} → s ≡ t → MeansGroup r s → MeansGroup r t
group-as e m = record { group = m.group ∙ e; fits = m.fits; bytes = m.bytes }

-- another queue for the member p in the view g, and another order of the view g
abbrev pub rewaited : Group → Member → Identifier → List Entry → Group
rewaited s p g l = record { members = s.members; room = s.room; views = s.views; books = s.books; waiting = at2 p g l s.waiting; order = s.order }

abbrev pub reordered : Group → Identifier → List Entry → Group
reordered s g l = record { members = s.members; room = s.room; views = s.views; books = s.books; waiting = s.waiting; order = at g l s.order }

-- as many views made, and the same queue at the view's place: what is read is as before
module _ (r : Ranges) (d : List ℕ) (made : get_or d made_at 0 ≡ made_of r) (h j : ℕ) (place : place_of h (views_made r) ≡ j) where
  pub place_still : place_of h (views_made (requeued r d)) ≡ j
  place_still = rw made place

  pub order-still : (j < made_of r → entries_ordered d (order_at j) ≡ entries_ordered r.queues (order_at j))
      → order_in (requeued r d) h ≡ order_in r h
  order-still e =
      elim (dec_lt j (made_of r)) [
        | yes k ↦ order-at (requeued r d) h j place_still (rw made k) ∙ e k ∙ sym (order-at r h j place k)
        | no k ↦ order-unmade (requeued r d) h j place_still (rw made (omega arith)) ∙ sym (order-unmade r h j place (omega arith))
      ]

  pub waiting-still : (q : ℕ)
      → (q < members_of r → j < made_of r → queue_in d (waiting_at j q) (waiting_at j q + 1) ≡ queue_in r.queues (waiting_at j q) (waiting_at j q + 1))
      → waiting_in (requeued r d) q h ≡ waiting_in r q h
  waiting-still q e =
      elim (dec_lt q (members_of r)) [
        | yes m ↦ elim (dec_lt j (made_of r)) [
          | yes k ↦ waiting-at (requeued r d) h j place_still q m (rw made k) ∙ e m k ∙ sym (waiting-at r h j place q m k)
          | no k ↦ waiting-unmade (requeued r d) h j place_still q (rw made (omega arith)) ∙ sym (waiting-unmade r h j place q (omega arith))
        ]
        | no m ↦ waiting-nobody (requeued r d) h j place_still q (omega arith) ∙ sym (waiting-nobody r h j place q (omega arith))
      ]

module _ (r : Ranges) (fits : Ranged r) (bytes : RangesBytes r) (d : List ℕ) where
  members-few : members_of r ≤ max_members
  members-few = fits.members.1

  -- as many views made, no mark past them, the same layout, every queue in its limits: then the group is that of other queues
  pub means : length d ≡ length r.queues → get_or d made_at 0 ≡ made_of r → get d marks_at marks_size < 2 ^ made_of r → get_or d layout_at 0 ≡ layout_of r
      → ((j : ℕ) → j < made_of r → Tabled d (members_of r) j) → AreBytes d
      → (w : Member → Identifier → List Entry) (o : Identifier → List Entry) → waiting_in (requeued r d) ≡ w → order_in (requeued r d) ≡ o
      → MeansGroup (requeued r d) (record { members = members_of r; room = room_of r.list; views = views_made r; books = book_of r; waiting = w; order = o })
  unfolding group_in book_of
  means size made marks layout tables y w o e f =
      let views : views_in r.list 0 (get_or d made_at 0) ≡ views_made r = rw made in
      record {
        group = λ k. record { members = members_of r; room = room_of r.list; views = views k; books = book_of r; waiting = e k; order = f k };
        fits = record {
          whole = fits.whole;
          room = fits.room;
          books = fits.books;
          queues = size ∙ fits.queues;
          members = fits.members;
          made = rw made fits.made;
          marks = rw made marks;
          layout = layout ∙ fits.layout;
          in_place = fits.in_place;
          tables = λ j h. tables j (rw made at h);
        };
        bytes = record { list = bytes.list; books = bytes.books; queues = y };
      }

  module _ (g i : ℕ) (place : place_of g (views_made r) ≡ i) (there : i < made_of r) where
    -- a view at the same place has the same identifier
    alone : (h : ℕ) → place_of h (views_made r) ≡ i → h ≡ g
    alone h e = place-one g h (views_made r) (omega (arith, length-made r, place)) (e ∙ sym place)

    -- ---- what waits for p in the view g changes

    module _ (p : ℕ) (member : p < members_of r) (x : Changed r.queues d (waiting_at i p) waiting_size) where
      order-off : (j : ℕ) → Apart (waiting_at i p) waiting_size (order_at j) order_size
      order-off j = order-off-waiting i p j (omega (arith, members-few))

      waiting-off : (j q : ℕ) → q < members_of r → ¬ ((q ≡ p) × (j ≡ i)) → Apart (waiting_at i p) waiting_size (waiting_at j q) waiting_size
      waiting-off j q m n = waiting-apart i p j q (omega (arith, members-few)) (omega (arith, members-few)) n

      waiting-queued : Queued d max_waiting (waiting_at i p) → (j : ℕ) → j < made_of r → (q : ℕ) → q < members_of r → Queued d max_waiting (waiting_at j q)
      waiting-queued k j h q m =
          let other : ¬ ((q ≡ p) × (j ≡ i)) → Queued d max_waiting (waiting_at j q)
          = λ n. queued-still x max_waiting (waiting_at j q) ((fits.tables j h).waiting q m) (waiting-off j q m n) in
          elim (ℕ_discrete q p) [
            | yes e ↦ elim (ℕ_discrete j i) [ yes f ↦ rw (e, f) k | no f ↦ other (λ t. f t.1) ]
            | no e ↦ other (λ t. e t.0)
          ]

      pub waits : Queued d max_waiting (waiting_at i p) → AreBytes d → (l : List Entry) → queue_in d (waiting_at i p) (waiting_at i p + 1) ≡ l
          → MeansGroup (requeued r d) (rewaited (group_in r) p g l)
      unfolding group_in
      waits k y l e =
          let made : get_or d made_at 0 ≡ made_of r = x.below made_at (omega arith) in
          let here : waiting_in (requeued r d) p g ≡ l = waiting-at (requeued r d) g i (place_still r d made g i place) p member (rw made there) ∙ e in
          let other : (q h : ℕ) → ¬ ((q ≡ p) × (h ≡ g)) → waiting_in (requeued r d) q h ≡ waiting_in r q h
          = λ q h n. let j = place_of h (views_made r) in waiting-still r d made h j refl q (λ m k.
          queue-still x max_waiting (waiting_at j q) ((fits.tables j k).waiting q m) (waiting-off j q m (λ t. n (t.0, alone h t.1)))) in
          let order : (h : ℕ) → order_in (requeued r d) h ≡ order_in r h
          = λ h. let j = place_of h (views_made r) in order-still r d made h j refl (λ k. ordered-still x (order_at j) (fits.tables j k).order (order-off j)) in
          means x.long made (rw (get-apart x marks_at marks_size (inl (omega arith))) fits.marks) (x.below layout_at (omega arith))
          (λ j h. record { order = columned-still x (order_at j) (fits.tables j h).order (order-off j); waiting = waiting-queued k j h })
          y (at2 p g l (waiting_in r)) (order_in r)
          (fun_ext (λ q. fun_ext (λ h. upd2-ind p g l (waiting_in r) (λ q h c. waiting_in (requeued r d) q h ≡ c) here other q h)))
          (fun_ext order)

    -- ---- the order of the view g changes

    module _ (x : Changed r.queues d (order_at i) order_size) where
      waiting-behind : (j q : ℕ) → q < members_of r → Apart (order_at i) order_size (waiting_at j q) waiting_size
      waiting-behind j q m = waiting-off-order i j q (omega (arith, members-few))

      order-columned : Columned d (order_at i) → (j : ℕ) → j < made_of r → Columned d (order_at j)
      order-columned k j h =
          elim (ℕ_discrete j i) [
            | yes f ↦ rw f k
            | no f ↦ columned-still x (order_at j) (fits.tables j h).order (orders-apart i j f)
          ]

      pub orders : Columned d (order_at i) → AreBytes d → (l : List Entry) → entries_ordered d (order_at i) ≡ l
          → MeansGroup (requeued r d) (reordered (group_in r) g l)
      unfolding group_in
      orders k y l e =
          let made : get_or d made_at 0 ≡ made_of r = x.below made_at (omega arith) in
          let here : order_in (requeued r d) g ≡ l = order-at (requeued r d) g i (place_still r d made g i place) (rw made there) ∙ e in
          let other : (h : ℕ) → h ≢ g → order_in (requeued r d) h ≡ order_in r h
          = λ h n. let j = place_of h (views_made r) in order-still r d made h j refl (λ k.
          ordered-still x (order_at j) (fits.tables j k).order (orders-apart i j (λ t. n (alone h t)))) in
          let waiting : (q h : ℕ) → waiting_in (requeued r d) q h ≡ waiting_in r q h
          = λ q h. let j = place_of h (views_made r) in waiting-still r d made h j refl q (λ m k.
          queue-still x max_waiting (waiting_at j q) ((fits.tables j k).waiting q m) (waiting-behind j q m)) in
          means x.long made (rw (get-apart x marks_at marks_size (inl (omega arith))) fits.marks) (x.below layout_at (omega arith))
          (λ j h. record {
            order = order-columned k j h;
            waiting = λ q m. queued-still x max_waiting (waiting_at j q) ((fits.tables j h).waiting q m) (waiting-behind j q m);
          })
          y (waiting_in r) (at g l (order_in r))
          (fun_ext (λ q. fun_ext (waiting q)))
          (fun_ext (upd-ind g l (order_in r) (λ h c. order_in (requeued r d) h ≡ c) here other))
