-- Create in the ranges: the group is the rule's. The new view's queues are empty because they were cleared, and the rules have nothing there before.
use mathlib.Core.Path.{◌≡◌, refl, sym, ap, ap₂, ◌∙◌, fun_ext}
use mathlib.Core.Bool.{cond, false}
use mathlib.Core.Logic.{◌≢◌, inl, inr}
use mathlib.Core.List.{List, [], ◌∷◌, ◌++◌}
use Prim.Native.Nat.{ℕ, ◌+◌, ◌*◌, ◌^◌, ◌≤◌, ◌<◌}
use native.Mathlib.Decide.{dec_lt, ℕ_discrete}
use native.Mathlib.Omega.{arith}
use lib.Dec.{ltb}
use lib.ListN.{length, get_or, set}
use lib.Pow.{pow_mono}
use lib.Seq.{get_or-set_same}
use Rattle.numbers.specs.Number.{get}
use Rattle.views.specs.declared.View.{View}
use Rattle.views.specs.Limits.{max_waiting}
use Rattle.views.specs.Sizes.{view_size}
use Rattle.views.specs.Sets.{has}
use Rattle.views.specs.Lists.{view_of}
use Rattle.views.proofs.SetLaws.{has-past}
use Rattle.wire.specs.Reader.{view_in}
use Rattle.wire.proofs.ReaderLaws.{views_in-snoc}
use Rattle.rules.specs.Data.{accepted}
use Rattle.rules.specs.Group.{Next, fresh, creates}
use Rattle.slots.specs.Slots.{slot_size, entries_in, queue_in, slots_fit}
use Rattle.slots.specs.Columns.{order_size, entries_ordered}
use Rattle.slots.proofs.Outside.{Changed, get-apart, view-apart, views-apart, set-changed, store_view-changed}
use Rattle.slots.proofs.Stored.{view-stored}
use Rattle.slots.proofs.BytesKept.{set-bytes, store_view-bytes}
use Rattle.wire.specs.Writer.{store_view}
use Rattle.book_bytes.specs.Books.{book_in}
use Rattle.book_steps.proofs.Means.{gave}
use Rattle.group_bytes.specs.Places.{room_of, book_bytes, made_at, marks_at, marks_size, layout_at, head_size, table_size, order_at, waiting_at}
use Rattle.group_bytes.specs.Groups.{Ranges, members_of, made_of, marks_of, layout_of, marks_in, views_made, place_of, waiting_in, order_in, book_of, group_in}
use Rattle.group_bytes.specs.Moves.{table_cleared, create_ranges}
use Rattle.group_bytes.proofs.RangesLaws.{RangesBytes, Queued, Columned, no-order, Tabled, Ranged, MeansGroup}
use Rattle.group_bytes.proofs.PlaceLaws.{length-made, place-most, snoc-place-old, snoc-place-new, snoc-place-none}
use Rattle.group_bytes.proofs.Apart.{queue-still, queued-still, ordered-still, columned-still}
use Rattle.group_bytes.proofs.Cleared.{cleared-changed, cleared-order, cleared-waiting, cleared-bytes}
use Rattle.group_bytes.proofs.Tables.{waiting-at, waiting-nobody, waiting-unmade, order-at, order-unmade, group-as}
use Rattle.group_bytes.proofs.Creating.{Creating, created, create-holds}

module _ (r : Ranges) (fits : Ranged r) (g S : ℕ) where
  abbrev made : ℕ
  made = made_of r

  abbrev view : View
  view = view_of g S

  module _ (bytes : RangesBytes r) (width : g < 256 ^ 4) (c : Creating r g S) where
    abbrev listed : List ℕ
    listed = store_view r.list (view_size * made) view

    abbrev cleared : List ℕ
    cleared = table_cleared r.queues made

    abbrev queues : List ℕ
    queues = set cleared made_at (made + 1)

    stored : Changed r.list listed (view_size * made) 5
    stored = store_view-changed r.list (view_size * made) view

    clears : Changed r.queues cleared (order_at made) table_size
    clears = cleared-changed r.queues made

    counts : Changed cleared queues made_at 1
    counts = set-changed cleared made_at (made + 1)

    more : get_or queues made_at 0 ≡ made + 1
    more = get_or-set_same cleared made_at (made + 1) 0 (omega (arith, clears.long, c.table))

    marks-kept : get queues marks_at marks_size ≡ marks_of r
    marks-kept = get-apart counts marks_at marks_size (inr (omega arith)) ∙ get-apart clears marks_at marks_size (inl (omega arith))

    layout-kept : get_or queues layout_at 0 ≡ layout_of r
    layout-kept = counts.past layout_at (omega arith) ∙ clears.below layout_at (omega arith)

    marks-low : marks_of r < 2 ^ (made + 1)
    marks-low = let k : made ≤ made + 1 = omega arith in omega (arith, fits.marks, pow_mono k)

    views-now : views_made (create_ranges r g S) ≡ views_made r ++ (view ∷ [])
    unfolding create_ranges
    views-now =
        let at : 0 + 5 * made ≡ view_size * made = omega arith in
        let last : view_in listed (0 + 5 * made) ≡ view = rw at (view-stored r.list (view_size * made) view width c.place) in
        rw more
        (views_in-snoc listed 0 made ∙ ap₂ (λ (l : List View) (v : View). l ++ (v ∷ [])) (views-apart stored 0 made (inl (omega arith))) last)

    -- the first view stays, and with it the book of no member
    books-now : book_of (create_ranges r g S) ≡ book_of r
    unfolding create_ranges book_of
    books-now =
        fun_ext (λ p.
        ap (λ (v : View). cond (ltb p (members_of r)) (book_in (book_bytes r.books p)) (fresh v.set p))
        (view-apart stored 0 (inl (omega (arith, fits.made.0)))))

    -- ---- the queues: those of the views made before are as they were, those of the new view are empty

    old-queued : (limit at : ℕ) → head_size ≤ at → at + (1 + slot_size * limit) ≤ order_at made → Queued r.queues limit at
        → Queued queues limit at × (queue_in queues at (at + 1) ≡ queue_in r.queues at (at + 1))
    old-queued limit at low high k =
        let l = queued-still clears limit at k (inl high) in
        (queued-still counts limit at l (inr (omega arith)), queue-still counts limit at l (inr (omega arith)) ∙ queue-still clears limit at k (inl high))

    old-order : (j : ℕ) (h : j < made) → Columned queues (order_at j) × (entries_ordered queues (order_at j) ≡ entries_ordered r.queues (order_at j))
    old-order j h =
        let k = (fits.tables j h).order in
        let below : order_at j + order_size ≤ order_at made = omega arith in
        let l = columned-still clears (order_at j) k (inl below) in (
          columned-still counts (order_at j) l (inr (omega arith)),
          ordered-still counts (order_at j) l (inr (omega arith)) ∙ ordered-still clears (order_at j) k (inl below),
        )

    old-waiting : (j : ℕ) → j < made → (q : ℕ) → q < members_of r
        → Queued queues max_waiting (waiting_at j q) × (queue_in queues (waiting_at j q) (waiting_at j q + 1) ≡ queue_in r.queues (waiting_at j q) (waiting_at j q + 1))
    old-waiting j h q m = old-queued max_waiting (waiting_at j q) (omega arith) (omega (arith, fits.members.1)) ((fits.tables j h).waiting q m)

    new-queued : (limit at : ℕ) → head_size ≤ at → get_or cleared at 0 ≡ 0 → Queued queues limit at × (queue_in queues at (at + 1) ≡ [])
    unfolding slots_fit entries_in
    new-queued limit at low e =
        let z : get_or queues at 0 ≡ 0 = counts.past at (omega arith) ∙ e in
        (record { few = omega (arith, z); slots = rw z }, rw z)

    new-order : Columned queues (order_at made) × (entries_ordered queues (order_at made) ≡ [])
    new-order = no-order queues (order_at made) (counts.past (order_at made) (omega arith) ∙ cleared-order r.queues made c.table)

    new-waiting : (q : ℕ) → q < members_of r → Queued queues max_waiting (waiting_at made q) × (queue_in queues (waiting_at made q) (waiting_at made q + 1) ≡ [])
    new-waiting q m =
        new-queued max_waiting (waiting_at made q) (omega arith) (cleared-waiting r.queues made c.table q (omega (arith, fits.members.1)))

    tables-now : (j : ℕ) → j < made + 1 → Tabled queues (members_of r) j
    tables-now j h =
        elim (ℕ_discrete j made) [
          | yes e ↦ rw e (record { order = new-order.0; waiting = λ q m. (new-waiting q m).0 })
          | no e ↦ record { order = (old-order j (omega arith)).0; waiting = λ q m. (old-waiting j (omega arith) q m).0 }
        ]

    -- ---- by identifier: made before, the new one, or none

    module _ (h : ℕ) where
      abbrev j : ℕ
      j = place_of h (views_made r)

      place-old : j < made → place_of h (views_made (create_ranges r g S)) ≡ j
      place-old k = ap (place_of h) views-now ∙ snoc-place-old h (views_made r) view (omega (arith, length-made r))

      last : made ≤ j → j ≡ length (views_made r)
      last k = omega (arith, place-most h (views_made r), length-made r)

      place-new : made ≤ j → g ≡ h → place_of h (views_made (create_ranges r g S)) ≡ made
      place-new k e = ap (place_of h) views-now ∙ snoc-place-new h (views_made r) view (last k) e ∙ length-made r

      place-past : made ≤ j → g ≢ h → place_of h (views_made (create_ranges r g S)) ≡ made + 1
      place-past k e = ap (place_of h) views-now ∙ snoc-place-none h (views_made r) view (last k) e ∙ omega (arith, length-made r)

      order-now : order_in (create_ranges r g S) h ≡ order_in r h
      unfolding create_ranges
      order-now =
          elim (dec_lt j made) [
            | yes k ↦ order-at (create_ranges r g S) h j (place-old k) (rw more (omega arith)) ∙ (old-order j k).1 ∙ sym (order-at r h j refl k)
            | no k ↦ elim (ℕ_discrete g h) [
              | yes e ↦ order-at (create_ranges r g S) h made (place-new (omega arith) e) (rw more (omega arith)) ∙ new-order.1
              | no e ↦ order-unmade (create_ranges r g S) h (made + 1) (place-past (omega arith) e) (rw more (omega arith))
            ] ∙ sym (order-unmade r h j refl (omega arith))
          ]

      -- neither the new view nor one not made has a mark
      marks-now : marks_in (create_ranges r g S) h ≡ marks_in r h
      unfolding create_ranges marks_in
      marks-now =
          elim (dec_lt j made) [
            | yes k ↦ rw (marks-kept, place-old k)
            | no k ↦
                let before : has (marks_of r) j ≡ false = has-past (marks_of r) made j fits.marks (omega arith) in
                elim (ℕ_discrete g h) [
                  | yes e ↦ rw (marks-kept, place-new (omega arith) e, before) (has-past (marks_of r) made made fits.marks (omega arith))
                  | no e ↦ rw (marks-kept, place-past (omega arith) e, before) (has-past (marks_of r) made (made + 1) fits.marks (omega arith))
                ]
          ]

      waiting-now : (q : ℕ) → waiting_in (create_ranges r g S) q h ≡ waiting_in r q h
      unfolding create_ranges
      waiting-now q =
          elim (dec_lt q (members_of r)) [
            | no m ↦ waiting-nobody (create_ranges r g S) h (place_of h (views_made (create_ranges r g S))) refl q (omega arith) ∙ sym (waiting-nobody r h j refl q (omega arith))
            | yes m ↦ elim (dec_lt j made) [
              | yes k ↦ waiting-at (create_ranges r g S) h j (place-old k) q m (rw more (omega arith)) ∙ (old-waiting j k q m).1 ∙ sym (waiting-at r h j refl q m k)
              | no k ↦ elim (ℕ_discrete g h) [
                | yes e ↦ waiting-at (create_ranges r g S) h made (place-new (omega arith) e) q m (rw more (omega arith)) ∙ (new-waiting q m).1
                | no e ↦ waiting-unmade (create_ranges r g S) h (made + 1) (place-past (omega arith) e) q (rw more (omega arith))
              ] ∙ sym (waiting-unmade r h j refl q (omega arith))
            ]
          ]

    ranged-now : Ranged (create_ranges r g S)
    unfolding create_ranges
    ranged-now = record {
      whole = rw stored.long fits.whole;
      room = rw stored.long fits.room;
      books = fits.books;
      queues = rw stored.long (counts.long ∙ clears.long ∙ fits.queues);
      members = fits.members;
      made = rw (more, stored.long) (omega arith, omega (arith, c.room));
      marks = rw (marks-kept, more) marks-low;
      layout = layout-kept ∙ fits.layout;
      in_place = fits.in_place;
      tables = λ j h. tables-now j (rw more at h);
    }

    bytes-now : RangesBytes (create_ranges r g S)
    unfolding create_ranges
    bytes-now = record {
      list = store_view-bytes r.list (view_size * made) view bytes.list c.set;
      books = bytes.books;
      queues = set-bytes cleared made_at (made + 1) (cleared-bytes r.queues made bytes.queues) (omega (arith, c.room, fits.room.1));
    }

    room-now : room_of (create_ranges r g S).list ≡ room_of r.list
    unfolding create_ranges
    room-now = rw stored.long

    waiting-all : waiting_in (create_ranges r g S) ≡ waiting_in r
    waiting-all = fun_ext (λ q. fun_ext (λ h. waiting-now h q))

    order-all : order_in (create_ranges r g S) ≡ order_in r
    order-all = fun_ext order-now

    create-means : MeansGroup (create_ranges r g S) (created r g S)
    unfolding group_in create_ranges
    create-means = record {
      group = λ k. record { members = members_of r; room = room-now k; views = views-now k; books = books-now k; waiting = waiting-all k; order = order-all k };
      fits = ranged-now;
      bytes = bytes-now;
    }

-- ---- the step

pub create-group : (r : Ranges) → Ranged r → RangesBytes r → (g S : ℕ) → g < 256 ^ 4 → (x : Next) → creates (group_in r) g S ≡ accepted x
    → MeansGroup (create_ranges r g S) x.state
create-group r fits bytes g S width x e =
    let t = gave (creates (group_in r) g S) x (create-holds r fits g S) e in
    group-as (sym t.1) (create-means r fits g S bytes width t.0)

-- the marks stay
pub create-marks : (r : Ranges) → Ranged r → RangesBytes r → (g S : ℕ) → g < 256 ^ 4 → (x : Next) → creates (group_in r) g S ≡ accepted x
    → marks_in (create_ranges r g S) ≡ marks_in r
create-marks r fits bytes g S width x e =
    let t = gave (creates (group_in r) g S) x (create-holds r fits g S) e in
    fun_ext (marks-now r fits g S bytes width t.0)
