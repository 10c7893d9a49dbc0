-- Order in the ranges: the group is the rule's, what the step reads and writes lies within its range, and there is something waiting.
use mathlib.Core.Path.{◌≡◌, refl, sym, ap, ap₂, ◌∙◌}
use mathlib.Core.Bool.{true}
use mathlib.Core.List.{List, [], ◌∷◌, ◌++◌}
use Prim.Native.Nat.{ℕ, ◌+◌, ◌*◌, ◌≤◌, ◌<◌}
use native.Mathlib.Omega.{arith}
use borrow.Author.Tests.{ltb-true}
use lib.Dec.{ltb}
use lib.ListN.{length, get_or, drop}
use Rattle.views.specs.declared.View.{View}
use Rattle.std.specs.Prelude.{Some}
use Rattle.views.specs.Limits.{max_waiting, max_ordered}
use Rattle.views.specs.Lists.{find_of}
use Rattle.views.proofs.ListLaws.{find-in}
use Rattle.views.proofs.Members.{top}
use Rattle.wire.specs.Format.{told_kind}
use Rattle.wire.proofs.TripViews.{AreBytes}
use Rattle.rules.specs.Data.{Message, Entry, Group, accepted}
use Rattle.rules.specs.Sound.{sound}
use Rattle.rules.specs.Group.{Next, order_step}
use Rattle.rules.proofs.Sound.{EntrySound, sound-says}
use Rattle.rules.proofs.Holding.{Holds, gives, need-holds, first_holds, listed-holds}
use Rattle.slots.specs.Slots.{slot_size, kind_in, number_in, message_in, entry_in, queue_in, slot_fits}
use Rattle.slots.specs.Columns.{order_size, entries_ordered}
use Rattle.slots.specs.Changes.{popped, ordered}
use Rattle.slots.proofs.Stored.{told_of}
use Rattle.slots.proofs.Orders.{length-order, order-changed, order-count, order-appends, order-kinds, ordered-bytes}
use Rattle.slots.proofs.Outside.{Changed, Apart, queue-whole}
use Rattle.slots.proofs.Queues.{pop-changed, pop-count, pop-drops, pop-fits}
use Rattle.slots.proofs.BytesKept.{popped-bytes}
use Rattle.slots.proofs.Lists.{slots-first}
use Rattle.book_steps.proofs.Means.{gave}
use Rattle.group_bytes.specs.Places.{made_at, waiting_size, order_at, waiting_at}
use Rattle.group_bytes.specs.Groups.{Ranges, members_of, made_of, views_made, place_of, waiting_in, order_in, group_in}
use Rattle.group_bytes.specs.Moves.{order_ranges}
use Rattle.group_bytes.proofs.RangesLaws.{RangesBytes, Queued, Columned, Ranged, MeansGroup}
use Rattle.group_bytes.proofs.PlaceLaws.{length-made, place_found}
use Rattle.group_bytes.proofs.Apart.{waiting-off-order, count-still, queue-still, queued-still}
use Rattle.group_bytes.proofs.Inside.{order-inside, waiting-inside, entries-first}
use Rattle.group_bytes.proofs.Tables.{waiting-at, order-at, place_still, requeued, rewaited, reordered, orders, waits, group-as}
use Rattle.group_bytes.proofs.Widths.{InWidths, message-widths, told-byte, told-number}

-- what is known where order is accepted: the view is made and i its place, something waits, the order has room
pub record Ordering (r : Ranges) (p i : ℕ) : Type 0 where
  pub there : i < made_of r
  pub some : 0 < get_or r.queues (waiting_at i p) 0
  pub few : get_or r.queues (waiting_at i p) 0 ≤ max_waiting
  pub room : get_or r.queues (order_at i) 0 < max_ordered
  pub first : slot_fits r.queues (waiting_at i p + 1) ≡ true
  pub told : told_of (message_in r.queues (waiting_at i p + 1)) < 256
  pub count : kind_in r.queues (waiting_at i p + 1) ≡ told_kind → number_in r.queues (waiting_at i p + 1) < 256
  pub waiting : waiting_at i p + waiting_size ≤ length r.queues
  pub order : order_at i + order_size ≤ length r.queues

-- the group that order leaves, by what stands in the bytes
abbrev after : Ranges → ℕ → ℕ → ℕ → Group
after r p g i =
    rewaited (reordered (group_in r) g (order_in r g ++ (entry_in r.queues (waiting_at i p + 1) ∷ []))) p g
    (drop 1 (queue_in r.queues (waiting_at i p) (waiting_at i p + 1)))

-- the bytes with the entry in the order, and still waiting
abbrev pub order_added : Ranges → ℕ → ℕ → List ℕ
order_added r p i = ordered r.queues (order_at i) (get_or r.queues (waiting_at i p + 1) 0) (message_in r.queues (waiting_at i p + 1))

-- ---- the queues

module _ (r : Ranges) (fits : Ranged r) (bytes : RangesBytes r) (p : ℕ) (member : p < members_of r) (i : ℕ) (o : Ordering r p i) where
  abbrev w : ℕ
  w = waiting_at i p

  abbrev q : ℕ
  q = get_or r.queues (w + 1) 0

  abbrev m : Message
  m = message_in r.queues (w + 1)

  abbrev added : List ℕ
  added = order_added r p i

  abbrev left : List ℕ
  left = popped added w (w + 1)

  widths : InWidths m
  widths = message-widths r.queues (w + 1) bytes.queues

  pub add-within : Changed r.queues added (order_at i) order_size
  add-within = order-changed r.queues (order_at i) q m widths.message o.room o.order

  added-columned : Columned added (order_at i)
  added-columned = record {
    few = omega (arith, order-count r.queues (order_at i) q m widths.message o.room o.order, o.room);
    kinds = order-kinds r.queues (order_at i) q m widths.message o.room o.order (fits.tables i o.there).order.kinds;
  }

  added-bytes : AreBytes added
  added-bytes = ordered-bytes r.queues (order_at i) q m bytes.queues (bytes.queues (w + 1)) widths.sets widths.message.few o.told o.room

  -- what waits is not seen by that
  off : Apart (order_at i) order_size w waiting_size
  off = waiting-off-order i i p (omega (arith, fits.members.1))

  still : Queued r.queues max_waiting w
  still = (fits.tables i o.there).waiting p member

  same : get_or added w 0 ≡ get_or r.queues w 0
  same = count-still add-within max_waiting w still off

  -- what the pop asks after it
  pub order-some : 0 < get_or (order_added r p i) (waiting_at i p) 0
  order-some = omega (arith, same, o.some)

  pub order-held : waiting_at i p + 1 + slot_size * get_or (order_added r p i) (waiting_at i p) 0 ≤ length (order_added r p i)
  order-held = omega (arith, same, o.few, o.waiting, add-within.long)

  pub pop-within : Changed added left w waiting_size
  pop-within =
      queue-whole (pop-changed added w (w + 1) (omega arith) order-some order-held) w waiting_size
      (omega arith) (omega arith) (omega arith) (omega (arith, same, o.few))

  left-queued : Queued left max_waiting w
  left-queued = record {
    few = omega (arith, pop-count added w (w + 1) (omega arith) order-some order-held, same, o.few);
    slots = pop-fits added w (w + 1) (omega arith) order-some order-held (queued-still add-within max_waiting w still off).slots;
  }

  left_is : queue_in left w (w + 1) ≡ drop 1 (queue_in r.queues w (w + 1))
  left_is =
      pop-drops added w (w + 1) (omega arith) order-some order-held
      ∙ ap (λ (l : List Entry). drop 1 l) (queue-still add-within max_waiting w still off)

  -- ---- the group

  module _ (g : ℕ) (place : place_of g (views_made r) ≡ i) where
    added-means : MeansGroup (requeued r added) (reordered (group_in r) g (order_in r g ++ (entry_in r.queues (w + 1) ∷ [])))
    added-means =
        orders r fits bytes added g i place o.there add-within added-columned added-bytes _
        (order-appends r.queues (order_at i) q m widths.message o.room o.order
        ∙ ap (λ (l : List Entry). l ++ (entry_in r.queues (w + 1) ∷ [])) (sym (order-at r g i place o.there)))

    left-means : MeansGroup (requeued r left) (after r p g i)
    left-means =
        let made : get_or added made_at 0 ≡ made_of r = add-within.below made_at (omega arith) in
        group-as (ap (λ (s : Group). rewaited s p g (drop 1 (queue_in r.queues w (w + 1)))) added-means.group)
        (waits (requeued r added) added-means.fits added-means.bytes left g i (place_still r added made g i place) (rw made o.there) p member
        pop-within left-queued (popped-bytes added w (w + 1) added-bytes) _ left_is)

-- ---- the step

module _ (r : Ranges) (fits : Ranged r) where
  -- what waits is sound
  first-sound : sound (group_in r) ≡ true → (p g : ℕ) → p < members_of r → (v : View) → find_of g (views_made r) ≡ Some v
      → (e : Entry) (rest : List Entry) → waiting_in r p g ≡ e ∷ rest → EntrySound (group_in r) e
  unfolding group_in
  first-sound sounds p g member v found e rest d =
      let (listed, same) = find-in g (views_made r) v found in
      ((sound-says (group_in r) sounds).waiting p member v listed).entries e (rw (same, d) top)

  order-holds : sound (group_in r) ≡ true → (p g : ℕ) → p < members_of r → (i : ℕ) → place_of g (views_made r) ≡ i
      → Holds (λ (x : Next). Ordering r p i × (x.state ≡ after r p g i)) (order_step (group_in r) p g)
  unfolding order_step group_in
  order-holds sounds p g member i place =
      listed-holds (find_of g (views_made r)) _ (λ v found.
      first_holds (waiting_in r p g) _ _ (λ e rest d.
      need-holds (ltb (length (order_in r g)) max_ordered) _ _ (λ k.
      let w = waiting_at i p in
      let there : i < made_of r = omega (arith, length-made r, place, (place_found g (views_made r) v found).0) in
      let queued = (fits.tables i there).waiting p member in
      let one = entries-first r.queues (w + 1) (get_or r.queues w 0) e rest (sym (waiting-at r g i place p member there) ∙ d) in
      let told : told_of (message_in r.queues (w + 1)) < 256 =
      told-byte (group_in r) (get_or r.queues (w + 1) 0) (message_in r.queues (w + 1)) (rw (← one.entry) (first-sound sounds p g member v found e rest d)) in
      let room : length (entries_ordered r.queues (order_at i)) < max_ordered = rw (← order-at r g i place there) (ltb-true _ _ k) in
      gives (
        record {
          there = there;
          some = one.some;
          few = queued.few;
          room = omega (arith, room, length-order r.queues (order_at i));
          first = slots-first r.queues (w + 1) (get_or r.queues w 0) one.some queued.slots;
          told = told;
          count = told-number r.queues (w + 1) told;
          waiting = waiting-inside r fits i there p member;
          order = order-inside r fits i there;
        },
        ap₂ (λ (y : Entry) (l : List Entry). rewaited (reordered (group_in r) g (order_in r g ++ (y ∷ []))) p g l) one.entry one.behind,
      ))))

  pub order-says : sound (group_in r) ≡ true → (p g : ℕ) → p < members_of r → (x : Next) → order_step (group_in r) p g ≡ accepted x
      → Ordering r p (place_of g (views_made r))
  order-says sounds p g member x e = (gave (order_step (group_in r) p g) x (order-holds sounds p g member _ refl) e).0

  pub order-group : RangesBytes r → sound (group_in r) ≡ true → (p g : ℕ) → p < members_of r → (x : Next) → order_step (group_in r) p g ≡ accepted x
      → MeansGroup (order_ranges r p g) x.state
  unfolding order_ranges
  order-group bytes sounds p g member x e =
      let i = place_of g (views_made r) in
      let t = gave (order_step (group_in r) p g) x (order-holds sounds p g member i refl) e in
      group-as (sym t.1) (left-means r fits bytes p member i t.0 g refl)
