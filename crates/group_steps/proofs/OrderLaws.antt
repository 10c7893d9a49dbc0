-- Order: each refusal at its place in the row, and the bytes of an accepted one.
use mathlib.Core.Path.{◌≡◌, refl, sym, ap, ap₂, ◌∙◌}
use mathlib.Core.Bool.{true}
use mathlib.Core.List.{List, []}
use Prim.Native.Nat.{ℕ, ◌+◌, ◌*◌, ◌≤◌, ◌<◌}
use native.Mathlib.Omega.{arith}
use borrow.Author.Tests.{lt-ltb, le-ltb}
use lib.ListN.{length, get_or}
use Rattle.views.specs.declared.refusal.Refusal.{Refusal}
use Rattle.views.specs.declared.refusal.Refusal.TheVariants.{NoSuchView, NoneWaiting, OrderFull}
use Rattle.std.specs.Prelude.{Ok, Err}
use Rattle.views.specs.Limits.{max_ordered}
use Rattle.views.specs.Refusals.{left}
use Rattle.wire.specs.Format.{told_kind}
use Rattle.wire.proofs.TripViews.{AreBytes}
use Rattle.rules.specs.Data.{need, with_first}
use Rattle.rules.specs.Group.{with_listed, order_step}
use Rattle.rules.specs.Sound.{sound}
use Rattle.slots.specs.Slots.{slot_size, slot_fits, kind_in, number_in, message_in}
use Rattle.slots.specs.Columns.{order_size}
use Rattle.slots.specs.Changes.{popped, ordered}
use Rattle.slots.proofs.Orders.{length-order, order-changed}
use Rattle.events.specs.Replies.{verdict_of}
use Rattle.events.proofs.ReplyLaws.{accepts}
use Rattle.book_bytes.proofs.Blank.{no-entries}
use Rattle.group_bytes.specs.Places.{order_at, waiting_at}
use Rattle.group_bytes.specs.Groups.{Ranges, members_of, made_of, views_made, place_of, waiting_in, order_in, group_in}
use Rattle.group_bytes.specs.Moves.{order_ranges}
use Rattle.group_bytes.proofs.RangesLaws.{Ranged}
use Rattle.group_bytes.proofs.Tables.{waiting-at, order-at}
use Rattle.group_bytes.proofs.Widths.{message-widths}
use Rattle.group_bytes.proofs.OrderGroup.{Ordering, order-says}
use Rattle.group_steps.specs.CarrierParts.{ordering, Ordered}
use Rattle.group_steps.proofs.Rows.{by-rule, first_of}
use Rattle.group_steps.proofs.Found.{found_at, missing_at}

-- ---- the bytes

-- the queues with the first entry of the queue at w put into the order at c
abbrev added : List ℕ → ℕ → ℕ → List ℕ
added q c w = ordered q c (get_or q (w + 1) 0) (message_in q (w + 1))

-- what the pop asks once the entry is in the order, which lies below: the order does not reach the queue that the entry came from
pub pop-asks : (q : List ℕ) → AreBytes q → (c w : ℕ) → c + order_size ≤ w → get_or q c 0 < max_ordered → 0 < get_or q w 0 → w + 1 + slot_size * get_or q w 0 ≤ length q
    → (w < w + 1) × (0 < get_or (added q c w) w 0) × (w + 1 + slot_size * get_or (added q c w) w 0 ≤ length (added q c w))
pop-asks q bytes c w low room some inside =
    let m = message_in q (w + 1) in
    let x = order-changed q c (get_or q (w + 1) 0) m (message-widths q (w + 1) bytes).message room (omega arith) in
    let same : get_or (added q c w) w 0 ≡ get_or q w 0 = x.past w (omega arith) in
    (omega arith, omega arith, omega (arith, x.long))

-- what the code asks to move the entry: the order lies below what waits, both within the range, and the entry can be stored there
pub forward-asks : (r : Ranges) (p i : ℕ) → Ordering r p i
    → (order_at i + order_size ≤ waiting_at i p) × (get_or r.queues (order_at i) 0 < max_ordered) × (0 < get_or r.queues (waiting_at i p) 0)
    × (waiting_at i p + 1 + slot_size * get_or r.queues (waiting_at i p) 0 ≤ length r.queues) × (slot_fits r.queues (waiting_at i p + 1) ≡ true)
    × (kind_in r.queues (waiting_at i p + 1) ≡ told_kind → number_in r.queues (waiting_at i p + 1) < 256)
forward-asks r p i o = (omega arith, o.room, o.some, omega (arith, o.waiting, o.few), o.first, o.count)

-- what the code leaves is what the step leaves
pub order-bytes : (r : Ranges) (p g c w : ℕ) (q : List ℕ) → c ≡ order_at (place_of g (views_made r)) → w ≡ waiting_at (place_of g (views_made r)) p
    → q ≡ popped (added r.queues c w) w (w + 1) → q ≡ (order_ranges r p g).queues
unfolding order_ranges
order-bytes r p g c w q e f h = h ∙ ap₂ (λ (c w : ℕ). popped (added r.queues c w) w (w + 1)) e f

-- a refusal leaves the queues, and an accepted order moves the entry
pub order-refused : (r : Ranges) (p g : ℕ) (x : Refusal) → verdict_of (ordering r p g) ≡ Err x → Ordered r p g r.queues (Err x)
unfolding left
order-refused r p g x e = record { verdict = sym e; moved = rw e }

pub order-accepted : (r : Ranges) (p g : ℕ) (q : List ℕ) → verdict_of (ordering r p g) ≡ Ok tt → q ≡ (order_ranges r p g).queues → Ordered r p g q (Ok tt)
unfolding left
order-accepted r p g q e f = record { verdict = sym e; moved = rw e f }

-- ---- the row

module _ (r : Ranges) (p g : ℕ) where
  module _ (member : p < members_of r) where
    -- what sound ranges say of the entry and of its places where order is accepted
    pub order-known : Ranged r → sound (group_in r) ≡ true → verdict_of (ordering r p g) ≡ Ok tt → Ordering r p (place_of g (views_made r))
    order-known fits sounds h =
        let (x, e) = accepts (ordering r p g) h in
        order-says r fits sounds p g member x (sym (by-rule r p (order_step (group_in r) p g) member) ∙ e)

    pub no-view : made_of r ≤ place_of g (views_made r) → verdict_of (ordering r p g) ≡ Err NoSuchView
    unfolding order_step group_in with_listed
    no-view h = ap verdict_of (by-rule r p (order_step (group_in r) p g) member) ∙ rw (missing_at r g h)

    module _ (there : place_of g (views_made r) < made_of r) where
      abbrev i : ℕ
      i = place_of g (views_made r)

      abbrev w : ℕ
      w = waiting_at i p

      pub none-waiting : get_or r.queues w 0 ≡ 0 → verdict_of (ordering r p g) ≡ Err NoneWaiting
      unfolding order_step group_in with_listed with_first
      none-waiting h =
          let f = found_at r g there in
          let k : waiting_in r p g ≡ [] = waiting-at r g i refl p member there ∙ no-entries r.queues (w + 1) (get_or r.queues w 0) h in
          ap verdict_of (by-rule r p (order_step (group_in r) p g) member) ∙ rw (f.1, k)

      order-length : length (order_in r g) ≡ get_or r.queues (order_at i) 0
      order-length = ap length (order-at r g i refl there) ∙ length-order r.queues (order_at i)

      module _ (some : 0 < get_or r.queues w 0) where
        pub order-full : max_ordered ≤ get_or r.queues (order_at i) 0 → verdict_of (ordering r p g) ≡ Err OrderFull
        unfolding order_step group_in with_listed with_first need
        order-full h =
            let f = found_at r g there in
            let (e, rest, k) = first_of r.queues (w + 1) (get_or r.queues w 0) some in
            let l = waiting-at r g i refl p member there ∙ k in
            ap verdict_of (by-rule r p (order_step (group_in r) p g) member) ∙ rw (f.1, l, order-length, le-ltb _ _ h)

        pub order-moves : get_or r.queues (order_at i) 0 < max_ordered → verdict_of (ordering r p g) ≡ Ok tt
        unfolding order_step group_in with_listed with_first need
        order-moves h =
            let f = found_at r g there in
            let (e, rest, k) = first_of r.queues (w + 1) (get_or r.queues w 0) some in
            let l = waiting-at r g i refl p member there ∙ k in
            ap verdict_of (by-rule r p (order_step (group_in r) p g) member) ∙ rw (f.1, l, order-length, lt-ltb _ _ h)
