-- Deliver in the code's terms: the order's place as it is looked up, the position as it is read from the books.
use Rattle.std.specs.Prelude.{Some, Err}
use mathlib.Core.Path.{◌≡◌, sym, ap}
use mathlib.Core.Bool.{true}
use mathlib.Core.List.{List}
use Prim.Native.Nat.{ℕ, ◌+◌, ◌*◌, ◌≤◌, ◌<◌}
use native.Mathlib.Omega.{arith}
use lib.ListN.{length, get_or}
use Rattle.views.specs.declared.View.{View}
use Rattle.views.specs.declared.refusal.Refusal.TheVariants.{NoneToDeliver}
use Rattle.views.specs.Limits.{max_members, max_ordered}
use Rattle.views.specs.Lists.{id_of}
use Rattle.rules.specs.Data.{Member}
use Rattle.slots.specs.Slots.{fits_kind}
use Rattle.slots.specs.Columns.{order_size, order_sender, order_kind, order_count, order_message}
use Rattle.book_bytes.specs.Places.{carrier_at, taken_at, book_size}
use Rattle.book_bytes.specs.Records.{seat_in}
use Rattle.book_bytes.specs.Books.{book_in}
use Rattle.events.specs.Replies.{Reply}
use Rattle.book_steps.specs.Acts.{taking, take_bytes}
use Rattle.group_bytes.specs.Places.{book_bytes, order_at}
use Rattle.group_bytes.specs.Groups.{Ranges, members_of, views_made, place_of, ranges_sound}
use Rattle.group_bytes.proofs.RangesLaws.{RangesBytes}
use Rattle.group_bytes.proofs.BookBytes.{book-byte}
use Rattle.group_bytes.proofs.Inside.{order-inside}
use Rattle.group_steps.specs.OwnParts.{HasBook, of_member, OwnStep}
use Rattle.group_steps.proofs.Rows.{ranged}
use Rattle.group_steps.specs.VisitParts.{Delivered}
use Rattle.group_steps.proofs.DeliverLaws.{carrier-made, deliver-none, take-asks, deliver-done}

module _ (r : Ranges) (p : Member) (s : ranges_sound r ≡ true) (member : p < members_of r) (v : View)
    (there : seat_in (book_bytes r.books p) carrier_at ≡ Some v) (c : ℕ) (place : c ≡ order_at (place_of (id_of v) (views_made r))) where
  -- the place of the carrier view
  abbrev i : ℕ
  i = place_of (id_of v) (views_made r)

  -- the position
  abbrev k : ℕ
  k = get_or r.books (book_size * p + taken_at) 0

  at_count : get_or r.queues c 0 ≡ get_or r.queues (order_at i) 0
  at_count = ap (λ (j : ℕ). get_or r.queues j 0) place

  at-taken : k ≡ get_or (book_bytes r.books p) taken_at 0
  at-taken = sym (book-byte r.books p taken_at (omega arith))

  pub next-inside : c + order_size ≤ length r.queues
  next-inside = omega (arith, place, order-inside r (ranged r s) i (carrier-made r p s member v there))

  pub next-none : get_or r.queues c 0 ≤ k → Delivered r p r.books (Err NoneToDeliver)
  next-none h = deliver-none r p s member v there (omega (arith, at_count, at-taken))

  module _ (bytes : RangesBytes r) (more : k < get_or r.queues c 0) where
    ahead : get_or (book_bytes r.books p) taken_at 0 < get_or r.queues (order_at i) 0
    ahead = omega (arith, at_count, at-taken)

    pub next-asks : HasBook r.books p × (p < members_of r) × (c + order_size ≤ length r.queues) × (k < max_ordered)
        × (fits_kind (get_or r.queues (order_kind c k) 0) (get_or r.queues (order_count c k) 0) ≡ true) × (get_or r.queues (order_sender c k) 0 < max_members)
        × (get_or (book_bytes r.books p) taken_at 0 < max_ordered) × (get_or (book_bytes r.books p) carrier_at 0 ≡ 1)
    next-asks = take-asks r p s member v there bytes ahead c k place at-taken

    pub next-done : (exit : List ℕ) (x : Reply)
        → OwnStep p (of_member r.books p (λ b. taking (get_or r.queues (order_sender c k) 0) (order_message r.queues c k) (book_in b)))
        (take_bytes (get_or r.queues (order_sender c k) 0) (order_message r.queues c k)) r.books exit x
        → Delivered r p exit x
    next-done exit x y = deliver-done r p s member v there bytes ahead c k place at-taken exit x y
