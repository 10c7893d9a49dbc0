-- Deliver: each refusal at its place in the row; the next entry can be taken, and what the step on the book gives is what the group's rule gives.
use mathlib.Core.Path.{◌≡◌, refl, sym, ap, ◌∙◌, subst}
use mathlib.Core.Bool.{true}
use Rattle.std.specs.Prelude.{None, Some, Err}
use mathlib.Core.List.{List, [], ◌++◌}
use Prim.Native.Nat.{ℕ, ◌+◌, ◌*◌, ◌≤◌, ◌<◌}
use native.Mathlib.Omega.{arith}
use borrow.Author.Tests.{lt-ltb, le-ltb}
use lib.ListN.{length, get_or, take, drop, drop_of_length-le}
use Rattle.views.specs.declared.View.{View}
use Rattle.views.specs.declared.refusal.Refusal.{Refusal}
use Rattle.views.specs.declared.refusal.Refusal.TheVariants.{NoCarrierView, NoneToDeliver}
use Rattle.views.specs.Limits.{max_views, max_members, max_ordered}
use Rattle.views.specs.Sizes.{view_size}
use Rattle.views.specs.Lists.{id_of}
use Rattle.views.specs.Refusals.{left}
use Rattle.wire.specs.declared.Message.{Message as Carried}
use Rattle.wire.specs.declared.Message.TheVariants.{Info}
use Rattle.wire.specs.Reader.{views_in}
use Rattle.rules.specs.Data.{Member, Message, Entry, Book, ok, accepted, need, with_view, with_first}
use Rattle.rules.specs.Member.{does, delivered}
use Rattle.rules.specs.Alone.{message_of}
use Rattle.rules.specs.Group.{booked, take_from, deliver_step}
use Rattle.rules.proofs.Sound.{sound-says}
use Rattle.slots.specs.Slots.{fits_kind}
use Rattle.slots.specs.Columns.{order_size, order_sender, order_kind, order_count, order_views, order_message, entries_ordered}
use Rattle.slots.specs.FrameParts.{order_framed, order_carried}
use Rattle.slots.proofs.Orders.{length-order, order-next, order-message, order-framed, order-info}
use Rattle.book_bytes.specs.Places.{members_at, carrier_at, taken_at, book_size}
use Rattle.book_bytes.specs.Records.{seat_in, record_in}
use Rattle.book_bytes.specs.Books.{book_in, bytes_sound}
use Rattle.events.specs.Replies.{Reply, reply_of, verdict_of}
use Rattle.book_steps.specs.Acts.{taking, take_bytes}
use Rattle.group_bytes.specs.Places.{book_bytes, order_at}
use Rattle.group_bytes.specs.Groups.{Ranges, members_of, made_of, views_made, place_of, group_in, ranges_sound}
use Rattle.group_bytes.specs.Moves.{deliver_ranges}
use Rattle.group_bytes.proofs.PlaceLaws.{length-made, place_in}
use Rattle.group_bytes.proofs.RangesLaws.{RangesBytes}
use Rattle.group_bytes.proofs.BookSounds.{book-is}
use Rattle.group_bytes.proofs.Inside.{order-inside}
use Rattle.group_bytes.proofs.Tables.{order-at}
use Rattle.group_bytes.proofs.PassGroup.{carried_in, carried-is}
use Rattle.group_bytes.proofs.DeliverGroup.{Takes, takes-accepted, deliver-takes}
use Rattle.group_steps.specs.OwnParts.{HasBook, of_member, book_place, OwnStep}
use Rattle.group_steps.proofs.OwnStepLaws.{place-given, place-refused, own-done}
use Rattle.group_steps.proofs.Rows.{ranged, group-sound}
use Rattle.group_steps.specs.VisitParts.{delivering, Delivered}
use Rattle.group_steps.proofs.JoinLaws.{desk-of, of-member}

-- ---- an entry of an order as it was loaded, its views from `at` on

module _ (queues : List ℕ) (c k : ℕ) (fits : fits_kind (get_or queues (order_kind c k) 0) (get_or queues (order_count c k) 0) ≡ true)
    (w : Carried) (loaded : w ≡ order_carried queues c k) (n : ℕ) (counted : n ≡ order_framed queues c k) (at : ℕ) (place : at ≡ order_views c k) where
  pub entry-asks : c + order_size ≤ length queues → k < max_ordered → (at + view_size * n ≤ length queues) × (n ≤ max_views) × (w ≡ Info → 1 ≤ n)
  entry-asks inside low =
      let few : n ≤ max_views = rw counted (order-framed queues c k fits) in
      (omega arith, few, λ i. rw counted (order-info queues c k fits (sym loaded ∙ i)))

  -- a byte for the count is enough: then it is the message that the order has
  pub entry-is : get_or queues (order_count c k) 0 < 256 → message_of w (views_in queues at n) ≡ order_message queues c k
  entry-is byte = (λ i. message_of (loaded i) (views_in queues (place i) (counted i))) ∙ order-message queues c k byte fits

-- ---- the part of the books that is the member's book

module _ (books : List ℕ) (p : Member) (there : p < get_or books members_at 0) (n : ℕ) (size : n ≡ book_size) where
  abbrev part : List ℕ
  part = take n (drop (book_size * p) books)

  pub part-asks : HasBook books p → (q : Member) → q < max_members → get_or (book_bytes books p) taken_at 0 < max_ordered
      → get_or (book_bytes books p) carrier_at 0 ≡ 1
      → (bytes_sound part ≡ true) × (get_or part taken_at 0 < max_ordered) × (get_or part carrier_at 0 ≡ 1) × (q < max_members)
  unfolding book_bytes
  part-asks desk q from room carrier = rw size (desk.sound there, room, carrier, from)

  -- under another name of the message
  pub part-taken : (q : Member) (z m : Message) → z ≡ m → (x : Reply) (c exit : List ℕ)
      → (x ≡ reply_of (taking q z (book_in part))) × (c ≡ left (verdict_of (taking q z (book_in part))) (take_bytes q z part) part)
      → exit ≡ take (book_size * p) books ++ (c ++ drop n (drop (book_size * p) books))
      → OwnStep p (of_member books p (λ b. taking q m (book_in b))) (take_bytes q m) books exit x
  part-taken q z m is x c exit y e =
      subst (λ (z : Message). OwnStep p (of_member books p (λ b. taking q z (book_in b))) (take_bytes q z) books exit x) is
      (own-done books p (λ b. taking q z (book_in b)) (take_bytes q z) x (place-given books p there) n size c exit y e)

-- ---- the row

module _ (r : Ranges) (p : Member) where
  -- 6, as the place of the book says
  pub deliver-no-member : (x : Refusal) → Err x ≡ book_place r.books p → Delivered r p r.books (Err x)
  unfolding delivering need left
  deliver-no-member x e = let (past, why) = place-refused r.books p e in let t = le-ltb _ _ past in record { reply = rw (t, why); taken = rw t }

  module _ (s : ranges_sound r ≡ true) (member : p < members_of r) where
    abbrev b : List ℕ
    b = book_bytes r.books p

    abbrev B : Book
    B = (group_in r).books p

    by-rule : delivering r p ≡ deliver_step (group_in r) p
    unfolding delivering need
    by-rule = rw (lt-ltb _ _ member)

    carrier-is : B.carrier.view ≡ seat_in b carrier_at
    unfolding book_in record_in
    carrier-is = ap (λ (C : Book). C.carrier.view) (book-is r (ranged r s) p member)

    pub deliver-no-carrier : seat_in b carrier_at ≡ None → Delivered r p r.books (Err NoCarrierView)
    unfolding deliver_step with_view left
    deliver-no-carrier h = let t = carrier-is ∙ h in record { reply = rw (by-rule, t); taken = rw (by-rule, t) }

    module _ (v : View) (there : seat_in b carrier_at ≡ Some v) where
      abbrev i : ℕ
      i = place_of (id_of v) (views_made r)

      carrier-some : B.carrier.view ≡ Some v
      carrier-some = carrier-is ∙ there

      -- as the record of the book has it
      recorded : place_of (id_of (carried_in b)) (views_made r) ≡ i
      unfolding record_in
      recorded = ap (λ (w : View). place_of (id_of w) (views_made r)) (carried-is b v there)

      taken_is : B.carrier.taken ≡ get_or b taken_at 0
      unfolding book_in record_in
      taken_is = ap (λ (C : Book). C.carrier.taken) (book-is r (ranged r s) p member)

      -- the carrier view is one made
      pub carrier-made : i < made_of r
      unfolding group_in
      carrier-made =
          let known = ((sound-says (group_in r) (group-sound r s)).book p member).carrier-known v carrier-some in
          omega (arith, place_in v (views_made r) known, length-made r)

      -- its order, and what is left of it
      abbrev o : ℕ
      o = order_at i

      abbrev k : ℕ
      k = get_or b taken_at 0

      abbrev ahead : List Entry
      ahead = drop k (entries_ordered r.queues o)

      by_first : delivering r p ≡ with_first ahead NoneToDeliver (λ e rest. accepted (record { state = booked (group_in r) p (take_from e B); answer = ok }))
      unfolding deliver_step with_view group_in
      by_first = by-rule ∙ rw (carrier-some, taken_is, order-at r (id_of v) i refl carrier-made)

      pub deliver-none : get_or r.queues (order_at i) 0 ≤ get_or b taken_at 0 → Delivered r p r.books (Err NoneToDeliver)
      unfolding with_first left
      deliver-none h =
          let t : ahead ≡ [] = drop_of_length-le (entries_ordered r.queues o) {i = k} (omega (arith, length-order r.queues o)) in
          record { reply = rw (by_first, t); taken = rw (by_first, t) }

      module _ (bytes : RangesBytes r) (more : get_or b taken_at 0 < get_or r.queues (order_at i) 0) where
        -- the next entry
        abbrev q : Member
        q = get_or r.queues (order_sender o k) 0

        abbrev m : Message
        m = order_message r.queues o k

        by_next : delivering r p ≡ accepted (record { state = booked (group_in r) p (delivered q m B); answer = ok })
        unfolding with_first
        by_next = by_first ∙ rw (order-next r.queues o k more)

        takes : Takes r p q m
        takes =
            subst (λ (j : ℕ). Takes r p (get_or r.queues (order_sender (order_at j) k) 0) (order_message r.queues (order_at j) k)) recorded
            (deliver-takes r (ranged r s) bytes (group-sound r s) p member _ (sym by-rule ∙ by_next))

        -- what the code asks of the entry
        pub take-asks : (c n : ℕ) → c ≡ order_at i → n ≡ get_or b taken_at 0
            → HasBook r.books p × (p < members_of r) × (c + order_size ≤ length r.queues) × (n < max_ordered)
            × (fits_kind (get_or r.queues (order_kind c n) 0) (get_or r.queues (order_count c n) 0) ≡ true)
            × (get_or r.queues (order_sender c n) 0 < max_members)
            × (get_or b taken_at 0 < max_ordered) × (get_or b carrier_at 0 ≡ 1)
        take-asks c n e f =
            let fits = ranged r s in
            rw (e, f) (
              desk-of r s p,
              member,
              order-inside r fits i carrier-made,
              takes.room,
              (fits.tables i carrier-made).order.kinds k more,
              omega (arith, takes.sender, fits.members.1),
              takes.room,
              takes.there,
            )

        in-book : of_member r.books p (λ c. taking q m (book_in c)) ≡ does ok (delivered q m B)
        in-book = of-member r.books p _ member ∙ rw (← book-is r (ranged r s) p member) (takes-accepted r p q m takes)

        done : (exit : List ℕ) (x : Reply) → OwnStep p (of_member r.books p (λ c. taking q m (book_in c))) (take_bytes q m) r.books exit x
            → Delivered r p exit x
        unfolding deliver_ranges left
        done exit x y = record { reply = rw by_next (y.reply ∙ ap reply_of in-book); taken = rw (by_next, recorded) (y.books ∙ rw in-book) }

        pub deliver-done : (c n : ℕ) → c ≡ order_at i → n ≡ get_or b taken_at 0 → (exit : List ℕ) (x : Reply)
            → OwnStep p (of_member r.books p (λ b. taking (get_or r.queues (order_sender c n) 0) (order_message r.queues c n) (book_in b)))
            (take_bytes (get_or r.queues (order_sender c n) 0) (order_message r.queues c n)) r.books exit x
            → Delivered r p exit x
        deliver-done c n e f exit x y = done exit x (rw (e, f) at y)
