-- Pass: the member's book as a part of the books, each refusal at its place in the row, and the bytes of an accepted one.
use mathlib.Core.Path.{◌≡◌, refl, sym, ap, ◌∙◌}
use mathlib.Core.Bool.{true}
use Rattle.std.specs.Prelude.{Option, None, Some, Ok, Err}
use mathlib.Core.List.{List}
use Prim.Native.Nat.{ℕ, ◌+◌, ◌*◌, ◌≤◌, ◌<◌}
use native.Mathlib.Omega.{arith}
use borrow.Author.Tests.{lt-ltb, le-ltb}
use lib.ListN.{length, get_or, take, drop}
use Rattle.views.specs.declared.View.{View}
use Rattle.views.specs.declared.refusal.Refusal.{Refusal}
use Rattle.views.specs.declared.refusal.Refusal.TheVariants.{NoSuchMember, NoCarrierView, NoneOutgoing, WaitingFull}
use Rattle.views.specs.Limits.{max_outgoing, max_waiting}
use Rattle.views.specs.Lists.{id_of}
use Rattle.views.specs.Refusals.{left}
use Rattle.rules.specs.Data.{Book, need, with_view, with_first, after}
use Rattle.rules.specs.Member.{passing as passes}
use Rattle.rules.specs.Group.{pass_step}
use Rattle.rules.proofs.Sound.{sound-says}
use Rattle.slots.specs.Slots.{slot_size}
use Rattle.slots.proofs.Lists.{length-entries}
use Rattle.events.specs.Replies.{verdict_of}
use Rattle.book_bytes.specs.Places.{book_size, carrier_at, outgoing_at}
use Rattle.book_bytes.specs.Records.{seat_in, record_in}
use Rattle.book_bytes.specs.Books.{book_in}
use Rattle.book_bytes.proofs.Blank.{no-entries}
use Rattle.book_steps.specs.Acts.{pass_bytes}
use Rattle.group_bytes.specs.Places.{book_bytes, with_book, waiting_at}
use Rattle.group_bytes.specs.Groups.{Ranges, members_of, made_of, views_made, place_of, group_in, ranges_sound}
use Rattle.group_bytes.specs.Moves.{slot_added, pass_ranges}
use Rattle.group_bytes.proofs.PlaceLaws.{length-made, place_in}
use Rattle.group_bytes.proofs.BookSounds.{book-is}
use Rattle.group_bytes.proofs.Inside.{waiting-inside}
use Rattle.group_bytes.proofs.Tables.{waiting-at}
use Rattle.group_steps.specs.CarrierParts.{passing, Passed}
use Rattle.group_steps.proofs.Rows.{ranged, group-sound, no_member, by-rule, first_of}
use Rattle.group_steps.specs.OwnParts.{book_place}
use Rattle.group_steps.proofs.OwnStepLaws.{place-refused, part-is}

-- ---- the book of p is the part of the books that the code lends

pub place_is : (books : List ℕ) (p : ℕ) {a : ℕ} → Ok a ≡ book_place books p → (m : ℕ) → m ≡ book_size → (s : Option View)
    → s ≡ seat_in (take m (drop a books)) carrier_at → (record_in (book_bytes books p)).carrier ≡ s
unfolding record_in
place_is books p found m size s e = sym (e ∙ ap (λ (b : List ℕ). seat_in b carrier_at) (part-is books p found m size))

-- ---- the verdict and the bytes

pub pass-refused : (r : Ranges) (p : ℕ) (x : Refusal) → verdict_of (passing r p) ≡ Err x → Passed r p r.books r.queues (Err x)
unfolding left
pass-refused r p x e = record { verdict = sym e; gone = rw e; added = rw e }

-- 6, as the place of the book says
pub pass-no-member : (r : Ranges) (p : ℕ) (x : Refusal) → Err x ≡ book_place r.books p → Passed r p r.books r.queues (Err x)
pass-no-member r p x e = let (past, why) = place-refused r.books p e in rw why (pass-refused r p NoSuchMember (no_member r p (pass_step (group_in r) p) past))

module _ (r : Ranges) (p : ℕ) where
  abbrev b : List ℕ
  b = book_bytes r.books p

  module _ (s : ranges_sound r ≡ true) (member : p < members_of r) where
    own : (group_in r).books p ≡ book_in b
    own = book-is r (ranged r s) p member

    rule : verdict_of (passing r p) ≡ verdict_of (pass_step (group_in r) p)
    rule = ap verdict_of (by-rule r p (pass_step (group_in r) p) member)

    pub no-carrier : (record_in b).carrier ≡ None → verdict_of (passing r p) ≡ Err NoCarrierView
    unfolding pass_step passes book_in with_view after
    no-carrier t = rule ∙ rw (own, t)

    module _ (v : View) (t : (record_in b).carrier ≡ Some v) where
      abbrev i : ℕ
      i = place_of (id_of v) (views_made r)

      abbrev w : ℕ
      w = waiting_at i p

      -- the carrier view is one of those made
      pub carried-made : i < made_of r
      unfolding group_in book_in
      carried-made =
          let c : ((group_in r).books p).carrier.view ≡ Some v = ap (λ (x : Book). x.carrier.view) own ∙ t in
          let listed = ((sound-says (group_in r) (group-sound r s)).book p member).carrier-known v c in
          omega (arith, length-made r, place_in v (views_made r) listed)

      waits : length ((group_in r).waiting p (id_of v)) ≡ get_or r.queues w 0
      unfolding group_in
      waits = ap length (waiting-at r (id_of v) i refl p member carried-made) ∙ length-entries r.queues (w + 1) (get_or r.queues w 0)

      pub none-outgoing : get_or b outgoing_at 0 ≡ 0 → verdict_of (passing r p) ≡ Err NoneOutgoing
      unfolding pass_step passes book_in with_view with_first after
      none-outgoing h = rule ∙ rw (own, t, no-entries b (outgoing_at + 1) (get_or b outgoing_at 0) h)

      module _ (some : 0 < get_or b outgoing_at 0) where
        pub waiting-full : max_waiting ≤ get_or r.queues w 0 → verdict_of (passing r p) ≡ Err WaitingFull
        unfolding pass_step passes book_in with_view with_first after need
        waiting-full h =
            let (e, rest, k) = first_of b (outgoing_at + 1) (get_or b outgoing_at 0) some in
            rule ∙ rw (own, t, k, waits, le-ltb _ _ h)

        module _ (room : get_or r.queues w 0 < max_waiting) where
          moves : verdict_of (passing r p) ≡ Ok tt
          unfolding pass_step passes book_in with_view with_first after need
          moves =
              let (e, rest, k) = first_of b (outgoing_at + 1) (get_or b outgoing_at 0) some in
              rule ∙ rw (own, t, k, waits, lt-ltb _ _ room)

          pub pass-accepted : (l q : List ℕ) → l ≡ with_book r.books p (pass_bytes b) → q ≡ slot_added r.queues w b (outgoing_at + 1) → Passed r p l q (Ok tt)
          unfolding left pass_ranges
          pass-accepted l q f g = record { verdict = sym moves; gone = rw moves f; added = rw (moves, t) g }

          -- what the code asks to move the entry: the book is whole, and the queue has room within the range
          pub forward-asks : (length b ≡ book_size) × (0 < get_or b outgoing_at 0) × (get_or b outgoing_at 0 ≤ max_outgoing) × (get_or r.queues w 0 < 255)
              × (w + 1 + slot_size * (get_or r.queues w 0 + 1) ≤ length r.queues)
          forward-asks =
              let l = ((ranged r s).in_place p member).layout in
              (l.size, some, l.outgoing, omega arith, omega (arith, waiting-inside r (ranged r s) i carried-made p member))
