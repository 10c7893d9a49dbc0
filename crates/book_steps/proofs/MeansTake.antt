-- The bytes after a message was taken mean the rule's book, for each of the four messages.
use mathlib.Core.Path.{◌≡◌, refl}
use mathlib.Core.Logic.{⊎_elim}
use mathlib.Core.Bool.{true, false}
use mathlib.Core.List.{List, ◌∷◌}
use Prim.Native.Nat.{ℕ, suc, ◌+◌, ◌-◌, ◌^◌, ◌≤◌, ◌<◌}
use native.Mathlib.Omega.{arith}
use borrow.Author.Tests.{leb-true}
use lib.ListN.{length, get_or}
use Rattle.views.specs.declared.View.{View}
use Rattle.views.specs.Limits.{max_members, max_open, max_ordered}
use Rattle.views.proofs.SetLaws.{known}
use Rattle.views.proofs.WithMemberLaws.{one-noted}
use Rattle.views.proofs.PlaceLaws.{list-placed}
use Rattle.wire.proofs.TripViews.{ViewFits, EachFits, AreBytes}
use Rattle.rules.specs.Data.{Message, client, info, registered, told}
use Rattle.rules.specs.Member.{client_is_carrier, learned, received, delivered}
use Rattle.rules.specs.Sound.{carrier_inward, book_counts}
use Rattle.rules.specs.Alone.{views_of, book_sound}
use Rattle.rules.proofs.TestLaws.{conditions-say}
use Rattle.slots.proofs.Stored.{MessageFits, told_of}
use Rattle.slots.proofs.BytesKept.{SetsAreBytes}
use Rattle.book_bytes.specs.declared.Record.{Record}
use Rattle.book_bytes.specs.declared.Held.{Held}
use Rattle.book_bytes.specs.Places.{carrier_at, taken_at, side_at, inward_at}
use Rattle.book_bytes.specs.Records.{record_in}
use Rattle.book_bytes.specs.Books.{outgoing_in, book_in, bytes_sound}
use Rattle.book_bytes.proofs.LayoutLaws.{Layout}
use Rattle.book_bytes.proofs.Fits.{Fits}
use Rattle.book_bytes.proofs.InwardBooks.{length-inward}
use Rattle.record_steps.proofs.MeaningNotes.{one_told}
use Rattle.book_steps.specs.Acts.{gaining, held_after, take_bytes}
use Rattle.book_steps.proofs.Committed.{sound-layout}
use Rattle.book_steps.proofs.Means.{Means, means-as, sound-fits, own_in, new_in, Stands, queues-kept, gains-own, gains-new}
use Rattle.book_steps.proofs.MeansRecord.{more-stands, info-stands, registration-stands, told-stands, held-stands}
use Rattle.book_steps.proofs.TurnFits.{opens-each, with-fits, learned-fits}
use Rattle.book_steps.proofs.RoomLaws.{limit-there}

-- a position's limit where there is a view
module _ (b : List ℕ) (bytes : AreBytes b) (sound : bytes_sound b ≡ true) where
  abbrev h : Record
  h = record_in b

  layout : Layout b
  layout = sound-layout b sound

  fits : Fits h
  fits = sound-fits b bytes sound

  -- ---- room for a client message: the carrier view's inward list is no longer than what was taken there

  inward-behind : get_or b carrier_at 0 ≡ 1 → length (carrier_inward (book_in b)) ≤ get_or b taken_at 0
  unfolding bytes_sound book_sound book_counts book_in record_in
  inward-behind e =
      let (_, (book, _)) = conditions-say _ sound in
      let (_, (counts, _)) = conditions-say _ book in
      let (_, (_, (_, (_, (_, (behind, _)))))) = conditions-say _ counts in
      rw (← limit-there b (carrier_inward (book_in b)) e) (leb-true _ _ behind)

  module _ (q : ℕ) (member : q < max_members) (there : get_or b carrier_at 0 ≡ 1) (room : get_or b taken_at 0 < max_ordered) where
    one_more : h.taken.0 + 1 < 256
    unfolding record_in
    one_more = omega arith

    -- the bytes before the step
    first : Stands b b h (outgoing_in b) (own_in b) (new_in b)
    first = queues-kept b layout bytes

    -- ---- client

    take-client : (x : ℕ) → x < 256 ^ 8 → Means b (take_bytes q (client x) b) (delivered q (client x) (book_in b))
    unfolding take_bytes book_in delivered received
    take-client x w =
        let behind = inward-behind there in
        ⊎_elim
        (λ (t : client_is_carrier (book_in b) ≡ true).
        let short : length (own_in b) ≤ get_or b taken_at 0 = rw t at behind in
        let few : get_or b (inward_at (get_or b side_at 0)) 0 < max_ordered = omega (arith, length-inward b (get_or b side_at 0), short) in
        let place : gaining b ≡ inward_at (get_or b side_at 0) = rw t in
        rw (place, t) (more-stands (gains-own b layout bytes q x (omega arith) w few) one_more).means)
        (λ (t : client_is_carrier (book_in b) ≡ false).
        let short : length (new_in b) ≤ get_or b taken_at 0 = rw t at behind in
        let few : get_or b (inward_at (1 - get_or b side_at 0)) 0 < max_ordered = omega (arith, length-inward b (1 - get_or b side_at 0), short) in
        let place : gaining b ≡ inward_at (1 - get_or b side_at 0) = rw t in
        rw (place, t) (more-stands (gains-new b layout bytes q x (omega arith) w few) one_more).means)
        (known (client_is_carrier (book_in b)))

    -- ---- info

    take-info : (v : View) (l : List View) → MessageFits (info v l) → SetsAreBytes (v ∷ l) → length (delivered q (info v l) (book_in b)).held.opens ≤ max_open
        → Means b (take_bytes q (info v l) b) (delivered q (info v l) (book_in b))
    unfolding take_bytes book_in delivered held_after
    take-info v l w sets few =
        let x : Held = held_after v l b in
        let start : ViewFits v = record { id = w.ids 0; set = sets 0 } in
        let each : EachFits l = λ (j : ℕ). record { id = w.ids (suc j); set = sets (suc j) } in
        let fit = learned-fits v l (book_in b).held start each fits.settled (opens-each h fits) few in
        let noted = info-stands (held-stands first x fit.0 fit.1) q (with-fits q h.infos member fits.infos) in
        means-as (rw (one-noted q h.infos, list-placed (learned v l (book_in b).held).opens (omega (arith, few))) refl) (more-stands noted one_more).means

    -- ---- registered, told

    take-registered : Means b (take_bytes q registered b) (delivered q registered (book_in b))
    unfolding take_bytes book_in delivered
    take-registered =
        let noted = registration-stands first q (with-fits q h.registrations member fits.registrations) in
        means-as (rw (one-noted q h.registrations) refl) (more-stands noted one_more).means

    take-told : (k : ℕ) → k < 256 → Means b (take_bytes q (told k) b) (delivered q (told k) (book_in b))
    unfolding take_bytes book_in delivered
    take-told k w =
        means-as (rw (one_told h.tolds q k (omega (arith, fits.tolds))) refl) (more-stands (told-stands first q k member w) one_more).means

  -- ---- any message

  pub take-means : (q : ℕ) (m : Message) → q < max_members → MessageFits m → SetsAreBytes (views_of m) → told_of m < 256
      → get_or b carrier_at 0 ≡ 1 → get_or b taken_at 0 < max_ordered → length (delivered q m (book_in b)).held.opens ≤ max_open
      → Means b (take_bytes q m b) (delivered q m (book_in b))
  take-means q (client x) member w sets count there room few = take-client q member there room x w.number
  take-means q (info v l) member w sets count there room few = take-info q member there room v l w sets few
  take-means q registered member w sets count there room few = take-registered q member there room
  take-means q (told k) member w sets count there room few = take-told q member there room k count
