-- The bytes after hand, safe and collect mean the rule's book: no queue changes.
use mathlib.Core.Path.{◌≡◌, refl}
use mathlib.Core.Bool.{true}
use mathlib.Core.List.{List}
use Prim.Native.Nat.{ℕ, ◌+◌, ◌≤◌}
use native.Mathlib.Omega.{arith}
use lib.ListN.{length, get_or}
use Rattle.std.specs.Prelude.{unwrap_or}
use Rattle.views.specs.Limits.{max_ordered}
use Rattle.views.specs.Lists.{no_view}
use Rattle.wire.proofs.TripViews.{AreBytes}
use Rattle.rules.specs.Data.{accepted}
use Rattle.rules.specs.Member.{Done, hands, safes, collects}
use Rattle.book_bytes.specs.declared.Record.{Record}
use Rattle.book_bytes.specs.Places.{handed_at, reported_at, side_at}
use Rattle.book_bytes.specs.Records.{record_in}
use Rattle.book_bytes.specs.Books.{outgoing_in, book_in, bytes_sound, members_in, own_in_book}
use Rattle.book_bytes.proofs.LayoutLaws.{Layout}
use Rattle.book_bytes.proofs.Fits.{Fits}
use Rattle.book_bytes.proofs.RecordBytes.{tolds-bytes}
use Rattle.book_bytes.proofs.InwardBooks.{length-inward}
use Rattle.book_bytes.proofs.Changes.{handed-set, reported-set}
use Rattle.book_bytes.proofs.Behind.{inward-few}
use Rattle.record_steps.specs.Turns.{settled_as}
use Rattle.record_steps.proofs.MeaningLeft.{hands-leaves, safes-leaves}
use Rattle.record_steps.proofs.MeaningMarks.{collect-leaves}
use Rattle.book_steps.specs.Acts.{hand_bytes, safe_bytes, collect_bytes}
use Rattle.book_steps.proofs.Committed.{sound-layout, hand-some, safe-some}
use Rattle.book_steps.proofs.Means.{Means, sound-fits, means-as, gave, own_in, new_in, queues-kept, stores}
use Rattle.book_steps.proofs.MeansRecord.{byte-stands}
use Rattle.book_steps.proofs.TurnFits.{unwrapped-fits, settled-fits}

module _ (b : List ℕ) (bytes : AreBytes b) (sound : bytes_sound b ≡ true) where
  abbrev h : Record
  h = record_in b

  layout : Layout b
  layout = sound-layout b sound

  fits : Fits h
  fits = sound-fits b bytes sound

  -- ---- hand

  pub hand-means : (d : Done) → hands (own_in_book b) (book_in b) ≡ accepted d → Means b (hand_bytes b) d.book
  unfolding hand_bytes book_in record_in
  hand-means d e =
      let next = gave (hands (own_in_book b) (book_in b)) d (hand-some b (own_in_book b)) e in
      let few : length (own_in b) ≤ max_ordered = rw (length-inward b (get_or b side_at 0)) (inward-few b (get_or b side_at 0) layout.side layout) in
      let x = get_or b handed_at 0 + 1 in
      means-as (hands-leaves (own_in_book b) (book_in b) d e)
      (byte-stands (queues-kept b layout bytes) handed_at x _ (omega arith) (omega arith) (omega (arith, next, few)) (handed-set b x (omega (arith, layout.size))) refl).means

  -- ---- safe

  pub safe-means : (d : Done) → safes (members_in b) (own_in_book b) (book_in b) ≡ accepted d → Means b (safe_bytes b) d.book
  unfolding safe_bytes book_in record_in
  safe-means d e =
      let next = gave (safes (members_in b) (own_in_book b) (book_in b)) d (safe-some b (own_in_book b) (members_in b)) e in
      let x = get_or b reported_at 0 + 1 in
      means-as (safes-leaves (own_in_book b) (book_in b) (members_in b) d e)
      (byte-stands (queues-kept b layout bytes) reported_at x _ (omega arith) (omega arith) (omega (arith, next.0, bytes handed_at)) (reported-set b x (omega (arith, layout.size)))
      refl).means

  -- ---- collect

  pub collect-means : (d : Done) → collects (members_in b) (book_in b) ≡ accepted d → Means b (collect_bytes b) d.book
  unfolding collect_bytes book_in settled_as
  collect-means d e =
      let v = unwrap_or h.carrier no_view in
      means-as (collect-leaves h (outgoing_in b) (own_in b) (new_in b) fits.opens.list fits.opens.places fits.opens.few (members_in b) d e)
      (stores (queues-kept b layout bytes) (settled_as v h) (settled-fits h fits v (unwrapped-fits h.carrier fits.carrier)) (tolds-bytes b bytes) refl).means
