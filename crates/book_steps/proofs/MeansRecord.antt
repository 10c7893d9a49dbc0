-- Bytes that mean a book, after a byte of the record was set or the views held were stored: which record they hold then, and which book they are.
use mathlib.Core.Path.{◌≡◌, refl, ap, ◌∙◌}
use mathlib.Core.List.{List}
use Prim.Native.Nat.{ℕ, ◌+◌, ◌≤◌, ◌<◌}
use native.Mathlib.Omega.{arith}
use lib.ListN.{get_or, set}
use Rattle.views.specs.Limits.{max_members}
use Rattle.views.specs.Sets.{with_member}
use Rattle.wire.proofs.TripViews.{ViewFits}
use Rattle.rules.specs.Data.{Entry, Item}
use Rattle.slots.proofs.BytesKept.{set-bytes}
use Rattle.book_bytes.specs.declared.Record.{Record}
use Rattle.book_bytes.specs.declared.Held.{Held}
use Rattle.book_bytes.specs.Places.{taken_at, infos_at, registrations_at, tolds_at, side_at, handed_at}
use Rattle.book_bytes.specs.Records.{record_in, store_held}
use Rattle.book_bytes.proofs.Fits.{OpensFit}
use Rattle.book_bytes.proofs.Changes.{holding, counting, byte-within, byte-layout, taken-set, infos-set, registrations-set, tolds-set, held-within, held-set, held-layout}
use Rattle.book_bytes.proofs.RecordBytes.{held_bytes}
use Rattle.book_steps.specs.Acts.{one_more, noted}
use Rattle.book_steps.proofs.Means.{Stands, size, changes}

-- a record with another number taken, other infos, registrations or told counts
abbrev pub with_taken : Record → ℕ → Record
with_taken h x = counting h h.registered h.handed.0 h.told.0 h.reported.0 x h.infos h.registrations h.tolds

abbrev pub with_infos : Record → ℕ → Record
with_infos h x = counting h h.registered h.handed.0 h.told.0 h.reported.0 h.taken.0 x h.registrations h.tolds

abbrev pub with_registrations : Record → ℕ → Record
with_registrations h x = counting h h.registered h.handed.0 h.told.0 h.reported.0 h.taken.0 h.infos x h.tolds

abbrev pub with_tolds : Record → List ℕ → Record
with_tolds h t = counting h h.registered h.handed.0 h.told.0 h.reported.0 h.taken.0 h.infos h.registrations t

module _ {b c : List ℕ} {h : Record} {out : List Entry} {own new : List (Item ℕ)} (s : Stands b c h out own new) where
  -- ---- one byte

  pub byte-stands : (i x : ℕ) (k : Record) → handed_at ≤ i → i < side_at → x < 256 → record_in (set c i x) ≡ k → k.side ≡ h.side → Stands b (set c i x) k out own new
  byte-stands i x k l m w e f =
      changes s (set c i x) (byte-within c i x (omega arith) (omega arith)) k e (byte-layout c i x l m s.means.layout) (set-bytes c i x s.means.bytes w) f

  pub more-stands : h.taken.0 + 1 < 256 → Stands b (one_more c) (with_taken h (h.taken.0 + 1)) out own new
  unfolding one_more record_in
  more-stands w =
      let was : get_or c taken_at 0 ≡ h.taken.0 = ap (λ (k : Record). k.taken.0) s.read in
      byte-stands taken_at (get_or c taken_at 0 + 1) (with_taken h (h.taken.0 + 1)) (omega arith) (omega arith) (omega (arith, was))
      (taken-set c (get_or c taken_at 0 + 1) (size s) ∙ (λ i. with_taken (s.read i) (was i + 1))) refl

  module _ (q : ℕ) where
    pub info-stands : with_member q h.infos < 256 → Stands b (noted infos_at q c) (with_infos h (with_member q h.infos)) out own new
    unfolding noted record_in
    info-stands w =
        let was : get_or c infos_at 0 ≡ h.infos = ap (λ (k : Record). k.infos) s.read in
        byte-stands infos_at (with_member q (get_or c infos_at 0)) (with_infos h (with_member q h.infos)) (omega arith) (omega arith) (rw was w)
        (infos-set c (with_member q (get_or c infos_at 0)) (size s) ∙ (λ i. with_infos (s.read i) (with_member q (was i)))) refl

    pub registration-stands : with_member q h.registrations < 256
        → Stands b (noted registrations_at q c) (with_registrations h (with_member q h.registrations)) out own new
    unfolding noted record_in
    registration-stands w =
        let was : get_or c registrations_at 0 ≡ h.registrations = ap (λ (k : Record). k.registrations) s.read in
        byte-stands registrations_at (with_member q (get_or c registrations_at 0)) (with_registrations h (with_member q h.registrations))
        (omega arith) (omega arith) (rw was w)
        (registrations-set c (with_member q (get_or c registrations_at 0)) (size s) ∙ (λ i. with_registrations (s.read i) (with_member q (was i)))) refl

    pub told-stands : (k : ℕ) → q < max_members → k < 256 → Stands b (set c (tolds_at + q) k) (with_tolds h (set h.tolds q k)) out own new
    told-stands k l w =
        byte-stands (tolds_at + q) k (with_tolds h (set h.tolds q k)) (omega arith) (omega arith) w
        (tolds-set c k (size s) q l ∙ (λ i. with_tolds (s.read i) (set (s.read i).tolds q k))) refl

  -- ---- the views held

  pub held-stands : (x : Held) → ViewFits x.settled → OpensFit x.opens → Stands b (store_held c x) (holding h x.settled x.opens) out own new
  held-stands x f g =
      changes s (store_held c x) (held-within c (size s) x f g) (holding h x.settled x.opens)
      (held-set c (size s) x f g ∙ (λ i. holding (s.read i) x.settled x.opens)) (held-layout c (size s) x f g s.means.layout)
      (held_bytes c x s.means.bytes f g) refl
