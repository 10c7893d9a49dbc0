-- What is read of each part of the record depends on the part's own bytes alone, and the record is what is read of its parts.
use mathlib.Core.Path.{◌≡◌, sym, ◌∙◌}
use mathlib.Core.Logic.{inl, inr, ⊎_elim}
use mathlib.Core.List.{List}
use Prim.Native.Nat.{ℕ, ◌+◌, ◌*◌, ◌≤◌, ◌<◌, min}
use native.Mathlib.Omega.{arith}
use lib.ListN.{length, get_or, take, drop, length-drop}
use lib.Seq.{ext_get_or, get_or-take, get_or-drop, length-take-le}
use Rattle.views.specs.declared.list.Views.{Views}
use Rattle.views.specs.Limits.{max_members, max_open}
use Rattle.views.specs.Lists.{placed}
use Rattle.wire.specs.Reader.{view_in, views_in}
use Rattle.slots.proofs.Outside.{Changed, Apart, view-apart, views-apart}
use Rattle.book_bytes.specs.declared.Record.{Record}
use Rattle.book_bytes.specs.Places.{settled_at, carrier_at, client_at, registered_at, handed_at, told_at, reported_at, taken_at, infos_at, registrations_at, tolds_at, side_at, opens_at, book_size}
use Rattle.book_bytes.specs.Records.{flag_in, seat_in, record_in}
use Rattle.book_bytes.proofs.Parts.{opens_size}

-- the bytes at a place are a list, read one by one
pub bytes-are : (b l : List ℕ) (at n : ℕ) → at + n ≤ length b → length l ≡ n → ((j : ℕ) → j < n → get_or b (at + j) 0 ≡ get_or l j 0)
    → take n (drop at b) ≡ l
bytes-are b l at n h e s =
    let size : length (take n (drop at b)) ≡ n = length-take-le n (drop at b) (omega (arith, length-drop at b)) in
    ext_get_or 0 (take n (drop at b)) l (size ∙ sym e)
    (λ j k. get_or-take n (drop at b) j 0 (omega arith) ∙ get_or-drop at b j 0 ∙ s j (omega arith))

-- the open views and the told counts
abbrev pub opens_in : List ℕ → Views
opens_in b = placed (views_in b (opens_at + 1) (min (get_or b opens_at 0) max_open))

abbrev pub tolds_in : List ℕ → List ℕ
tolds_in b = take max_members (drop tolds_at b)

-- ---- a part that a change is apart from

module _ {b d : List ℕ} {at n : ℕ} (x : Changed b d at n) where
  pub byte-apart : (j : ℕ) → Apart at n j 1 → get_or d j 0 ≡ get_or b j 0
  byte-apart j a = ⊎_elim (λ (h : j + 1 ≤ at). x.below j (omega arith)) (λ (h : at + n ≤ j). x.past j h) a

  pub flag-apart : (j : ℕ) → Apart at n j 1 → flag_in d j ≡ flag_in b j
  flag-apart j a = rw (byte-apart j a)

  pub seat-apart : (from : ℕ) → Apart at n from 6 → seat_in d from ≡ seat_in b from
  seat-apart from a =
      let mark : Apart at n from 1 = ⊎_elim (λ (h : from + 6 ≤ at). inl (omega arith)) (λ (h : at + n ≤ from). inr h) a in
      let view : Apart at n (from + 1) 5 = ⊎_elim (λ (h : from + 6 ≤ at). inl (omega arith)) (λ (h : at + n ≤ from). inr (omega arith)) a in
      rw (byte-apart from mark, view-apart x (from + 1) view)

  pub opens-apart : Apart at n opens_at opens_size → opens_in d ≡ opens_in b
  opens-apart a =
      let k = min (get_or b opens_at 0) max_open in
      let count : Apart at n opens_at 1 = ⊎_elim (λ (h : opens_at + opens_size ≤ at). inl (omega arith)) (λ (h : at + n ≤ opens_at). inr h) a in
      let views : Apart at n (opens_at + 1) (5 * k) =
      ⊎_elim (λ (h : opens_at + opens_size ≤ at). inl (omega arith)) (λ (h : at + n ≤ opens_at). inr (omega arith)) a in
      rw (byte-apart opens_at count, views-apart x (opens_at + 1) k views)

  pub tolds-apart : book_size ≤ length b → Apart at n tolds_at max_members → tolds_in d ≡ tolds_in b
  tolds-apart size a =
      let one : (j : ℕ) → j < max_members → Apart at n (tolds_at + j) 1 =
      λ j l. ⊎_elim (λ (h : tolds_at + max_members ≤ at). inl (omega arith)) (λ (h : at + n ≤ tolds_at). inr (omega arith)) a in
      bytes-are d (tolds_in b) tolds_at max_members (omega (arith, x.long))
      (length-take-le max_members (drop tolds_at b) (omega (arith, length-drop tolds_at b)))
      (λ j l. byte-apart (tolds_at + j) (one j l) ∙ sym (get_or-take max_members (drop tolds_at b) j 0 l ∙ get_or-drop tolds_at b j 0))

-- ---- the record part by part

pub record-read : (d : List ℕ) (h : Record)
    → view_in d settled_at ≡ h.settled
    → opens_in d ≡ h.opens
    → seat_in d carrier_at ≡ h.carrier
    → seat_in d client_at ≡ h.client
    → flag_in d registered_at ≡ h.registered
    → get_or d handed_at 0 ≡ h.handed.0
    → get_or d told_at 0 ≡ h.told.0
    → get_or d reported_at 0 ≡ h.reported.0
    → get_or d taken_at 0 ≡ h.taken.0
    → get_or d infos_at 0 ≡ h.infos
    → get_or d registrations_at 0 ≡ h.registrations
    → tolds_in d ≡ h.tolds
    → get_or d side_at 0 ≡ h.side
    → record_in d ≡ h
unfolding record_in
record-read d h settled opens carrier client registered handed told reported taken infos registrations tolds side = λ i. record {
  settled = settled i;
  opens = opens i;
  carrier = carrier i;
  client = client i;
  registered = registered i;
  handed = record { 0 = handed i };
  told = record { 0 = told i };
  reported = record { 0 = reported i };
  taken = record { 0 = taken i };
  infos = infos i;
  registrations = registrations i;
  tolds = tolds i;
  side = side i;
}
