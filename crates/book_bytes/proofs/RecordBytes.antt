-- Bytes stay bytes where a record is stored, or a part of it.
use mathlib.Core.Bool.{Bool}
use mathlib.Core.List.{List}
use Rattle.std.specs.Prelude.{Option, Some, None}
use Prim.Native.Nat.{ℕ, ◌+◌, ◌<◌}
use native.Mathlib.Omega.{arith}
use lib.ListN.{set, drop}
use lib.Seq.{paste}
use Rattle.views.specs.declared.View.{View}
use Rattle.views.specs.declared.list.Views.{Views}
use Rattle.views.specs.Limits.{max_members}
use Rattle.views.specs.Lists.{list_of}
use Rattle.wire.proofs.TripViews.{ViewFits, AreBytes}
use Rattle.slots.proofs.BytesKept.{SetsAreBytes, take-bytes, drop-bytes, paste_bytes, set-bytes, store_view-bytes, store_views-bytes}
use Rattle.wire.specs.Writer.{store_view}
use Rattle.book_bytes.specs.declared.Record.{Record}
use Rattle.book_bytes.specs.declared.Held.{Held}
use Rattle.book_bytes.specs.Places.{settled_at, carrier_at, client_at, registered_at, handed_at, told_at, reported_at, taken_at, infos_at, registrations_at, tolds_at, side_at, opens_at}
use Rattle.book_bytes.specs.Records.{flag, record_in, store_seat, store_seats, store_counts, store_notes, store_opens, store_held, store_record}
use Rattle.book_bytes.proofs.Fits.{OpensFit, SeatFits, Fits, opens-list, opens-count}
use Rattle.book_bytes.proofs.Parts.{mark-small}

-- the told counts that bytes hold are bytes
pub tolds-bytes : (b : List ℕ) → AreBytes b → AreBytes (record_in b).tolds
unfolding record_in
tolds-bytes b y = take-bytes max_members (drop tolds_at b) (drop-bytes tolds_at b y)

mark-byte : (x : Bool) → flag x < 256
mark-byte x = omega (arith, mark-small x)

pub store_seat-bytes : (b : List ℕ) (at : ℕ) (s : Option View) → AreBytes b → SeatFits s → AreBytes (store_seat b at s)
store_seat-bytes b at (Some v) y f = store_view-bytes (set b at 1) (at + 1) v (set-bytes b at 1 y (omega arith)) f.set
store_seat-bytes b at None y f = set-bytes b at 0 y (omega arith)

module _ (b : List ℕ) (h : Record) (y : AreBytes b) (fits : Fits h) where
  store_seats-bytes : AreBytes (store_seats b h)
  unfolding store_seats
  store_seats-bytes =
      let b1 = store_view b settled_at h.settled in
      let b2 = store_seat b1 carrier_at h.carrier in
      store_seat-bytes b2 client_at h.client
      (store_seat-bytes b1 carrier_at h.carrier (store_view-bytes b settled_at h.settled y fits.settled.set) fits.carrier)
      fits.client

  store_counts-bytes : AreBytes (store_counts b h)
  unfolding store_counts
  store_counts-bytes =
      let b1 = set b registered_at (flag h.registered) in
      let b2 = set b1 handed_at h.handed.0 in
      let b3 = set b2 told_at h.told.0 in
      let b4 = set b3 reported_at h.reported.0 in
      let y1 : AreBytes b1 = set-bytes b registered_at (flag h.registered) y (mark-byte h.registered) in
      let y2 : AreBytes b2 = set-bytes b1 handed_at h.handed.0 y1 fits.handed in
      let y3 : AreBytes b3 = set-bytes b2 told_at h.told.0 y2 fits.told in
      let y4 : AreBytes b4 = set-bytes b3 reported_at h.reported.0 y3 fits.reported in
      set-bytes b4 taken_at h.taken.0 y4 fits.taken

  store_notes-bytes : h.side < 256 → AreBytes h.tolds → AreBytes (store_notes b h)
  unfolding store_notes
  store_notes-bytes side tolds =
      let b1 = set b infos_at h.infos in
      let b2 = set b1 registrations_at h.registrations in
      let y1 : AreBytes b1 = set-bytes b infos_at h.infos y fits.infos in
      let y2 : AreBytes b2 = set-bytes b1 registrations_at h.registrations y1 fits.registrations in
      set-bytes (paste b2 tolds_at h.tolds max_members) side_at h.side (paste_bytes b2 tolds_at h.tolds max_members y2 tolds) side

store_opens-bytes : (b : List ℕ) (v : Views) → AreBytes b → OpensFit v → AreBytes (store_opens b v)
unfolding store_opens
store_opens-bytes b v y fits =
    let sets : SetsAreBytes (list_of v) = λ (j : ℕ). rw (opens-list v fits) (fits.each j).set in
    store_views-bytes (set b opens_at v.count) (opens_at + 1) (list_of v)
    (set-bytes b opens_at v.count y (omega (arith, opens-count v fits, fits.few))) sets

-- the views held
pub held_bytes : (b : List ℕ) (h : Held) → AreBytes b → ViewFits h.settled → OpensFit h.opens → AreBytes (store_held b h)
unfolding store_held
held_bytes b h y settled opens =
    store_opens-bytes (store_view b settled_at h.settled) h.opens (store_view-bytes b settled_at h.settled y settled.set) opens

-- the told counts and the side are no part of what a record's fitting says
pub store_bytes : (b : List ℕ) (h : Record) → AreBytes b → Fits h → h.side < 256 → AreBytes h.tolds → AreBytes (store_record b h)
unfolding store_record
store_bytes b h y fits side tolds =
    let b1 = store_seats b h in
    let b2 = store_counts b1 h in
    let b3 = store_notes b2 h in
    store_opens-bytes b3 h.opens (store_notes-bytes b2 h (store_counts-bytes b1 h (store_seats-bytes b h y fits) fits) fits side tolds) fits.opens
