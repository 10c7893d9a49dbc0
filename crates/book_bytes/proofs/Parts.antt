-- The parts of a record in bytes: each is stored within its own places, reads back from there, and is kept by what is stored behind it.
use mathlib.Core.Path.{◌≡◌, refl, sym, ap, ◌∙◌}
use mathlib.Core.Bool.{Bool, true, false}
use mathlib.Core.Logic.{inl}
use mathlib.Core.List.{List}
use Rattle.std.specs.Prelude.{Option, Some, None}
use Prim.Native.Nat.{ℕ, ◌+◌, ◌-◌, ◌*◌, ◌≤◌, ◌<◌, min}
use native.Mathlib.Nat.{zero-add}
use native.Mathlib.Omega.{arith}
use lib.Dec.{eqb}
use lib.ListN.{length, get_or, set, length-set}
use lib.Seq.{paste, get_or-set_same}
use Rattle.views.specs.declared.View.{View}
use Rattle.views.specs.declared.list.Views.{Views}
use Rattle.views.specs.Limits.{max_members, max_open}
use Rattle.views.specs.Lists.{list_of, placed}
use Rattle.wire.specs.Reader.{view_in, views_in}
use Rattle.slots.proofs.Outside.{Changed, changed-within, changed_then, view-apart, set-changed, store_view-changed, store_views-changed, copy-changed, copy-same}
use Rattle.slots.proofs.Stored.{view-stored, views-stored}
use Rattle.wire.specs.Writer.{store_view}
use Rattle.book_bytes.specs.declared.Record.{Record}
use Rattle.book_bytes.specs.Places.{settled_at, carrier_at, client_at, registered_at, handed_at, told_at, reported_at, taken_at, infos_at, registrations_at, tolds_at, side_at, opens_at, outgoing_at, book_size}
use Rattle.book_bytes.specs.Records.{flag, seat_in, store_seat, store_seats, store_counts, store_notes, store_opens}
use Rattle.book_bytes.proofs.Fits.{OpensFit, SeatFits, Fits, opens-list, opens-count}

-- ---- how many bytes each part has

abbrev pub seats_size : ℕ
seats_size = registered_at - settled_at

abbrev pub counts_size : ℕ
counts_size = infos_at - registered_at

abbrev pub notes_size : ℕ
notes_size = opens_at - infos_at

abbrev pub opens_size : ℕ
opens_size = outgoing_at - opens_at

-- ---- what the bytes hold of a record

-- a view or none at a place, after a mark of 0 or 1
pub record Seated (b : List ℕ) (at : ℕ) (s : Option View) : Type 0 where
  pub mark : get_or b at 0 ≤ 1
  pub reads : seat_in b at ≡ s

pub record Seats (b : List ℕ) (h : Record) : Type 0 where
  pub settled : view_in b settled_at ≡ h.settled
  pub carrier : Seated b carrier_at h.carrier
  pub client : Seated b client_at h.client

pub record Counts (b : List ℕ) (h : Record) : Type 0 where
  pub registered : get_or b registered_at 0 ≡ flag h.registered
  pub handed : get_or b handed_at 0 ≡ h.handed.0
  pub told : get_or b told_at 0 ≡ h.told.0
  pub reported : get_or b reported_at 0 ≡ h.reported.0
  pub taken : get_or b taken_at 0 ≡ h.taken.0

pub record Notes (b : List ℕ) (h : Record) : Type 0 where
  pub infos : get_or b infos_at 0 ≡ h.infos
  pub registrations : get_or b registrations_at 0 ≡ h.registrations
  pub tolds : (j : ℕ) → j < max_members → get_or b (tolds_at + j) 0 ≡ get_or h.tolds j 0
  pub side : get_or b side_at 0 ≡ h.side

pub record Opens (b : List ℕ) (l : List View) : Type 0 where
  pub count : get_or b opens_at 0 ≡ length l
  pub views : views_in b (opens_at + 1) (length l) ≡ l

-- ---- a mark and a view

-- a mark reads back
pub mark-reads : (x : Bool) → eqb (flag x) 1 ≡ x
mark-reads true = refl
mark-reads false = refl

pub mark-small : (x : Bool) → flag x ≤ 1
mark-small true = omega arith
mark-small false = omega arith

pub store_seat-changed : (b : List ℕ) (at : ℕ) (s : Option View) → Changed b (store_seat b at s) at 6
store_seat-changed b at (Some v) =
    changed_then (changed-within at 6 (omega arith) (omega arith) (set-changed b at 1))
    (changed-within at 6 (omega arith) (omega arith) (store_view-changed (set b at 1) (at + 1) v))
store_seat-changed b at None = changed-within at 6 (omega arith) (omega arith) (set-changed b at 0)

pub seat-stored : (b : List ℕ) (at : ℕ) (s : Option View) → SeatFits s → at + 6 ≤ length b → Seated (store_seat b at s) at s
seat-stored b at (Some v) f h =
    let m : get_or (store_seat b at (Some v)) at 0 ≡ 1 =
    (store_view-changed (set b at 1) (at + 1) v).below at (omega arith) ∙ get_or-set_same b at 1 0 (omega arith) in
    record { mark = omega (arith, m); reads = rw (m, view-stored (set b at 1) (at + 1) v f.id (omega (arith, length-set b at 1))) }
seat-stored b at None f h =
    let m : get_or (set b at 0) at 0 ≡ 0 = get_or-set_same b at 0 0 (omega arith) in
    record { mark = omega (arith, m); reads = rw m }

-- ---- a change behind a part keeps it

module _ {b d : List ℕ} {at n : ℕ} (x : Changed b d at n) where
  pub seated-kept : (from : ℕ) (s : Option View) → from + 6 ≤ at → Seated b from s → Seated d from s
  seated-kept from s h p =
      let m : get_or d from 0 ≡ get_or b from 0 = x.below from (omega arith) in
      record { mark = rw m p.mark; reads = rw (m, view-apart x (from + 1) (inl (omega arith))) p.reads }

  module _ (h : Record) where
    pub seats-kept : registered_at ≤ at → Seats b h → Seats d h
    seats-kept l p = record {
      settled = view-apart x settled_at (inl (omega arith)) ∙ p.settled;
      carrier = seated-kept carrier_at h.carrier (omega arith) p.carrier;
      client = seated-kept client_at h.client (omega arith) p.client;
    }

    pub counts-kept : infos_at ≤ at → Counts b h → Counts d h
    counts-kept l p = record {
      registered = x.below registered_at (omega arith) ∙ p.registered;
      handed = x.below handed_at (omega arith) ∙ p.handed;
      told = x.below told_at (omega arith) ∙ p.told;
      reported = x.below reported_at (omega arith) ∙ p.reported;
      taken = x.below taken_at (omega arith) ∙ p.taken;
    }

    pub notes-kept : opens_at ≤ at → Notes b h → Notes d h
    notes-kept l p = record {
      infos = x.below infos_at (omega arith) ∙ p.infos;
      registrations = x.below registrations_at (omega arith) ∙ p.registrations;
      tolds = λ j k. x.below (tolds_at + j) (omega arith) ∙ p.tolds j k;
      side = x.below side_at (omega arith) ∙ p.side;
    }

-- ---- each part is stored

module _ (b : List ℕ) (h : Record) (size : book_size ≤ length b) (fits : Fits h) where
  abbrev settled : List ℕ
  settled = store_view b settled_at h.settled

  abbrev carried : List ℕ
  carried = store_seat settled carrier_at h.carrier

  first : Changed b settled settled_at 5
  first = store_view-changed b settled_at h.settled

  second : Changed settled carried carrier_at 6
  second = store_seat-changed settled carrier_at h.carrier

  third : Changed carried (store_seats b h) client_at 6
  unfolding store_seats
  third = store_seat-changed carried client_at h.client

  pub seats-changed : Changed b (store_seats b h) settled_at seats_size
  seats-changed =
      changed_then (changed-within settled_at seats_size (omega arith) (omega arith) first)
      (changed_then (changed-within settled_at seats_size (omega arith) (omega arith) second)
      (changed-within settled_at seats_size (omega arith) (omega arith) third))

  client-seated : Seated (store_seats b h) client_at h.client
  unfolding store_seats
  client-seated = seat-stored carried client_at h.client fits.client (omega (arith, first.long, second.long))

  pub seats-stored : Seats (store_seats b h) h
  seats-stored = record {
    settled = view-apart third settled_at (inl (omega arith)) ∙ view-apart second settled_at (inl (omega arith)) ∙ view-stored b settled_at h.settled fits.settled.id (omega arith);
    carrier = seated-kept third carrier_at h.carrier (omega arith) (seat-stored settled carrier_at h.carrier fits.carrier (omega (arith, first.long)));
    client = client-seated;
  }

  -- ---- counts

  pub counts-changed : Changed b (store_counts b h) registered_at counts_size
  unfolding store_counts
  counts-changed =
      let b1 = set b registered_at (flag h.registered) in
      let b2 = set b1 handed_at h.handed.0 in
      let b3 = set b2 told_at h.told.0 in
      let b4 = set b3 reported_at h.reported.0 in
      changed_then (changed-within registered_at counts_size (omega arith) (omega arith) (set-changed b registered_at (flag h.registered)))
      (changed_then (changed-within registered_at counts_size (omega arith) (omega arith) (set-changed b1 handed_at h.handed.0))
      (changed_then (changed-within registered_at counts_size (omega arith) (omega arith) (set-changed b2 told_at h.told.0))
      (changed_then (changed-within registered_at counts_size (omega arith) (omega arith) (set-changed b3 reported_at h.reported.0))
      (changed-within registered_at counts_size (omega arith) (omega arith) (set-changed b4 taken_at h.taken.0)))))

  pub counts-stored : Counts (store_counts b h) h
  unfolding store_counts
  counts-stored =
      let b1 = set b registered_at (flag h.registered) in
      let b2 = set b1 handed_at h.handed.0 in
      let b3 = set b2 told_at h.told.0 in
      let b4 = set b3 reported_at h.reported.0 in
      let c1 = set-changed b registered_at (flag h.registered) in
      let c2 = set-changed b1 handed_at h.handed.0 in
      let c3 = set-changed b2 told_at h.told.0 in
      let c4 = set-changed b3 reported_at h.reported.0 in
      let c5 = set-changed b4 taken_at h.taken.0 in
      let n1 : length b1 ≡ length b = c1.long in
      let n2 : length b2 ≡ length b = c2.long ∙ n1 in
      let n3 : length b3 ≡ length b = c3.long ∙ n2 in
      let n4 : length b4 ≡ length b = c4.long ∙ n3 in
      record {
        registered =
            c5.below registered_at (omega arith) ∙ c4.below registered_at (omega arith) ∙ c3.below registered_at (omega arith)
            ∙ c2.below registered_at (omega arith) ∙ get_or-set_same b registered_at (flag h.registered) 0 (omega arith);
        handed =
            c5.below handed_at (omega arith) ∙ c4.below handed_at (omega arith) ∙ c3.below handed_at (omega arith)
            ∙ get_or-set_same b1 handed_at h.handed.0 0 (omega arith);
        told = c5.below told_at (omega arith) ∙ c4.below told_at (omega arith) ∙ get_or-set_same b2 told_at h.told.0 0 (omega arith);
        reported = c5.below reported_at (omega arith) ∙ get_or-set_same b3 reported_at h.reported.0 0 (omega arith);
        taken = get_or-set_same b4 taken_at h.taken.0 0 (omega arith);
      }

  -- ---- notes

  abbrev heard : List ℕ
  heard = set b infos_at h.infos

  abbrev noted : List ℕ
  noted = set heard registrations_at h.registrations

  abbrev counted : List ℕ
  counted = paste noted tolds_at h.tolds max_members

  hears : Changed b heard infos_at 1
  hears = set-changed b infos_at h.infos

  notes : Changed heard noted registrations_at 1
  notes = set-changed heard registrations_at h.registrations

  counts : Changed noted counted tolds_at max_members
  counts = copy-changed noted h.tolds 0 tolds_at max_members (omega (arith, fits.tolds)) (omega (arith, hears.long, notes.long))

  sides : Changed counted (store_notes b h) side_at 1
  unfolding store_notes
  sides = set-changed counted side_at h.side

  pub notes-changed : Changed b (store_notes b h) infos_at notes_size
  notes-changed =
      changed_then (changed-within infos_at notes_size (omega arith) (omega arith) hears)
      (changed_then (changed-within infos_at notes_size (omega arith) (omega arith) notes)
      (changed_then (changed-within infos_at notes_size (omega arith) (omega arith) counts) (changed-within infos_at notes_size (omega arith) (omega arith) sides)))

  told-stored : (j : ℕ) → j < max_members → get_or counted (tolds_at + j) 0 ≡ get_or h.tolds j 0
  told-stored j l =
      rw (zero-add j) at (copy-same noted h.tolds 0 tolds_at max_members (omega (arith, fits.tolds)) (omega (arith, hears.long, notes.long)) j l)

  side_set : get_or (store_notes b h) side_at 0 ≡ h.side
  unfolding store_notes
  side_set = get_or-set_same counted side_at h.side 0 (omega (arith, hears.long, notes.long, counts.long))

  pub notes-stored : Notes (store_notes b h) h
  notes-stored = record {
    infos =
        sides.below infos_at (omega arith) ∙ counts.below infos_at (omega arith) ∙ notes.below infos_at (omega arith)
        ∙ get_or-set_same b infos_at h.infos 0 (omega arith);
    registrations =
        sides.below registrations_at (omega arith) ∙ counts.below registrations_at (omega arith)
        ∙ get_or-set_same heard registrations_at h.registrations 0 (omega (arith, hears.long));
    tolds = λ j l. sides.below (tolds_at + j) (omega arith) ∙ told-stored j l;
    side = side_set;
  }

-- ---- open views

module _ (b : List ℕ) (v : Views) (size : book_size ≤ length b) (fits : OpensFit v) where
  abbrev started : List ℕ
  started = set b opens_at v.count

  starts : Changed b started opens_at 1
  starts = set-changed b opens_at v.count

  list_length : length (list_of v) ≡ v.count
  list_length = ap length (opens-list v fits) ∙ sym (opens-count v fits)

  few : length (list_of v) ≤ max_open
  few = omega (arith, list_length, opens-count v fits, fits.few)

  fills : Changed started (store_opens b v) (opens_at + 1) (5 * length (list_of v))
  unfolding store_opens
  fills = store_views-changed started (opens_at + 1) (list_of v) (omega (arith, starts.long, few))

  pub opens-changed : Changed b (store_opens b v) opens_at opens_size
  opens-changed =
      changed_then (changed-within opens_at opens_size (omega arith) (omega arith) starts)
      (changed-within opens_at opens_size (omega arith) (omega (arith, few)) fills)

  views-back : views_in (store_opens b v) (opens_at + 1) (length (list_of v)) ≡ list_of v
  unfolding store_opens
  views-back =
      views-stored started (opens_at + 1) (list_of v)
      (λ (j : ℕ). rw (opens-list v fits) (fits.each j).id)
      (omega (arith, starts.long, few))

  pub opens-stored : Opens (store_opens b v) (list_of v)
  opens-stored = record {
    count = fills.below opens_at (omega arith) ∙ get_or-set_same b opens_at v.count 0 (omega arith) ∙ sym list_length;
    views = views-back;
  }

-- open views in the bytes, read back in their places
pub opens-read : (d : List ℕ) (v : Views) → OpensFit v → Opens d (list_of v)
    → placed (views_in d (opens_at + 1) (min (get_or d opens_at 0) max_open)) ≡ v
opens-read d v fits o =
    let few : length (list_of v) ≤ max_open = rw (opens-list v fits) fits.few in
    let n : min (length (list_of v)) max_open ≡ length (list_of v) = omega (arith, few) in
    ap (λ (k : ℕ). placed (views_in d (opens_at + 1) k)) (ap (λ (k : ℕ). min k max_open) o.count ∙ n)
    ∙ ap placed (o.views ∙ opens-list v fits) ∙ sym fits.places
