-- What one byte of the record changes, and what a view of it or the views held change: the record reads as before but for that. With `Within` this is
-- the book then, and the layout.
use mathlib.Core.Path.{◌≡◌, sym, ◌∙◌}
use mathlib.Core.Bool.{Bool}
use mathlib.Core.Logic.{inl, inr}
use mathlib.Core.List.{List}
use Rattle.std.specs.Prelude.{Option}
use Prim.Native.Nat.{ℕ, ◌+◌, ◌-◌, ◌≤◌, ◌<◌}
use native.Mathlib.Decide.{ℕ_discrete}
use native.Mathlib.Omega.{arith}
use lib.Dec.{eqb}
use lib.ListN.{length, get_or, set, drop, length-set, length-drop}
use lib.Seq.{get_or-set_same, get_or-set_other, get_or-take, get_or-drop, length-take-le}
use Rattle.views.specs.declared.View.{View}
use Rattle.views.specs.declared.list.Views.{Views}
use Rattle.views.specs.Limits.{max_members}
use Rattle.views.specs.Lists.{list_of}
use Rattle.wire.specs.Reader.{view_in}
use Rattle.wire.specs.Writer.{store_view}
use Rattle.wire.proofs.TripViews.{ViewFits}
use Rattle.slots.proofs.Outside.{Changed, changed-within, changed_then, view-apart, set-changed, store_view-changed}
use Rattle.slots.proofs.Stored.{view-stored}
use Rattle.book_bytes.specs.declared.Record.{Record}
use Rattle.book_bytes.specs.declared.Held.{Held}
use Rattle.book_bytes.specs.Places.{settled_at, carrier_at, client_at, registered_at, handed_at, told_at, reported_at, taken_at, infos_at, registrations_at, tolds_at, side_at, opens_at, outgoing_at, book_size}
use Rattle.book_bytes.specs.Records.{flag_in, seat_in, record_in, store_seat, store_opens, store_held}
use Rattle.book_bytes.proofs.LayoutLaws.{Layout}
use Rattle.book_bytes.proofs.Fits.{OpensFit, SeatFits, opens-list}
use Rattle.book_bytes.proofs.Parts.{opens_size, store_seat-changed, seat-stored, opens-changed, opens-stored, opens-read}
use Rattle.book_bytes.proofs.RecordReads.{bytes-are, opens_in, tolds_in, flag-apart, seat-apart, opens-apart, tolds-apart, record-read}
use Rattle.book_bytes.proofs.Within.{record_size, within-layout}

-- ---- a record with a part changed

-- the views held
abbrev pub holding : Record → View → Views → Record
holding h v l = record {
  settled = v;
  opens = l;
  carrier = h.carrier;
  client = h.client;
  registered = h.registered;
  handed = h.handed;
  told = h.told;
  reported = h.reported;
  taken = h.taken;
  infos = h.infos;
  registrations = h.registrations;
  tolds = h.tolds;
  side = h.side;
}

abbrev pub carried : Record → Option View → Record
carried h s = record {
  settled = h.settled;
  opens = h.opens;
  carrier = s;
  client = h.client;
  registered = h.registered;
  handed = h.handed;
  told = h.told;
  reported = h.reported;
  taken = h.taken;
  infos = h.infos;
  registrations = h.registrations;
  tolds = h.tolds;
  side = h.side;
}

-- the mark of registered, the counts and the notes
abbrev pub counting : Record → Bool → ℕ → ℕ → ℕ → ℕ → ℕ → ℕ → List ℕ → Record
counting h g handed told reported taken infos registrations tolds = record {
  settled = h.settled;
  opens = h.opens;
  carrier = h.carrier;
  client = h.client;
  registered = g;
  handed = record { 0 = handed };
  told = record { 0 = told };
  reported = record { 0 = reported };
  taken = record { 0 = taken };
  infos = infos;
  registrations = registrations;
  tolds = tolds;
  side = h.side;
}

-- ---- a change of one part: the others read as before

abbrev pub counting_size : ℕ
counting_size = side_at - registered_at

module _ {b d : List ℕ} (size : book_size ≤ length b) where
  pub settled-read : (v : View) → Changed b d settled_at 5 → view_in d settled_at ≡ v → record_in d ≡ holding (record_in b) v (record_in b).opens
  unfolding record_in
  settled-read v x e =
      record-read d (holding (record_in b) v (record_in b).opens) e (opens-apart x (inr (omega arith))) (seat-apart x carrier_at (inr (omega arith)))
      (seat-apart x client_at (inr (omega arith))) (flag-apart x registered_at (inr (omega arith))) (x.past handed_at (omega arith))
      (x.past told_at (omega arith)) (x.past reported_at (omega arith)) (x.past taken_at (omega arith)) (x.past infos_at (omega arith))
      (x.past registrations_at (omega arith)) (tolds-apart x size (inr (omega arith))) (x.past side_at (omega arith))

  pub open-views-read : (l : Views) → Changed b d opens_at opens_size → opens_in d ≡ l → record_in d ≡ holding (record_in b) (record_in b).settled l
  unfolding record_in
  open-views-read l x e =
      record-read d (holding (record_in b) (record_in b).settled l) (view-apart x settled_at (inl (omega arith))) e (seat-apart x carrier_at (inl (omega arith)))
      (seat-apart x client_at (inl (omega arith))) (flag-apart x registered_at (inl (omega arith))) (x.below handed_at (omega arith))
      (x.below told_at (omega arith)) (x.below reported_at (omega arith)) (x.below taken_at (omega arith)) (x.below infos_at (omega arith))
      (x.below registrations_at (omega arith)) (tolds-apart x size (inl (omega arith))) (x.below side_at (omega arith))

  pub carrier-read : (s : Option View) → Changed b d carrier_at 6 → seat_in d carrier_at ≡ s → record_in d ≡ carried (record_in b) s
  unfolding record_in
  carrier-read s x e =
      record-read d (carried (record_in b) s) (view-apart x settled_at (inl (omega arith))) (opens-apart x (inr (omega arith))) e
      (seat-apart x client_at (inr (omega arith))) (flag-apart x registered_at (inr (omega arith))) (x.past handed_at (omega arith))
      (x.past told_at (omega arith)) (x.past reported_at (omega arith)) (x.past taken_at (omega arith)) (x.past infos_at (omega arith))
      (x.past registrations_at (omega arith)) (tolds-apart x size (inr (omega arith))) (x.past side_at (omega arith))

  pub counting-read : (g : Bool) (handed told reported taken infos registrations : ℕ) (tolds : List ℕ) → Changed b d registered_at counting_size
      → flag_in d registered_at ≡ g → get_or d handed_at 0 ≡ handed → get_or d told_at 0 ≡ told → get_or d reported_at 0 ≡ reported → get_or d taken_at 0 ≡ taken
      → get_or d infos_at 0 ≡ infos → get_or d registrations_at 0 ≡ registrations → tolds_in d ≡ tolds
      → record_in d ≡ counting (record_in b) g handed told reported taken infos registrations tolds
  unfolding record_in
  counting-read g handed told reported taken infos registrations tolds x e1 e2 e3 e4 e5 e6 e7 e8 =
      record-read d (counting (record_in b) g handed told reported taken infos registrations tolds) (view-apart x settled_at (inl (omega arith)))
      (opens-apart x (inr (omega arith))) (seat-apart x carrier_at (inl (omega arith))) (seat-apart x client_at (inl (omega arith)))
      e1 e2 e3 e4 e5 e6 e7 e8 (x.past side_at (omega arith))

-- ---- one byte of the record set

module _ (b : List ℕ) (i x : ℕ) where
  pub byte-within : settled_at ≤ i → i < outgoing_at → Changed b (set b i x) settled_at record_size
  byte-within l h = changed-within settled_at record_size l (omega arith) (set-changed b i x)

  -- a count or a note may be any byte
  pub byte-layout : handed_at ≤ i → i < side_at → Layout b → Layout (set b i x)
  byte-layout l h y =
      let c = set-changed b i x in
      within-layout (byte-within (omega arith) (omega arith)) y (rw (c.below carrier_at (omega arith)) y.carrier) (rw (c.below client_at (omega arith)) y.client)
      (rw (c.below registered_at (omega arith)) y.registered) (rw (c.past side_at (omega arith)) y.side) (rw (c.past opens_at (omega arith)) y.opens)

  -- within the counts and notes
  byte-counting : registered_at ≤ i → i < side_at → Changed b (set b i x) registered_at counting_size
  byte-counting l h = changed-within registered_at counting_size l (omega arith) (set-changed b i x)

-- a told count
told_in : (b : List ℕ) (q x : ℕ) → book_size ≤ length b → q < max_members → tolds_in (set b (tolds_at + q) x) ≡ set (tolds_in b) q x
told_in b q x size l =
    let long : length (tolds_in b) ≡ max_members = length-take-le max_members (drop tolds_at b) (omega (arith, length-drop tolds_at b)) in
    let was : (j : ℕ) → j < max_members → get_or (tolds_in b) j 0 ≡ get_or b (tolds_at + j) 0 =
    λ j k. get_or-take max_members (drop tolds_at b) j 0 k ∙ get_or-drop tolds_at b j 0 in
    bytes-are (set b (tolds_at + q) x) (set (tolds_in b) q x) tolds_at max_members (omega (arith, length-set b (tolds_at + q) x))
    (length-set (tolds_in b) q x ∙ long)
    (λ j k. elim (ℕ_discrete j q) [
      | yes e ↦ rw e (get_or-set_same b (tolds_at + q) x 0 (omega arith) ∙ sym (get_or-set_same (tolds_in b) q x 0 (omega (arith, long))))
      | no e ↦ get_or-set_other b (tolds_at + q) (tolds_at + j) x 0 (λ f. e (omega arith)) ∙ sym (get_or-set_other (tolds_in b) q j x 0 e ∙ was j k)
    ])

-- a mark is 0 or 1
pub registered-layout : (b : List ℕ) (x : ℕ) → x ≤ 1 → Layout b → Layout (set b registered_at x)
registered-layout b x h y =
    let c = set-changed b registered_at x in
    let e : get_or (set b registered_at x) registered_at 0 ≡ x = get_or-set_same b registered_at x 0 (omega (arith, y.size)) in
    within-layout (byte-within b registered_at x (omega arith) (omega arith)) y (rw (c.below carrier_at (omega arith)) y.carrier) (rw (c.below client_at (omega arith)) y.client)
    (rw e h) (rw (c.past side_at (omega arith)) y.side) (rw (c.past opens_at (omega arith)) y.opens)

module _ (b : List ℕ) (x : ℕ) (size : book_size ≤ length b) where
  abbrev r : Record
  r = record_in b

  here : (i : ℕ) → i < outgoing_at → get_or (set b i x) i 0 ≡ x
  here i l = get_or-set_same b i x 0 (omega arith)

  pub registered-set : record_in (set b registered_at x) ≡ counting r (eqb x 1) r.handed.0 r.told.0 r.reported.0 r.taken.0 r.infos r.registrations r.tolds
  unfolding record_in
  registered-set =
      let c = set-changed b registered_at x in
      counting-read size _ _ _ _ _ _ _ _ (byte-counting b registered_at x (omega arith) (omega arith))
      (rw (here registered_at (omega arith))) (c.past handed_at (omega arith)) (c.past told_at (omega arith)) (c.past reported_at (omega arith))
      (c.past taken_at (omega arith)) (c.past infos_at (omega arith)) (c.past registrations_at (omega arith))
      (tolds-apart c size (inr (omega arith)))

  pub handed-set : record_in (set b handed_at x) ≡ counting r r.registered x r.told.0 r.reported.0 r.taken.0 r.infos r.registrations r.tolds
  unfolding record_in
  handed-set =
      let c = set-changed b handed_at x in
      counting-read size _ _ _ _ _ _ _ _ (byte-counting b handed_at x (omega arith) (omega arith))
      (flag-apart c registered_at (inl (omega arith))) (here handed_at (omega arith)) (c.past told_at (omega arith))
      (c.past reported_at (omega arith)) (c.past taken_at (omega arith)) (c.past infos_at (omega arith)) (c.past registrations_at (omega arith))
      (tolds-apart c size (inr (omega arith)))

  pub told-set : record_in (set b told_at x) ≡ counting r r.registered r.handed.0 x r.reported.0 r.taken.0 r.infos r.registrations r.tolds
  unfolding record_in
  told-set =
      let c = set-changed b told_at x in
      counting-read size _ _ _ _ _ _ _ _ (byte-counting b told_at x (omega arith) (omega arith))
      (flag-apart c registered_at (inl (omega arith))) (c.below handed_at (omega arith)) (here told_at (omega arith))
      (c.past reported_at (omega arith)) (c.past taken_at (omega arith)) (c.past infos_at (omega arith)) (c.past registrations_at (omega arith))
      (tolds-apart c size (inr (omega arith)))

  pub reported-set : record_in (set b reported_at x) ≡ counting r r.registered r.handed.0 r.told.0 x r.taken.0 r.infos r.registrations r.tolds
  unfolding record_in
  reported-set =
      let c = set-changed b reported_at x in
      counting-read size _ _ _ _ _ _ _ _ (byte-counting b reported_at x (omega arith) (omega arith))
      (flag-apart c registered_at (inl (omega arith))) (c.below handed_at (omega arith)) (c.below told_at (omega arith))
      (here reported_at (omega arith)) (c.past taken_at (omega arith)) (c.past infos_at (omega arith)) (c.past registrations_at (omega arith))
      (tolds-apart c size (inr (omega arith)))

  pub taken-set : record_in (set b taken_at x) ≡ counting r r.registered r.handed.0 r.told.0 r.reported.0 x r.infos r.registrations r.tolds
  unfolding record_in
  taken-set =
      let c = set-changed b taken_at x in
      counting-read size _ _ _ _ _ _ _ _ (byte-counting b taken_at x (omega arith) (omega arith))
      (flag-apart c registered_at (inl (omega arith))) (c.below handed_at (omega arith)) (c.below told_at (omega arith))
      (c.below reported_at (omega arith)) (here taken_at (omega arith)) (c.past infos_at (omega arith)) (c.past registrations_at (omega arith))
      (tolds-apart c size (inr (omega arith)))

  pub infos-set : record_in (set b infos_at x) ≡ counting r r.registered r.handed.0 r.told.0 r.reported.0 r.taken.0 x r.registrations r.tolds
  unfolding record_in
  infos-set =
      let c = set-changed b infos_at x in
      counting-read size _ _ _ _ _ _ _ _ (byte-counting b infos_at x (omega arith) (omega arith))
      (flag-apart c registered_at (inl (omega arith))) (c.below handed_at (omega arith)) (c.below told_at (omega arith))
      (c.below reported_at (omega arith)) (c.below taken_at (omega arith)) (here infos_at (omega arith)) (c.past registrations_at (omega arith))
      (tolds-apart c size (inr (omega arith)))

  pub registrations-set : record_in (set b registrations_at x) ≡ counting r r.registered r.handed.0 r.told.0 r.reported.0 r.taken.0 r.infos x r.tolds
  unfolding record_in
  registrations-set =
      let c = set-changed b registrations_at x in
      counting-read size _ _ _ _ _ _ _ _ (byte-counting b registrations_at x (omega arith) (omega arith))
      (flag-apart c registered_at (inl (omega arith))) (c.below handed_at (omega arith)) (c.below told_at (omega arith))
      (c.below reported_at (omega arith)) (c.below taken_at (omega arith)) (c.below infos_at (omega arith)) (here registrations_at (omega arith))
      (tolds-apart c size (inr (omega arith)))

  pub tolds-set : (q : ℕ) → q < max_members → record_in (set b (tolds_at + q) x)
      ≡ counting r r.registered r.handed.0 r.told.0 r.reported.0 r.taken.0 r.infos r.registrations (set r.tolds q x)
  unfolding record_in
  tolds-set q l =
      let c = set-changed b (tolds_at + q) x in
      counting-read size _ _ _ _ _ _ _ _ (byte-counting b (tolds_at + q) x (omega arith) (omega arith)) (flag-apart c registered_at (inl (omega arith)))
      (c.below handed_at (omega arith)) (c.below told_at (omega arith)) (c.below reported_at (omega arith)) (c.below taken_at (omega arith))
      (c.below infos_at (omega arith)) (c.below registrations_at (omega arith)) (told_in b q x size l)

-- ---- a view of the record, and the views held

module _ (b : List ℕ) (size : book_size ≤ length b) where
  pub settled-set : (v : View) → ViewFits v → record_in (store_view b settled_at v) ≡ holding (record_in b) v (record_in b).opens
  settled-set v f = settled-read size v (store_view-changed b settled_at v) (view-stored b settled_at v f.id (omega arith))

  pub opens-set : (l : Views) → OpensFit l → record_in (store_opens b l) ≡ holding (record_in b) (record_in b).settled l
  opens-set l f = open-views-read size l (opens-changed b l size f) (opens-read (store_opens b l) l f (opens-stored b l size f))

  pub carrier-set : (s : Option View) → SeatFits s → record_in (store_seat b carrier_at s) ≡ carried (record_in b) s
  carrier-set s f =
      carrier-read size s (store_seat-changed b carrier_at s) (seat-stored b carrier_at s f (omega arith)).reads

-- the settled view, then the open views
module _ (b : List ℕ) (size : book_size ≤ length b) (h : Held) (settled : ViewFits h.settled) (opens : OpensFit h.opens) where
  abbrev between : List ℕ
  between = store_view b settled_at h.settled

  first : Changed b between settled_at 5
  first = store_view-changed b settled_at h.settled

  room : book_size ≤ length between
  room = omega (arith, first.long)

  second : Changed between (store_held b h) opens_at opens_size
  unfolding store_held
  second = opens-changed between h.opens room opens

  pub held-within : Changed b (store_held b h) settled_at record_size
  held-within =
      changed_then (changed-within settled_at record_size (omega arith) (omega arith) first)
      (changed-within settled_at record_size (omega arith) (omega arith) second)

  pub held-set : record_in (store_held b h) ≡ holding (record_in b) h.settled h.opens
  unfolding store_held
  held-set =
      let e = settled-set b size h.settled settled in opens-set between room h.opens opens ∙ (λ i. holding (e i) (e i).settled h.opens)

  held-count : get_or (store_held b h) opens_at 0 ≡ length (list_of h.opens)
  unfolding store_held
  held-count = (opens-stored between h.opens room opens).count

  -- a byte between the settled view and the open views
  held-byte : (j : ℕ) → carrier_at ≤ j → j < opens_at → get_or (store_held b h) j 0 ≡ get_or b j 0
  held-byte j l k = second.below j k ∙ first.past j (omega arith)

  pub held-layout : Layout b → Layout (store_held b h)
  held-layout l =
      within-layout held-within l (rw (held-byte carrier_at (omega arith) (omega arith)) l.carrier) (rw (held-byte client_at (omega arith) (omega arith)) l.client)
      (rw (held-byte registered_at (omega arith) (omega arith)) l.registered) (rw (held-byte side_at (omega arith) (omega arith)) l.side)
      (rw (held-count, opens-list h.opens opens) opens.few)

pub settled-within : (b : List ℕ) (v : View) → Changed b (store_view b settled_at v) settled_at record_size
settled-within b v = changed-within settled_at record_size (omega arith) (omega arith) (store_view-changed b settled_at v)

pub carrier-within : (b : List ℕ) (s : Option View) → Changed b (store_seat b carrier_at s) settled_at record_size
carrier-within b s = changed-within settled_at record_size (omega arith) (omega arith) (store_seat-changed b carrier_at s)

pub carrier-layout : (b : List ℕ) (s : Option View) → SeatFits s → Layout b → Layout (store_seat b carrier_at s)
carrier-layout b s f l =
    let c = store_seat-changed b carrier_at s in
    within-layout (carrier-within b s) l (seat-stored b carrier_at s f (omega (arith, l.size))).mark (rw (c.past client_at (omega arith)) l.client)
    (rw (c.past registered_at (omega arith)) l.registered) (rw (c.past side_at (omega arith)) l.side) (rw (c.past opens_at (omega arith)) l.opens)
