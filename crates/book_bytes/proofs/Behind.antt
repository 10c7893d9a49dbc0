-- A change behind the record, in a queue, leaves the record, the members and the marks as they were; a change in one queue leaves the others.
use mathlib.Core.Path.{◌≡◌, ◌∙◌}
use mathlib.Core.Bool.{true}
use mathlib.Core.Logic.{inl, inr}
use mathlib.Core.List.{List}
use Prim.Native.Nat.{ℕ, zero, suc, ◌+◌, ◌-◌, ◌≤◌, ◌<◌}
use native.Mathlib.Decide.{dec_lt, ℕ_discrete}
use native.Mathlib.Omega.{arith}
use lib.ListN.{get_or}
use Rattle.views.specs.Limits.{max_outgoing, max_ordered}
use Rattle.rules.specs.Data.{Entry, Item}
use Rattle.rules.specs.Member.{outgoes}
use Rattle.slots.specs.Slots.{slots_fit}
use Rattle.slots.specs.Columns.{inward_size}
use Rattle.slots.proofs.Same.{byte-same}
use Rattle.slots.proofs.Outside.{Changed, Apart, apart-same, view-apart, entries-apart, slots_apart}
use Rattle.slots.proofs.Items.{items_kept, items-past}
use Rattle.book_bytes.specs.Places.{members_at, self_at, settled_at, carrier_at, client_at, registered_at, handed_at, told_at, reported_at, taken_at, infos_at, registrations_at, side_at, opens_at, outgoing_at, inward_at}
use Rattle.book_bytes.specs.Records.{record_in, meaning}
use Rattle.book_bytes.specs.Books.{outgoing_in, inward_in, book_in}
use Rattle.book_bytes.proofs.LayoutLaws.{Layout}
use Rattle.book_bytes.proofs.RecordReads.{flag-apart, seat-apart, opens-apart, tolds-apart, record-read}

-- a count and 16 slots
abbrev pub outgoing_size : ℕ
outgoing_size = inward_at 0 - outgoing_at

-- ---- a change behind the record

module _ {b d : List ℕ} {at n : ℕ} (x : Changed b d at n) (behind : outgoing_at ≤ at) (l : Layout b) where
  before : (j : ℕ) → j < outgoing_at → get_or d j 0 ≡ get_or b j 0
  before j h = x.below j (omega arith)

  pub behind-members : get_or d members_at 0 ≡ get_or b members_at 0
  behind-members = before members_at (omega arith)

  pub behind-self : get_or d self_at 0 ≡ get_or b self_at 0
  behind-self = before self_at (omega arith)

  pub behind-side : get_or d side_at 0 ≡ get_or b side_at 0
  behind-side = before side_at (omega arith)

  pub behind-record : record_in d ≡ record_in b
  unfolding record_in
  behind-record =
      record-read d (record_in b) (view-apart x settled_at (inl (omega arith))) (opens-apart x (inl (omega arith)))
      (seat-apart x carrier_at (inl (omega arith))) (seat-apart x client_at (inl (omega arith))) (flag-apart x registered_at (inl (omega arith)))
      (before handed_at (omega arith)) (before told_at (omega arith)) (before reported_at (omega arith)) (before taken_at (omega arith))
      (before infos_at (omega arith)) (before registrations_at (omega arith)) (tolds-apart x (omega (arith, l.size)) (inl (omega arith))) behind-side

  -- what the queues then are decides the book, and their counts and slots decide whether the layout fits
  pub behind-book : (out : List Entry) (own new : List (Item ℕ))
      → outgoing_in d ≡ out → inward_in d (get_or b side_at 0) ≡ own → inward_in d (1 - get_or b side_at 0) ≡ new
      → book_in d ≡ meaning (record_in b) out own new
  unfolding book_in
  behind-book out own new p q r = rw (behind-side, behind-record, p, q, r)

  pub behind-layout : get_or d outgoing_at 0 ≤ max_outgoing → get_or d (inward_at 0) 0 ≤ max_ordered → get_or d (inward_at 1) 0 ≤ max_ordered
      → slots_fit d (outgoing_at + 1) (get_or d outgoing_at 0) ≡ true → Layout d
  behind-layout p q r s = record {
    size = x.long ∙ l.size;
    carrier = rw (before carrier_at (omega arith)) l.carrier;
    client = rw (before client_at (omega arith)) l.client;
    registered = rw (before registered_at (omega arith)) l.registered;
    side = rw behind-side l.side;
    opens = rw (before opens_at (omega arith)) l.opens;
    outgoing = p;
    first = q;
    second = r;
    slots = s;
  }

-- ---- a change of the outgoing queue

module _ {b d : List ℕ} (x : Changed b d outgoing_at outgoing_size) (l : Layout b) where
  inward-count : (k : ℕ) → get_or d (inward_at k) 0 ≡ get_or b (inward_at k) 0
  inward-count k = x.past (inward_at k) (omega arith)

  inward-past : (k : ℕ) → inward_in d k ≡ inward_in b k
  inward-past k = items-past x (inward_at k) (omega arith)

  pub outgoing-book : (out : List Entry) → outgoing_in d ≡ out → book_in d ≡ outgoes out (book_in b)
  unfolding book_in
  outgoing-book out e =
      behind-book x (omega arith) l out (inward_in b (get_or b side_at 0)) (inward_in b (1 - get_or b side_at 0)) e
      (inward-past (get_or b side_at 0)) (inward-past (1 - get_or b side_at 0))

  pub outgoing-layout : get_or d outgoing_at 0 ≤ max_outgoing → slots_fit d (outgoing_at + 1) (get_or d outgoing_at 0) ≡ true → Layout d
  outgoing-layout h s = behind-layout x (omega arith) l h (rw (inward-count 0) l.first) (rw (inward-count 1) l.second) s

-- ---- a change of an inward list: k is the side that changes, j the other

pub inward-few : (b : List ℕ) (k : ℕ) → k ≤ 1 → Layout b → get_or b (inward_at k) 0 ≤ max_ordered
inward-few b zero h l = l.first
inward-few b (suc zero) h l = l.second
inward-few b (suc (suc k)) h l = absurd (omega arith)

-- a side is one of the two
each-few : (d : List ℕ) (k j i : ℕ) → k + j ≡ 1 → i ≤ 1 → get_or d (inward_at k) 0 ≤ max_ordered → get_or d (inward_at j) 0 ≤ max_ordered → get_or d (inward_at i) 0 ≤ max_ordered
each-few d k j i e h p q = elim (ℕ_discrete i k) [ yes f ↦ rw f p | no f ↦ let g : i ≡ j = omega arith in rw g q ]

module _ {b d : List ℕ} (k j : ℕ) (sides : k + j ≡ 1) (x : Changed b d (inward_at k) inward_size) (l : Layout b) where
  outgoing-count : get_or d outgoing_at 0 ≡ get_or b outgoing_at 0
  outgoing-count = x.below outgoing_at (omega arith)

  outgoing-ahead : outgoing_in d ≡ outgoing_in b
  outgoing-ahead = rw outgoing-count (entries-apart x (outgoing_at + 1) (get_or b outgoing_at 0) (inl (omega (arith, l.outgoing))))

  slots-ahead : slots_fit d (outgoing_at + 1) (get_or d outgoing_at 0) ≡ true
  slots-ahead = rw outgoing-count (slots_apart x (outgoing_at + 1) (get_or b outgoing_at 0) (inl (omega (arith, l.outgoing))) ∙ l.slots)

  other-apart : Apart (inward_at k) inward_size (inward_at j) inward_size
  other-apart = elim (dec_lt j k) [ yes p ↦ inl (omega arith) | no p ↦ inr (omega arith) ]

  other-count : get_or d (inward_at j) 0 ≡ get_or b (inward_at j) 0
  other-count = byte-same d b (inward_at j) (inward_at j) inward_size (omega arith) (apart-same x (inward_at j) inward_size other-apart)

  other-list : inward_in d j ≡ inward_in b j
  other-list = items_kept b d (inward_at j) (apart-same x (inward_at j) inward_size other-apart) (inward-few b j (omega arith) l)

  pub inward-layout : get_or d (inward_at k) 0 ≤ max_ordered → Layout d
  inward-layout h =
      let g : get_or d (inward_at j) 0 ≤ max_ordered = rw other-count (inward-few b j (omega arith) l) in
      behind-layout x (omega arith) l (rw outgoing-count l.outgoing) (each-few d k j 0 sides (omega arith) h g) (each-few d k j 1 sides (omega arith) h g)
      slots-ahead

  -- the client view's list changes, or that of a carrier view not attempted
  pub own-book : (own : List (Item ℕ)) → k ≡ get_or b side_at 0 → inward_in d k ≡ own
      → book_in d ≡ meaning (record_in b) (outgoing_in b) own (inward_in b (1 - get_or b side_at 0))
  own-book own e p =
      let f : j ≡ 1 - get_or b side_at 0 = omega arith in
      behind-book x (omega arith) l (outgoing_in b) own (inward_in b (1 - get_or b side_at 0)) outgoing-ahead (rw (← e) p) (rw (← f) other-list)

  pub new-book : (new : List (Item ℕ)) → k ≡ 1 - get_or b side_at 0 → inward_in d k ≡ new
      → book_in d ≡ meaning (record_in b) (outgoing_in b) (inward_in b (get_or b side_at 0)) new
  new-book new e p =
      let f : j ≡ get_or b side_at 0 = omega (arith, l.side) in
      behind-book x (omega arith) l (outgoing_in b) (inward_in b (get_or b side_at 0)) new outgoing-ahead (rw (← f) other-list) (rw (← e) p)
