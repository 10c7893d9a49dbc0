-- A record stored in a book's bytes reads back, and the queues, the members and the layout stay as they were.
use mathlib.Core.Path.{◌≡◌}
use mathlib.Core.List.{List}
use Prim.Native.Nat.{ℕ, ◌-◌, ◌≤◌}
use native.Mathlib.Omega.{arith}
use lib.ListN.{length, get_or, take, drop}
use Rattle.views.specs.Limits.{max_members}
use Rattle.views.specs.Lists.{list_of}
use Rattle.slots.proofs.Outside.{Changed, changed-within, changed_then}
use Rattle.book_bytes.specs.declared.Record.{Record}
use Rattle.book_bytes.specs.Places.{members_at, self_at, settled_at, registered_at, infos_at, tolds_at, opens_at, book_size}
use Rattle.book_bytes.specs.Records.{record_in, meaning, store_seats, store_counts, store_notes, store_record}
use Rattle.book_bytes.specs.Books.{outgoing_in, inward_in, book_in}
use Rattle.book_bytes.proofs.LayoutLaws.{Layout}
use Rattle.book_bytes.proofs.Fits.{Fits, opens-list}
use Rattle.book_bytes.proofs.Parts.{seats_size, counts_size, notes_size, opens_size, Seats, Counts, Notes, Opens, mark-reads, mark-small, seats-kept, counts-kept, notes-kept, seats-changed, seats-stored, counts-changed, counts-stored, notes-changed, notes-stored, opens-changed, opens-stored, opens-read}
use Rattle.book_bytes.proofs.RecordReads.{bytes-are, record-read}
use Rattle.book_bytes.proofs.Within.{record_size, within-members, within-self, within-book, within-layout}

module _ (b : List ℕ) (h : Record) (size : length b ≡ book_size) (fits : Fits h) where
  abbrev seats : List ℕ
  seats = store_seats b h

  abbrev counts : List ℕ
  counts = store_counts seats h

  abbrev notes : List ℕ
  notes = store_notes counts h

  -- ---- part after part

  first : Changed b seats settled_at seats_size
  first = seats-changed b h (omega arith) fits

  seats-room : book_size ≤ length seats
  seats-room = omega (arith, first.long)

  second : Changed seats counts registered_at counts_size
  second = counts-changed seats h seats-room fits

  counts-room : book_size ≤ length counts
  counts-room = omega (arith, seats-room, second.long)

  third : Changed counts notes infos_at notes_size
  third = notes-changed counts h counts-room fits

  notes-room : book_size ≤ length notes
  notes-room = omega (arith, counts-room, third.long)

  fourth : Changed notes (store_record b h) opens_at opens_size
  unfolding store_record
  fourth = opens-changed notes h.opens notes-room fits.opens

  pub record-changed : Changed b (store_record b h) settled_at record_size
  record-changed =
      changed_then (changed-within settled_at record_size (omega arith) (omega arith) first)
      (changed_then (changed-within settled_at record_size (omega arith) (omega arith) second)
      (changed_then (changed-within settled_at record_size (omega arith) (omega arith) third)
      (changed-within settled_at record_size (omega arith) (omega arith) fourth)))

  -- ---- what the bytes then hold

  pub record-seats : Seats (store_record b h) h
  record-seats =
      seats-kept fourth h (omega arith)
      (seats-kept third h (omega arith) (seats-kept second h (omega arith) (seats-stored b h (omega arith) fits)))

  pub record-counts : Counts (store_record b h) h
  record-counts = counts-kept fourth h (omega arith) (counts-kept third h (omega arith) (counts-stored seats h seats-room fits))

  pub record-notes : Notes (store_record b h) h
  record-notes = notes-kept fourth h (omega arith) (notes-stored counts h counts-room fits)

  pub record-opens : Opens (store_record b h) (list_of h.opens)
  unfolding store_record
  record-opens = opens-stored notes h.opens notes-room fits.opens

  -- ---- the record reads back

  tolds-back : take max_members (drop tolds_at (store_record b h)) ≡ h.tolds
  tolds-back = bytes-are (store_record b h) h.tolds tolds_at max_members (omega (arith, record-changed.long)) fits.tolds record-notes.tolds

  pub record-back : record_in (store_record b h) ≡ h
  record-back =
      let s = record-seats in
      let c = record-counts in
      let n = record-notes in
      record-read (store_record b h) h s.settled (opens-read (store_record b h) h.opens fits.opens record-opens)
      s.carrier.reads s.client.reads
      (rw c.registered (mark-reads h.registered)) c.handed c.told c.reported c.taken n.infos n.registrations tolds-back n.side

  -- ---- what stays

  pub length-record : length (store_record b h) ≡ length b
  length-record = record-changed.long

  pub members_kept : get_or (store_record b h) members_at 0 ≡ get_or b members_at 0
  members_kept = within-members record-changed

  pub self-kept : get_or (store_record b h) self_at 0 ≡ get_or b self_at 0
  self-kept = within-self record-changed

  -- ---- the book, and the layout

  pub book-stored : book_in (store_record b h) ≡ meaning h (outgoing_in b) (inward_in b h.side) (inward_in b (1 - h.side))
  book-stored = within-book record-changed h record-back

  pub layout-stored : Layout b → h.side ≤ 1 → Layout (store_record b h)
  layout-stored l s =
      within-layout record-changed l record-seats.carrier.mark record-seats.client.mark (rw record-counts.registered (mark-small h.registered))
      (rw record-notes.side s) (rw (record-opens.count, opens-list h.opens fits.opens) fits.opens.few)
