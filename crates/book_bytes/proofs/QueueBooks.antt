-- A change of the outgoing queue in a book's bytes is that change in the book: a message at the end, the first gone, one message in place of all.
-- The record, the members and the layout stay.
use mathlib.Core.Path.{◌≡◌}
use mathlib.Core.List.{List, [], ◌∷◌, ◌++◌}
use Prim.Native.Nat.{ℕ, ◌+◌, ◌*◌, ◌≤◌, ◌<◌}
use native.Mathlib.Omega.{arith}
use lib.ListN.{length, get_or, set, drop}
use Rattle.views.specs.Limits.{max_outgoing}
use Rattle.rules.specs.Data.{Message, entry}
use Rattle.rules.specs.Member.{outgoes}
use Rattle.slots.specs.Slots.{slot_size}
use Rattle.slots.specs.Changes.{store_message, pushed, popped}
use Rattle.slots.proofs.Outside.{Changed, queue-whole}
use Rattle.slots.proofs.Stored.{MessageFits}
use Rattle.slots.proofs.Lists.{length-entries}
use Rattle.slots.proofs.Queues.{push-changed, push-count, push-appends, push-fits, one-changed, one-count, one-message, one-fits, pop-changed, pop-count, pop-drops, pop-fits}
use Rattle.book_bytes.specs.Places.{members_at, self_at, outgoing_at}
use Rattle.book_bytes.specs.Records.{record_in}
use Rattle.book_bytes.specs.Books.{outgoing_in, book_in}
use Rattle.book_bytes.proofs.LayoutLaws.{Layout}
use Rattle.book_bytes.proofs.Behind.{outgoing_size, behind-members, behind-self, behind-record, outgoing-book, outgoing-layout}

pub length-outgoing : (b : List ℕ) → length (outgoing_in b) ≡ get_or b outgoing_at 0
length-outgoing b = length-entries b (outgoing_at + 1) (get_or b outgoing_at 0)

-- ---- a message more

module _ (b : List ℕ) (l : Layout b) (q : ℕ) (m : Message) (fits : MessageFits m) (room : get_or b outgoing_at 0 < max_outgoing) where
  abbrev longer : List ℕ
  longer = pushed b outgoing_at (outgoing_at + 1) q m

  push-inside : outgoing_at + 1 + slot_size * (get_or b outgoing_at 0 + 1) ≤ length b
  push-inside = omega (arith, l.size)

  push-within : Changed b longer outgoing_at outgoing_size
  push-within =
      queue-whole (push-changed b outgoing_at (outgoing_at + 1) q m (omega arith) fits push-inside) outgoing_at outgoing_size
      (omega arith) (omega arith) (omega arith) (omega arith)

  pub push-record : record_in (pushed b outgoing_at (outgoing_at + 1) q m) ≡ record_in b
  push-record = behind-record push-within (omega arith) l

  pub push-members : get_or (pushed b outgoing_at (outgoing_at + 1) q m) members_at 0 ≡ get_or b members_at 0
  push-members = behind-members push-within (omega arith) l

  pub push-self : get_or (pushed b outgoing_at (outgoing_at + 1) q m) self_at 0 ≡ get_or b self_at 0
  push-self = behind-self push-within (omega arith) l

  pub push-book : book_in (pushed b outgoing_at (outgoing_at + 1) q m) ≡ outgoes (outgoing_in b ++ (entry q m ∷ [])) (book_in b)
  push-book =
      outgoing-book push-within l (outgoing_in b ++ (entry q m ∷ []))
      (push-appends b outgoing_at (outgoing_at + 1) q m (omega arith) fits push-inside)

  pub push-layout : Layout (pushed b outgoing_at (outgoing_at + 1) q m)
  push-layout =
      outgoing-layout push-within l (omega (arith, push-count b outgoing_at (outgoing_at + 1) q m (omega arith) fits push-inside))
      (push-fits b outgoing_at (outgoing_at + 1) q m (omega arith) fits push-inside l.slots)

-- ---- the first gone

module _ (b : List ℕ) (l : Layout b) (some : 0 < get_or b outgoing_at 0) where
  pop-inside : outgoing_at + 1 + slot_size * get_or b outgoing_at 0 ≤ length b
  pop-inside = omega (arith, l.size, l.outgoing)

  pop-within : Changed b (popped b outgoing_at (outgoing_at + 1)) outgoing_at outgoing_size
  pop-within =
      queue-whole (pop-changed b outgoing_at (outgoing_at + 1) (omega arith) some pop-inside) outgoing_at outgoing_size
      (omega arith) (omega arith) (omega arith) (omega (arith, l.outgoing))

  pub pop-record : record_in (popped b outgoing_at (outgoing_at + 1)) ≡ record_in b
  pop-record = behind-record pop-within (omega arith) l

  pub pop-members : get_or (popped b outgoing_at (outgoing_at + 1)) members_at 0 ≡ get_or b members_at 0
  pop-members = behind-members pop-within (omega arith) l

  pub pop-self : get_or (popped b outgoing_at (outgoing_at + 1)) self_at 0 ≡ get_or b self_at 0
  pop-self = behind-self pop-within (omega arith) l

  pub pop-book : book_in (popped b outgoing_at (outgoing_at + 1)) ≡ outgoes (drop 1 (outgoing_in b)) (book_in b)
  pop-book = outgoing-book pop-within l (drop 1 (outgoing_in b)) (pop-drops b outgoing_at (outgoing_at + 1) (omega arith) some pop-inside)

  pub pop-layout : Layout (popped b outgoing_at (outgoing_at + 1))
  pop-layout =
      outgoing-layout pop-within l (omega (arith, l.outgoing, pop-count b outgoing_at (outgoing_at + 1) (omega arith) some pop-inside))
      (pop-fits b outgoing_at (outgoing_at + 1) (omega arith) some pop-inside l.slots)

-- ---- one message in place of all

module _ (b : List ℕ) (l : Layout b) (q : ℕ) (m : Message) (fits : MessageFits m) where
  abbrev alone : List ℕ
  alone = set (store_message b (outgoing_at + 1) q m) outgoing_at 1

  one_inside : outgoing_at + 1 + slot_size ≤ length b
  one_inside = omega (arith, l.size)

  one-within : Changed b alone outgoing_at outgoing_size
  one-within =
      queue-whole (one-changed b outgoing_at (outgoing_at + 1) q m (omega arith) fits one_inside) outgoing_at outgoing_size
      (omega arith) (omega arith) (omega arith) (omega arith)

  count-one : get_or alone outgoing_at 0 ≡ 1
  count-one = one-count b outgoing_at (outgoing_at + 1) q m (omega arith) fits one_inside

  pub one-record : record_in (set (store_message b (outgoing_at + 1) q m) outgoing_at 1) ≡ record_in b
  one-record = behind-record one-within (omega arith) l

  pub one-members : get_or (set (store_message b (outgoing_at + 1) q m) outgoing_at 1) members_at 0 ≡ get_or b members_at 0
  one-members = behind-members one-within (omega arith) l

  pub one-self : get_or (set (store_message b (outgoing_at + 1) q m) outgoing_at 1) self_at 0 ≡ get_or b self_at 0
  one-self = behind-self one-within (omega arith) l

  pub one-book : book_in (set (store_message b (outgoing_at + 1) q m) outgoing_at 1) ≡ outgoes (entry q m ∷ []) (book_in b)
  one-book = outgoing-book one-within l (entry q m ∷ []) (rw count-one (one-message b outgoing_at (outgoing_at + 1) q m (omega arith) fits one_inside))

  pub one-layout : Layout (set (store_message b (outgoing_at + 1) q m) outgoing_at 1)
  one-layout = outgoing-layout one-within l (omega (arith, count-one)) (rw count-one (one-fits b outgoing_at (outgoing_at + 1) q m (omega arith) fits one_inside))
