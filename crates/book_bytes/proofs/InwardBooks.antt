-- A change of an inward list in a book's bytes is that change in the book: an item at the end, or all gone. The record, the members and the layout
-- stay. The sides are 0 and 1: one is the client view's, the other that of a carrier view not attempted.
use mathlib.Core.Path.{◌≡◌, refl}
use mathlib.Core.List.{List, [], ◌∷◌, ◌++◌}
use Prim.Native.Nat.{ℕ, ◌+◌, ◌-◌, ◌^◌, ◌≤◌, ◌<◌}
use native.Mathlib.Omega.{arith}
use lib.ListN.{length, get_or, set, drop}
use lib.Seq.{get_or-set_same}
use Rattle.views.specs.Limits.{max_ordered}
use Rattle.rules.specs.Data.{item}
use Rattle.slots.specs.Columns.{inward_size, item_in}
use Rattle.slots.specs.Changes.{gained}
use Rattle.slots.proofs.Outside.{Changed, changed-within, set-changed}
use Rattle.slots.proofs.Items.{length-items, items-next, gain-changed, gain-count, gain-appends}
use Rattle.book_bytes.specs.Places.{members_at, self_at, side_at, inward_at}
use Rattle.book_bytes.specs.Records.{record_in, meaning}
use Rattle.book_bytes.specs.Books.{outgoing_in, inward_in, book_in}
use Rattle.book_bytes.proofs.Blank.{no_items}
use Rattle.book_bytes.proofs.LayoutLaws.{Layout}
use Rattle.book_bytes.proofs.Behind.{behind-members, behind-self, behind-record, inward-layout, own-book, new-book}

-- ---- one item after the other

pub length-inward : (b : List ℕ) (k : ℕ) → length (inward_in b k) ≡ get_or b (inward_at k) 0
length-inward b k = length-items b (inward_at k)

-- what is left of a list from its j-th item on begins with the item at that place
pub items_at : (b : List ℕ) (k j : ℕ) → j < get_or b (inward_at k) 0
    → drop j (inward_in b k) ≡ item_in b (inward_at k) j ∷ drop (j + 1) (inward_in b k)
items_at b k j h = items-next b (inward_at k) j h

-- ---- an item more, on the side k

module _ (b : List ℕ) (l : Layout b) (k : ℕ) (either : k ≤ 1) (q x : ℕ) (fits : x < 256 ^ 8) (room : get_or b (inward_at k) 0 < max_ordered) where
  gain-inside : inward_at k + inward_size ≤ length b
  gain-inside = omega (arith, l.size)

  gain-within : Changed b (gained b (inward_at k) q x) (inward_at k) inward_size
  gain-within = gain-changed b (inward_at k) q x fits room gain-inside

  count-gained : get_or (gained b (inward_at k) q x) (inward_at k) 0 ≡ get_or b (inward_at k) 0 + 1
  count-gained = gain-count b (inward_at k) q x fits room gain-inside

  pub inward-gained : inward_in (gained b (inward_at k) q x) k ≡ inward_in b k ++ (item q x ∷ [])
  inward-gained = gain-appends b (inward_at k) q x fits room gain-inside

  pub gain-record : record_in (gained b (inward_at k) q x) ≡ record_in b
  gain-record = behind-record gain-within (omega arith) l

  pub gain-members : get_or (gained b (inward_at k) q x) members_at 0 ≡ get_or b members_at 0
  gain-members = behind-members gain-within (omega arith) l

  pub gain-self : get_or (gained b (inward_at k) q x) self_at 0 ≡ get_or b self_at 0
  gain-self = behind-self gain-within (omega arith) l

  pub gain-layout : Layout (gained b (inward_at k) q x)
  gain-layout = inward-layout k (1 - k) (omega arith) gain-within l (omega (arith, count-gained))

module _ (b : List ℕ) (l : Layout b) (q x : ℕ) (fits : x < 256 ^ 8) where
  abbrev side : ℕ
  side = get_or b side_at 0

  pub gain-own : get_or b (inward_at (get_or b side_at 0)) 0 < max_ordered
      → book_in (gained b (inward_at (get_or b side_at 0)) q x)
      ≡ meaning (record_in b) (outgoing_in b) (inward_in b (get_or b side_at 0) ++ (item q x ∷ [])) (inward_in b (1 - get_or b side_at 0))
  gain-own room =
      own-book side (1 - side) (omega (arith, l.side)) (gain-within b l side l.side q x fits room) l (inward_in b side ++ (item q x ∷ [])) refl
      (inward-gained b l side l.side q x fits room)

  pub gain-new : get_or b (inward_at (1 - get_or b side_at 0)) 0 < max_ordered
      → book_in (gained b (inward_at (1 - get_or b side_at 0)) q x)
      ≡ meaning (record_in b) (outgoing_in b) (inward_in b (get_or b side_at 0)) (inward_in b (1 - get_or b side_at 0) ++ (item q x ∷ []))
  gain-new room =
      new-book (1 - side) side (omega (arith, l.side)) (gain-within b l (1 - side) (omega arith) q x fits room) l (inward_in b (1 - side) ++ (item q x ∷ [])) refl
      (inward-gained b l (1 - side) (omega arith) q x fits room)

-- ---- all gone, on the side k

module _ (b : List ℕ) (l : Layout b) (k : ℕ) (either : k ≤ 1) where
  empty-within : Changed b (set b (inward_at k) 0) (inward_at k) inward_size
  empty-within = changed-within (inward_at k) inward_size (omega arith) (omega arith) (set-changed b (inward_at k) 0)

  empty-count : get_or (set b (inward_at k) 0) (inward_at k) 0 ≡ 0
  empty-count = get_or-set_same b (inward_at k) 0 0 (omega (arith, l.size))

  pub inward-emptied : inward_in (set b (inward_at k) 0) k ≡ []
  inward-emptied = no_items (set b (inward_at k) 0) (inward_at k) empty-count

  pub empty-record : record_in (set b (inward_at k) 0) ≡ record_in b
  empty-record = behind-record empty-within (omega arith) l

  pub empty-members : get_or (set b (inward_at k) 0) members_at 0 ≡ get_or b members_at 0
  empty-members = behind-members empty-within (omega arith) l

  pub empty-self : get_or (set b (inward_at k) 0) self_at 0 ≡ get_or b self_at 0
  empty-self = behind-self empty-within (omega arith) l

  pub empty-layout : Layout (set b (inward_at k) 0)
  empty-layout = inward-layout k (1 - k) (omega arith) empty-within l (omega (arith, empty-count))

  pub empty-own : k ≡ get_or b side_at 0 → book_in (set b (inward_at k) 0) ≡ meaning (record_in b) (outgoing_in b) [] (inward_in b (1 - get_or b side_at 0))
  empty-own e = own-book k (1 - k) (omega arith) empty-within l [] e inward-emptied

  pub empty-new : k ≡ 1 - get_or b side_at 0 → book_in (set b (inward_at k) 0) ≡ meaning (record_in b) (outgoing_in b) (inward_in b (get_or b side_at 0)) []
  empty-new e = new-book k (1 - k) (omega arith) empty-within l [] e inward-emptied
