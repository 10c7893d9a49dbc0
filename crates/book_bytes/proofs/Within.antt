-- A change within the record leaves the members, the own number and the queues as they were: the book is then the record read anew, with the queues
-- as they were, and the layout fits where the marks, the side and the count of open views do.
use mathlib.Core.Path.{◌≡◌, ◌∙◌}
use mathlib.Core.Logic.{inr}
use mathlib.Core.List.{List}
use Prim.Native.Nat.{ℕ, ◌+◌, ◌-◌, ◌≤◌}
use native.Mathlib.Omega.{arith}
use lib.ListN.{get_or}
use Rattle.views.specs.Limits.{max_open}
use Rattle.slots.specs.Slots.{slots_fit}
use Rattle.slots.proofs.Outside.{Changed, entries-apart, slots_apart}
use Rattle.slots.proofs.Items.{items-past}
use Rattle.book_bytes.specs.declared.Record.{Record}
use Rattle.book_bytes.specs.Places.{members_at, self_at, settled_at, carrier_at, client_at, registered_at, side_at, opens_at, outgoing_at, inward_at}
use Rattle.book_bytes.specs.Records.{record_in, meaning}
use Rattle.book_bytes.specs.Books.{outgoing_in, inward_in, book_in}
use Rattle.book_bytes.proofs.LayoutLaws.{Layout}

-- the record lies between the member's own number and the outgoing queue
abbrev pub record_size : ℕ
record_size = outgoing_at - settled_at

module _ {b d : List ℕ} (x : Changed b d settled_at record_size) where
  pub within-members : get_or d members_at 0 ≡ get_or b members_at 0
  within-members = x.below members_at (omega arith)

  pub within-self : get_or d self_at 0 ≡ get_or b self_at 0
  within-self = x.below self_at (omega arith)

  pub within-outgoing-count : get_or d outgoing_at 0 ≡ get_or b outgoing_at 0
  within-outgoing-count = x.past outgoing_at (omega arith)

  pub within-outgoing : outgoing_in d ≡ outgoing_in b
  within-outgoing = rw within-outgoing-count (entries-apart x (outgoing_at + 1) (get_or b outgoing_at 0) (inr (omega arith)))

  pub within-slots : slots_fit d (outgoing_at + 1) (get_or d outgoing_at 0) ≡ slots_fit b (outgoing_at + 1) (get_or b outgoing_at 0)
  within-slots = rw within-outgoing-count (slots_apart x (outgoing_at + 1) (get_or b outgoing_at 0) (inr (omega arith)))

  pub within-inward-count : (side : ℕ) → get_or d (inward_at side) 0 ≡ get_or b (inward_at side) 0
  within-inward-count side = x.past (inward_at side) (omega arith)

  pub within-inward : (side : ℕ) → inward_in d side ≡ inward_in b side
  within-inward side = items-past x (inward_at side) (omega arith)

  -- the side is part of the record
  pub within-book : (h : Record) → record_in d ≡ h → book_in d ≡ meaning h (outgoing_in b) (inward_in b h.side) (inward_in b (1 - h.side))
  unfolding book_in record_in
  within-book h e =
      let side : get_or d side_at 0 ≡ h.side = λ i. (e i).side in
      rw (side, within-outgoing, within-inward h.side, within-inward (1 - h.side)) (λ i. meaning (e i) (outgoing_in b) (inward_in b h.side) (inward_in b (1 - h.side)))

  pub within-layout : Layout b → get_or d carrier_at 0 ≤ 1 → get_or d client_at 0 ≤ 1 → get_or d registered_at 0 ≤ 1 → get_or d side_at 0 ≤ 1
      → get_or d opens_at 0 ≤ max_open → Layout d
  within-layout l carrier client registered side opens = record {
    size = x.long ∙ l.size;
    carrier = carrier;
    client = client;
    registered = registered;
    side = side;
    opens = opens;
    outgoing = rw within-outgoing-count l.outgoing;
    first = rw (within-inward-count 0) l.first;
    second = rw (within-inward-count 1) l.second;
    slots = within-slots ∙ l.slots;
  }
