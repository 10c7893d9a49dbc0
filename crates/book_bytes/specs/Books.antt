-- The book that bytes are, and which bytes are a sound book: refusal 4 of the member by itself.
use Rattle.std.specs.Prelude.{Bool, List, [], ◌∷◌, ℕ, ◌+◌, ◌-◌, eqb, leb, length, get_or}
use Rattle.views.specs.Limits.{max_open, max_outgoing, max_ordered}
use Rattle.rules.specs.Data as R
use Rattle.rules.specs.Data.{Entry, Item, Member}
use Rattle.rules.specs.Sound.{conditions}
use Rattle.rules.specs.Alone.{book_sound}
use Rattle.slots.specs.Slots.{queue_in, slots_fit}
use Rattle.slots.specs.Columns.{items_in}
use Rattle.book_bytes.specs.Places.{members_at, carrier_at, client_at, registered_at, side_at, opens_at, outgoing_at}
use Rattle.book_bytes.specs.Places.{inward_at, book_size, self_at}
use Rattle.book_bytes.specs.Records.{record_in, meaning}

-- the number of members, and the member's own number
abbrev pub members_in : List ℕ → ℕ
members_in b = get_or b members_at 0

abbrev pub own_in_book : List ℕ → Member
own_in_book b = get_or b self_at 0

abbrev pub outgoing_in : List ℕ → List Entry
outgoing_in b = queue_in b outgoing_at (outgoing_at + 1)

-- the inward list of a side
abbrev pub inward_in : List ℕ → ℕ → List (Item ℕ)
inward_in b side = items_in b (inward_at side)

unfoldable pub book_in : List ℕ → R.Book
book_in b =
    meaning (record_in b) (outgoing_in b) (inward_in b (get_or b side_at 0)) (inward_in b (1 - get_or b side_at 0))

-- what only bytes can hold: a length, a mark or a count outside its limits, an entry of unknown kind
unfoldable pub layout_fits : List ℕ → Bool
layout_fits b = conditions (
    eqb (length b) book_size
    ∷ leb (get_or b carrier_at 0) 1
    ∷ leb (get_or b client_at 0) 1
    ∷ leb (get_or b registered_at 0) 1
    ∷ leb (get_or b side_at 0) 1
    ∷ leb (get_or b opens_at 0) max_open
    ∷ leb (get_or b outgoing_at 0) max_outgoing
    ∷ leb (get_or b (inward_at 0) 0) max_ordered
    ∷ leb (get_or b (inward_at 1) 0) max_ordered
    ∷ slots_fit b (outgoing_at + 1) (get_or b outgoing_at 0)
    ∷ [])

unfoldable pub bytes_sound : List ℕ → Bool
bytes_sound b = conditions (layout_fits b ∷ book_sound (get_or b members_at 0) (book_in b) ∷ [])
