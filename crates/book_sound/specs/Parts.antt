-- The parts in which bytes are tested for a sound book: the small record, each outgoing entry, each inward item.
use Rattle.std.specs.Prelude.{Bool, cond, List, [], ◌∷◌, ℕ, ◌-◌, eqb, leb, get_or}
use Rattle.views.specs.Limits.{max_members, max_open, max_outgoing, max_ordered}
use Rattle.views.specs.Lists.{id_of, rises_above, list_of}
use Rattle.rules.specs.Data.{rank}
use Rattle.rules.specs.Member.{every, all}
use Rattle.rules.specs.Sound.{within, conditions, set_fits, item_from_member}
use Rattle.rules.specs.Alone.{limit_if, set_fits_if}
use Rattle.book_sound.specs.EntryParts.{entry_sound}
use Rattle.book_bytes.specs.declared.Record.{Record}
use Rattle.book_bytes.specs.Places.{carrier_at, client_at, registered_at, side_at, opens_at, outgoing_at, inward_at}
use Rattle.book_bytes.specs.Books.{outgoing_in, inward_in}

-- a record of n members, with so many items in the client view's inward list and in that of a carrier view not
-- attempted
unfoldable pub record_sound : ℕ → Record → ℕ → ℕ → Bool
record_sound n h own new = conditions (
    within 1 n max_members
    ∷ every n (λ q. leb (get_or h.tolds q 0) max_ordered)
    ∷ leb h.taken.0 (limit_if h.carrier max_ordered)
    ∷ leb (limit_if h.carrier (cond (eqb (rank h.client) (rank h.carrier)) own new))
    h.taken.0
    ∷ leb h.handed.0 (limit_if h.client own)
    ∷ leb h.told.0 (limit_if h.client own)
    ∷ leb h.reported.0 (limit_if h.client own)
    ∷ all (set_fits n) (h.settled ∷ list_of h.opens)
    ∷ set_fits_if n h.carrier
    ∷ set_fits_if n h.client
    ∷ rises_above (id_of h.settled) (list_of h.opens)
    ∷ [])

-- what is asked of the position in the carrier view's order
unfoldable pub taken_fits : Record → ℕ → ℕ → Bool
taken_fits h own new = conditions (
    leb h.taken.0 (limit_if h.carrier max_ordered)
    ∷ leb (limit_if h.carrier (cond (eqb (rank h.client) (rank h.carrier)) own new))
    h.taken.0
    ∷ [])

-- of the positions in the client view's inward list
unfoldable pub positions_fit : Record → ℕ → Bool
positions_fit h own = conditions (
    leb h.handed.0 (limit_if h.client own)
    ∷ leb h.told.0 (limit_if h.client own)
    ∷ leb h.reported.0 (limit_if h.client own)
    ∷ [])

-- of the views
unfoldable pub views_sound : ℕ → Record → Bool
views_sound n h = conditions (
    all (set_fits n) (h.settled ∷ list_of h.opens)
    ∷ set_fits_if n h.carrier
    ∷ set_fits_if n h.client
    ∷ rises_above (id_of h.settled) (list_of h.opens)
    ∷ [])

-- the outgoing entries and the inward lists in the bytes of a book of n members
unfoldable pub queues_sound : ℕ → List ℕ → Bool
queues_sound n b = conditions (
    all (entry_sound n) (outgoing_in b)
    ∷ all (item_from_member n) (inward_in b (get_or b side_at 0))
    ∷ all (item_from_member n) (inward_in b (1 - get_or b side_at 0))
    ∷ [])

-- what the layout asks of the marks, and of the counts
unfoldable pub marks_fit : List ℕ → Bool
marks_fit b = conditions (
    leb (get_or b carrier_at 0) 1
    ∷ leb (get_or b client_at 0) 1
    ∷ leb (get_or b registered_at 0) 1
    ∷ leb (get_or b side_at 0) 1
    ∷ [])

unfoldable pub counts_fit : List ℕ → Bool
counts_fit b = conditions (
    leb (get_or b opens_at 0) max_open
    ∷ leb (get_or b outgoing_at 0) max_outgoing
    ∷ leb (get_or b (inward_at 0) 0) max_ordered
    ∷ leb (get_or b (inward_at 1) 0) max_ordered
    ∷ [])
