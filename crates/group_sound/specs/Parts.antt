-- The parts in which three ranges are tested for a sound group: the sizes, the list, each member's book, the queues of
-- each view made. Here `views` is the list of views made, and n the number of members.
use Rattle.std.specs.Prelude.{Bool, true, not, List, [], ◌∷◌, ℕ, zero, suc, ◌+◌, ◌%◌, ◌/◌, eqb, leb, length, get_or}
use Rattle.std.specs.Prelude.{Option, None, Some}
use Rattle.views.specs.declared.View.{View}
use Rattle.views.specs.Limits.{max_members, max_views, max_waiting}
use Rattle.views.specs.Sizes.{view_size, layout_number}
use Rattle.views.specs.Sets.{both, is_beyond}
use Rattle.views.specs.Lists.{id_of, is_rising, list_of}
use Rattle.rules.specs.Data.{Entry}
use Rattle.rules.specs.Member.{every, all}
use Rattle.rules.specs.Sound.{within, conditions, set_fits, opens_rise, listed, listed_if, info_listed}
use Rattle.slots.specs.Slots.{slot_size, entry_in, queue_in, slot_fits, slots_fit}
use Rattle.slots.specs.Columns.{entries_ordered, order_fits}
use Rattle.book_bytes.specs.declared.Record.{Record}
use Rattle.book_bytes.specs.Places.{members_at, self_at, carrier_at, client_at, taken_at}
use Rattle.book_bytes.specs.Records.{seat_in, record_in}
use Rattle.book_bytes.specs.Books.{outgoing_in, bytes_sound}
use Rattle.book_sound.specs.EntryParts.{entry_sound}
use Rattle.group_bytes.specs.Places.{room_of, books_size, book_bytes, order_at, waiting_at, queues_size}
use Rattle.group_bytes.specs.Groups.{Ranges, members_of, made_of, marks_of, layout_of, views_made, place_of}

-- the lengths of the three ranges
unfoldable pub sizes_fit : ℕ → ℕ → ℕ → Bool
sizes_fit list books queues = conditions (
    eqb (list % view_size) 0
    ∷ within 1 (list / view_size) max_views
    ∷ eqb books books_size
    ∷ eqb queues (queues_size (list / view_size))
    ∷ [])

-- the layout's number; the number of members and of views made, in a list with this room; no mark past the views made
unfoldable pub numbers_fit : ℕ → ℕ → ℕ → ℕ → ℕ → Bool
numbers_fit layout n made room marks = conditions (
    eqb layout layout_number
    ∷ within 1 n max_members
    ∷ within 1 made room
    ∷ not (is_beyond marks made)
    ∷ [])

-- the list of views made: every set fits n members, and the identifiers rise
abbrev pub list_sound : ℕ → List View → Bool
list_sound n views = both (all (set_fits n) views) (is_rising views)

-- views that rise, each of them listed
abbrev pub views_known : List View → List View → Bool
views_known views l = both (is_rising l) (all (listed views) l)

-- the views of an entry, if it is an info, are so
abbrev pub info_known : List View → Entry → Bool
info_known views e = both (opens_rise e) (info_listed views e)

-- the views of a book's record are listed
unfoldable pub record_listed : List View → Record → Bool
record_listed views h = conditions (
    all (listed views) (h.settled ∷ list_of h.opens)
    ∷ listed_if views h.carrier
    ∷ listed_if views h.client
    ∷ [])

-- how many messages are ordered in a view or none, by the count in the queues
unfoldable pub ordered_in : List View → List ℕ → Option View → ℕ
ordered_in views q None = 0
ordered_in views q (Some v) = get_or q (order_at (place_of (id_of v) views)) 0

-- the carrier view and the client view of the book b are listed, if there are any, and no more was taken than is
-- ordered
unfoldable pub seats_known : List View → List ℕ → List ℕ → Bool
seats_known views q b = conditions (
    listed_if views (seat_in b carrier_at)
    ∷ leb (get_or b taken_at 0) (ordered_in views q (seat_in b carrier_at))
    ∷ listed_if views (seat_in b client_at)
    ∷ [])

-- what a book of a group is asked beyond what a member by itself is
unfoldable pub book_known : List View → List ℕ → List ℕ → Bool
book_known views q b = conditions (
    record_listed views (record_in b)
    ∷ leb (record_in b).taken.0 (ordered_in views q (record_in b).carrier)
    ∷ all (info_listed views) (outgoing_in b)
    ∷ [])

-- the book of p
unfoldable pub member_sound : List View → List ℕ → ℕ → ℕ → List ℕ → Bool
member_sound views q n p b = conditions (
    bytes_sound b
    ∷ eqb (get_or b members_at 0) n
    ∷ eqb (get_or b self_at 0) p
    ∷ book_known views q b
    ∷ [])

-- the slot at a place: of known kind, its entry sound, its views listed
unfoldable pub entry_known : List View → ℕ → List ℕ → ℕ → Bool
entry_known views n q at =
    conditions (slot_fits q at ∷ entry_sound n (entry_in q at) ∷ info_listed views (entry_in q at) ∷ [])

-- k slots from a place on
unfoldable pub entries_known : List View → ℕ → List ℕ → ℕ → ℕ → Bool
entries_known views n q at zero = true
entries_known views n q at (suc k) = both (entry_known views n q at) (entries_known views n q (at + slot_size) k)

-- what waits for a member, with its count at c
unfoldable pub queue_sound : List View → ℕ → List ℕ → ℕ → Bool
queue_sound views n q c = conditions (
    leb (get_or q c 0) max_waiting
    ∷ slots_fit q (c + 1) (get_or q c 0)
    ∷ all (entry_sound n) (queue_in q c (c + 1))
    ∷ all (info_listed views) (queue_in q c (c + 1))
    ∷ [])

-- the order with its count at c
unfoldable pub order_sound : List View → ℕ → List ℕ → ℕ → Bool
order_sound views n q c = conditions (
    order_fits q c
    ∷ all (entry_sound n) (entries_ordered q c)
    ∷ all (info_listed views) (entries_ordered q c)
    ∷ [])

-- what waits in the view at place i, and all its queues
unfoldable pub waiting_sound : List View → ℕ → List ℕ → ℕ → Bool
waiting_sound views n q i = every n (λ p. queue_sound views n q (waiting_at i p))

unfoldable pub table_sound : List View → ℕ → List ℕ → ℕ → Bool
table_sound views n q i = both (order_sound views n q (order_at i)) (waiting_sound views n q i)

-- the list, the books and the queues
unfoldable pub records_sound : List View → ℕ → List ℕ → List ℕ → Bool
records_sound views n books q = conditions (
    list_sound n views
    ∷ every n (λ p. member_sound views q n p (book_bytes books p))
    ∷ every (length views) (table_sound views n q)
    ∷ [])

unfoldable pub parts_sound : Ranges → Bool
parts_sound r = conditions (
    sizes_fit (length r.list) (length r.books) (length r.queues)
    ∷ numbers_fit (layout_of r) (members_of r) (made_of r) (room_of r.list) (marks_of r)
    ∷ records_sound (views_made r) (members_of r) r.books r.queues
    ∷ [])
