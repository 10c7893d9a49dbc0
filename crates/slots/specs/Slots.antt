-- Queue entries as bytes, by rows: what stands at a place. A queue is a count byte and slots of one size; only the
-- first slots, as many as the count says, are used.
use Rattle.std.specs.Prelude.{Bool, true, cond, List, [], ◌∷◌, ℕ, zero, suc, ◌+◌, ◌*◌, min, eqb, get_or}
use Rattle.numbers.specs.Number.{get}
use Rattle.views.specs.declared.View.{View}
use Rattle.views.specs.Limits.{max_views}
use Rattle.views.specs.Sizes.{view_size, number_size}
use Rattle.views.specs.Sets.{both}
use Rattle.wire.specs.Format.{is_known, client_kind, info_kind, registered_kind}
use Rattle.wire.specs.Reader.{views_in}
use Rattle.rules.specs.Data.{Message, client, registered, told, Entry, entry}
use Rattle.rules.specs.Sound.{within}
use Rattle.rules.specs.Alone.{info_of}

-- ---- an entry: sender 1 byte, kind 1, number 8, count of views 1, 32 places for views of 5

abbrev pub slot_kind : ℕ
slot_kind = 1

abbrev pub slot_number : ℕ
slot_number = slot_kind + 1

abbrev pub slot_count : ℕ
slot_count = slot_number + number_size

abbrev pub slot_views : ℕ
slot_views = slot_count + 1

abbrev pub slot_size : ℕ
slot_size = slot_views + view_size * max_views

abbrev pub kind_in : List ℕ → ℕ → ℕ
kind_in b at = get_or b (at + slot_kind) 0

abbrev pub number_in : List ℕ → ℕ → ℕ
number_in b at = get b (at + slot_number) number_size

abbrev pub count_in : List ℕ → ℕ → ℕ
count_in b at = get_or b (at + slot_count) 0

unfoldable pub info_in : List ℕ → ℕ → List View
info_in b at = views_in b (at + slot_views) (min (count_in b at) max_views)

-- the message of a kind: of a client its number, of an info its views, of a told its count; told for any other kind
abbrev pub message_by : ℕ → ℕ → List View → ℕ → Message
message_by kind x l k =
    cond (eqb kind client_kind) (client x)
    (cond (eqb kind info_kind) (info_of l)
    (cond (eqb kind registered_kind) registered (told k)))

unfoldable pub message_in : List ℕ → ℕ → Message
message_in b at = message_by (kind_in b at) (number_in b at) (info_in b at) (number_in b at)

abbrev pub entry_in : List ℕ → ℕ → Entry
entry_in b at = entry (get_or b at 0) (message_in b at)

-- n entries from a place on
unfoldable pub entries_in : List ℕ → ℕ → ℕ → List Entry
entries_in b at zero = []
entries_in b at (suc n) = entry_in b at ∷ entries_in b (at + slot_size) n

-- the queue with its count at c and its slots from s on
abbrev pub queue_in : List ℕ → ℕ → ℕ → List Entry
queue_in b c s = entries_in b s (get_or b c 0)

-- ---- what only bytes can hold: an entry of unknown kind, an info's count beyond its places

-- an entry of a kind, with n views where it is an info
abbrev pub fits_kind : ℕ → ℕ → Bool
fits_kind kind n = both (is_known kind) (cond (eqb kind info_kind) (within 1 n max_views) true)

unfoldable pub slot_fits : List ℕ → ℕ → Bool
slot_fits b at = fits_kind (kind_in b at) (count_in b at)

unfoldable pub slots_fit : List ℕ → ℕ → ℕ → Bool
slots_fit b at zero = true
slots_fit b at (suc n) = both (slot_fits b at) (slots_fit b (at + slot_size) n)
