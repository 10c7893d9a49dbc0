-- Inward lists and orders as bytes, by columns: a count byte, then one thing of all entries together, and behind it the
-- next thing of all. A column has 128 places; the first are used, as many as the count says. Here c is where the count
-- stands, and k is the number of an entry, 0 for the first.
use Rattle.std.specs.Prelude.{Bool, List, [], ◌∷◌, ◌++◌, ℕ, zero, suc, ◌+◌, ◌*◌, min, leb, get_or}
use Rattle.numbers.specs.Number.{get}
use Rattle.views.specs.declared.View.{View}
use Rattle.views.specs.Limits.{max_views, max_ordered}
use Rattle.views.specs.Sizes.{view_size, number_size}
use Rattle.views.specs.Sets.{both}
use Rattle.wire.specs.Reader.{views_in}
use Rattle.rules.specs.Data.{Message, Entry, entry, Item, item}
use Rattle.rules.specs.Member.{every}
use Rattle.slots.specs.Slots.{message_by, fits_kind}

-- f of every number below n
unfoldable pub firsts : {A : Type 0} → (ℕ → A) → ℕ → List A
firsts f zero = []
firsts f (suc n) = firsts f n ++ (f n ∷ [])

-- ---- an inward list: senders of 1 byte, entry numbers of 8

-- where the columns stand behind the count
abbrev pub inward_senders : ℕ
inward_senders = 1

abbrev pub inward_numbers : ℕ
inward_numbers = inward_senders + max_ordered

abbrev pub inward_size : ℕ
inward_size = inward_numbers + number_size * max_ordered

-- and what they have of item k
abbrev pub item_sender : ℕ → ℕ → ℕ
item_sender c k = c + inward_senders + k

abbrev pub item_number : ℕ → ℕ → ℕ
item_number c k = c + inward_numbers + number_size * k

abbrev pub item_in : List ℕ → ℕ → ℕ → Item ℕ
item_in b c k = item (get_or b (item_sender c k) 0) (get b (item_number c k) number_size)

abbrev pub items_in : List ℕ → ℕ → List (Item ℕ)
items_in b c = firsts (item_in b c) (get_or b c 0)

-- ---- an order: senders, kinds and counts of 1 byte, numbers of 8, and 32 places for views of 5

-- where the columns stand behind the count
abbrev pub order_senders : ℕ
order_senders = 1

abbrev pub order_kinds : ℕ
order_kinds = order_senders + max_ordered

abbrev pub order_counts : ℕ
order_counts = order_kinds + max_ordered

abbrev pub order_numbers : ℕ
order_numbers = order_counts + max_ordered

abbrev pub order_infos : ℕ
order_infos = order_numbers + number_size * max_ordered

abbrev pub order_size : ℕ
order_size = order_infos + view_size * max_views * max_ordered

-- and what they have of entry k
abbrev pub order_sender : ℕ → ℕ → ℕ
order_sender c k = c + order_senders + k

abbrev pub order_kind : ℕ → ℕ → ℕ
order_kind c k = c + order_kinds + k

-- of an info its number of views, of a told its count
abbrev pub order_count : ℕ → ℕ → ℕ
order_count c k = c + order_counts + k

-- of a client message
abbrev pub order_number : ℕ → ℕ → ℕ
order_number c k = c + order_numbers + number_size * k

abbrev pub order_views : ℕ → ℕ → ℕ
order_views c k = c + order_infos + view_size * max_views * k

unfoldable pub order_info : List ℕ → ℕ → ℕ → List View
order_info b c k = views_in b (order_views c k) (min (get_or b (order_count c k) 0) max_views)

unfoldable pub order_message : List ℕ → ℕ → ℕ → Message
order_message b c k =
    message_by (get_or b (order_kind c k) 0) (get b (order_number c k) number_size) (order_info b c k)
    (get_or b (order_count c k) 0)

abbrev pub order_entry : List ℕ → ℕ → ℕ → Entry
order_entry b c k = entry (get_or b (order_sender c k) 0) (order_message b c k)

abbrev pub entries_ordered : List ℕ → ℕ → List Entry
entries_ordered b c = firsts (order_entry b c) (get_or b c 0)

-- its count within its places, and every entry of known kind, an info's views in theirs
unfoldable pub order_fits : List ℕ → ℕ → Bool
order_fits b c =
    both (leb (get_or b c 0) max_ordered)
    (every (get_or b c 0) (λ k. fits_kind (get_or b (order_kind c k) 0) (get_or b (order_count c k) 0)))
