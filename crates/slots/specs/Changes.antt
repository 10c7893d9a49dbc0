-- What the steps do to queues in bytes.
use Rattle.std.specs.Prelude.{List, ◌∷◌, ℕ, ◌+◌, ◌-◌, ◌*◌, length, get_or, set, drop}
use Rattle.std.proofs.Math.Seq.{paste}
use Rattle.numbers.specs.Number.{put}
use Rattle.views.specs.declared.View.{View}
use Rattle.views.specs.Sizes.{number_size}
use Rattle.wire.specs.Format.{client_kind, info_kind, registered_kind, told_kind}
use Rattle.rules.specs.Data.{Message, client, info, registered, told}
use Rattle.slots.specs.Slots.{slot_size, slot_kind, slot_number, slot_count, slot_views}
use Rattle.slots.specs.Columns.{item_sender, item_number, order_sender, order_kind, order_count, order_number}
use Rattle.slots.specs.Columns.{order_views}
use Rattle.wire.specs.Writer.{store_views}

-- a message from q with a kind and a number, stored in the slot at a place
unfoldable pub store_short : List ℕ → ℕ → ℕ → ℕ → ℕ → List ℕ
store_short b at q kind x = put (set (set b at q) (at + slot_kind) kind) (at + slot_number) number_size x

-- an info from q with these views, settled first
unfoldable pub store_info : List ℕ → ℕ → ℕ → List View → List ℕ
store_info b at q l =
    store_views (set (set (set b at q) (at + slot_kind) info_kind) (at + slot_count) (length l)) (at + slot_views) l

-- any message of q
abbrev pub store_message : List ℕ → ℕ → ℕ → Message → List ℕ
store_message b at q (client x) = store_short b at q client_kind x
store_message b at q (info v l) = store_info b at q (v ∷ l)
store_message b at q registered = store_short b at q registered_kind 0
store_message b at q (told k) = store_short b at q told_kind k

-- the queue at c, s gains a message of q at its end
unfoldable pub pushed : List ℕ → ℕ → ℕ → ℕ → Message → List ℕ
pushed b c s q m = set (store_message b (s + slot_size * get_or b c 0) q m) c (get_or b c 0 + 1)

-- n bytes at `from` go to `to`
abbrev pub moved : List ℕ → ℕ → ℕ → ℕ → List ℕ
moved b from to n = paste b to (drop from b) n

-- the first entry of the queue at c, s goes
unfoldable pub popped : List ℕ → ℕ → ℕ → List ℕ
popped b c s = set (moved b (s + slot_size) s (slot_size * (get_or b c 0 - 1))) c (get_or b c 0 - 1)

-- the inward list at c gains an item at its end
unfoldable pub gained : List ℕ → ℕ → ℕ → ℕ → List ℕ
gained b c q x =
    let k = get_or b c 0 in set (put (set b (item_sender c k) q) (item_number c k) number_size x) c (k + 1)

-- entry k of the order at c is a message of q: its sender and its kind are written, and what its kind has
unfoldable pub store_head : List ℕ → ℕ → ℕ → ℕ → ℕ → List ℕ
store_head b c k q kind = set (set b (order_sender c k) q) (order_kind c k) kind

unfoldable pub store_ordered : List ℕ → ℕ → ℕ → ℕ → Message → List ℕ
store_ordered b c k q (client x) = put (store_head b c k q client_kind) (order_number c k) number_size x
store_ordered b c k q (info v l) =
    store_views (set (store_head b c k q info_kind) (order_count c k) (length (v ∷ l))) (order_views c k) (v ∷ l)
store_ordered b c k q registered = store_head b c k q registered_kind
store_ordered b c k q (told x) = set (store_head b c k q told_kind) (order_count c k) x

-- the order at c gains a message of q at its end
unfoldable pub ordered : List ℕ → ℕ → ℕ → Message → List ℕ
ordered b c q m = set (store_ordered b c (get_or b c 0) q m) c (get_or b c 0 + 1)
