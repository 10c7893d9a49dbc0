-- The message in a slot or an order: its parts as they are loaded, and of a slot the frame that the writer takes.
use Rattle.std.specs.Prelude.{cond, List, ℕ, ◌+◌, eqb, get_or}
use Rattle.numbers.specs.Number.{get}
use Rattle.views.specs.Sizes.{number_size}
use Rattle.views.specs.Lists.{placed}
use Rattle.wire.specs.declared.Frame.{Frame}
use Rattle.wire.specs.declared.Message.{Message as Carried}
use Rattle.wire.specs.Reader.{views_in, message_of as carried_of}
use Rattle.wire.specs.Format.{info_kind, told_kind}
use Rattle.slots.specs.Slots.{kind_in, number_in, count_in, slot_views}
use Rattle.slots.specs.Columns.{order_kind, order_count, order_number}

-- the views of an info, none of any other message
abbrev pub framed : List ℕ → ℕ → ℕ
framed b at = cond (eqb (kind_in b at) info_kind) (count_in b at) 0

-- the message without its views
abbrev pub carried_at : List ℕ → ℕ → Carried
carried_at b at = carried_of (kind_in b at) (number_in b at)

unfoldable pub frame_at : List ℕ → ℕ → ℕ → Frame
frame_at b at g = record {
  view = record { 0 = g };
  message = carried_at b at;
  views = placed (views_in b (at + slot_views) (framed b at));
}

-- ---- entry k of the order at c

abbrev pub order_framed : List ℕ → ℕ → ℕ → ℕ
order_framed b c k = cond (eqb (get_or b (order_kind c k) 0) info_kind) (get_or b (order_count c k) 0) 0

abbrev pub order_carried : List ℕ → ℕ → ℕ → Carried
order_carried b c k = let kind = get_or b (order_kind c k) 0 in
    carried_of kind (cond (eqb kind told_kind) (get_or b (order_count c k) 0) (get b (order_number c k) number_size))
