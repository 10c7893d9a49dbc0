-- A message read from bytes is within its widths, and one that is sound in a group tells a count that is a byte.
use mathlib.Core.Path.{◌≡◌}
use mathlib.Core.Bool.{Bool, true, false, cond}
use mathlib.Core.List.{List, [], ◌∷◌}
use Prim.Native.Nat.{ℕ, zero, suc, ◌+◌, ◌^◌, ◌≤◌, ◌<◌, min}
use native.Mathlib.Omega.{arith}
use lib.Dec.{eqb}
use lib.ListN.{length, get_or}
use Rattle.numbers.specs.Number.{get}
use Rattle.views.specs.declared.View.{View}
use Rattle.views.specs.Limits.{max_views}
use Rattle.views.specs.Sizes.{number_size}
use Rattle.views.specs.Lists.{no_view}
use Rattle.wire.specs.Format.{client_kind, info_kind, registered_kind, told_kind}
use Rattle.wire.proofs.ReaderLaws.{length-views_in}
use Rattle.wire.proofs.TripViews.{EachFits, ViewFits, AreBytes, get-fits, views-fit}
use Rattle.rules.specs.Data.{Member, Message, client, info, registered, told, entry, Group}
use Rattle.rules.specs.Alone.{views_of, info_of}
use Rattle.rules.proofs.Sound.{EntrySound, told-sound}
use Rattle.slots.specs.Slots.{slot_number, slot_views, kind_in, number_in, count_in, info_in, message_by, message_in}
use Rattle.slots.specs.Columns.{order_kind, order_count, order_number, order_views, order_info, order_message}
use Rattle.slots.proofs.Stored.{MessageFits, client-fits, info-fits, registered-fits, told-fits, told_of}
use Rattle.slots.proofs.BytesKept.{SetsAreBytes}

-- ---- in its widths

pub record InWidths (m : Message) : Type 0 where
  pub message : MessageFits m
  pub sets : SetsAreBytes (views_of m)

info-widths : (l : List View) → length l ≤ max_views → EachFits l → InWidths (info_of l)
info-widths [] few f =
    let each : EachFits (no_view ∷ []) = λ j. elim j as (λ k. ViewFits (get_or (no_view ∷ []) k no_view)) [ zero ↦ f 0 | suc k ↦ f k ] in
    record { message = info-fits no_view [] (omega arith) (λ j. (each j).id); sets = λ j. (each j).set }
info-widths (v ∷ l) few f = record { message = info-fits v l (omega arith) (λ j. (f j).id); sets = λ j. (f j).set }

either : (c : Bool) (m k : Message) → InWidths m → InWidths k → InWidths (cond c m k)
either true m k f g = f
either false m k f g = g

-- of any kind, from its number, its views and its count
by-widths : (kind x : ℕ) (l : List View) (k : ℕ) → x < 256 ^ 8 → length l ≤ max_views → EachFits l → k < 256 ^ 8 → InWidths (message_by kind x l k)
by-widths kind x l k number few each count =
    either (eqb kind client_kind) _ _ (record { message = client-fits x number; sets = λ j. omega arith })
    (either (eqb kind info_kind) _ _ (info-widths l few each)
    (either (eqb kind registered_kind) _ _ (record { message = registered-fits; sets = λ j. omega arith })
    (record { message = told-fits k count; sets = λ j. omega arith })))

-- in a slot
pub message-widths : (b : List ℕ) (at : ℕ) → AreBytes b → InWidths (message_in b at)
unfolding message_in info_in
message-widths b at y =
    let x : number_in b at < 256 ^ 8 = get-fits b (at + slot_number) number_size y in
    let n = min (count_in b at) max_views in
    by-widths (kind_in b at) (number_in b at) (info_in b at) (number_in b at) x
    (omega (arith, length-views_in b (at + slot_views) n)) (views-fit b (at + slot_views) n y) x

-- in an order
pub order-widths : (b : List ℕ) (c k : ℕ) → AreBytes b → InWidths (order_message b c k)
unfolding order_message order_info
order-widths b c k y =
    let n = min (get_or b (order_count c k) 0) max_views in
    by-widths (get_or b (order_kind c k) 0) (get b (order_number c k) number_size) (order_info b c k) (get_or b (order_count c k) 0)
    (get-fits b (order_number c k) number_size y) (omega (arith, length-views_in b (order_views c k) n)) (views-fit b (order_views c k) n y) (omega (arith, y (order_count c k)))

-- ---- the count of a told

pub told-byte : (s : Group) (q : Member) (m : Message) → EntrySound s (entry q m) → told_of m < 256
told-byte s q (client x) e = omega arith
told-byte s q (info v l) e = omega arith
told-byte s q registered e = omega arith
told-byte s q (told k) e = omega (arith, (told-sound e).1)

-- it is the number in its slot
pub told-number : (b : List ℕ) (at : ℕ) → told_of (message_in b at) < 256 → kind_in b at ≡ told_kind → number_in b at < 256
unfolding message_in
told-number b at h e = rw e at h
