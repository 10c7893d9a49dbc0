-- The queues of the views made stand apart from each other and from the head: a change of one leaves every other as it was.
use mathlib.Core.Path.{◌≡◌, ◌∙◌}
use mathlib.Core.Bool.{true}
use mathlib.Core.Logic.{◌≢◌, inl, inr, ⊎_elim}
use mathlib.Core.List.{List}
use Prim.Native.Nat.{ℕ, ◌+◌, ◌*◌, ◌≤◌, ◌<◌}
use native.Mathlib.Decide.{dec_lt, ℕ_discrete}
use native.Mathlib.Omega.{arith}
use lib.ListN.{get_or}
use Rattle.numbers.proofs.NumberLaws.{Same}
use Rattle.views.specs.Limits.{max_members}
use Rattle.slots.specs.Slots.{slot_size, queue_in, slots_fit}
use Rattle.slots.specs.Columns.{order_size, entries_ordered}
use Rattle.slots.proofs.Same.{byte-same}
use Rattle.slots.proofs.Orders.{kind-kept, views-kept, order-kept}
use Rattle.slots.proofs.Outside.{Changed, Apart, apart-same, entries-apart, slots_apart}
use Rattle.group_bytes.specs.Places.{waiting_size, order_at, waiting_at}
use Rattle.group_bytes.proofs.RangesLaws.{Queued, Columned}

-- ---- places

pub orders-apart : (i j : ℕ) → j ≢ i → Apart (order_at i) order_size (order_at j) order_size
orders-apart i j n = elim (dec_lt j i) [ yes h ↦ inl (omega arith) | no h ↦ inr (omega arith) ]

pub waiting-off-order : (i j p : ℕ) → p < max_members → Apart (order_at i) order_size (waiting_at j p) waiting_size
waiting-off-order i j p h = elim (dec_lt j i) [ yes k ↦ inl (omega arith) | no k ↦ inr (omega arith) ]

pub order-off-waiting : (i p j : ℕ) → p < max_members → Apart (waiting_at i p) waiting_size (order_at j) order_size
order-off-waiting i p j h = elim (dec_lt i j) [ yes k ↦ inr (omega arith) | no k ↦ inl (omega arith) ]

pub waiting-apart : (i p j q : ℕ) → p < max_members → q < max_members → ¬ ((q ≡ p) × (j ≡ i)) → Apart (waiting_at i p) waiting_size (waiting_at j q) waiting_size
waiting-apart i p j q h k n =
    elim (ℕ_discrete j i) [
      | yes e ↦ elim (ℕ_discrete q p) [
        | yes f ↦ absurd (n (f, e))
        | no f ↦ elim (dec_lt q p) [ yes l ↦ inl (omega arith) | no l ↦ inr (omega arith) ]
      ]
      | no e ↦ elim (dec_lt j i) [ yes l ↦ inl (omega arith) | no l ↦ inr (omega arith) ]
    ]

-- ---- a queue apart from a change

module _ {q d : List ℕ} {at n : ℕ} (x : Changed q d at n) (limit c : ℕ) (k : Queued q limit c) (a : Apart at n c (1 + slot_size * limit)) where
  part : (from m : ℕ) → c ≤ from → from + m ≤ c + (1 + slot_size * limit) → Apart at n from m
  part from m l h = ⊎_elim (λ (b : c + (1 + slot_size * limit) ≤ at). inl (omega arith)) (λ (b : at + n ≤ c). inr (omega arith)) a

  pub count-still : get_or d c 0 ≡ get_or q c 0
  count-still = byte-same d q c c 1 (omega arith) (apart-same x c 1 (part c 1 (omega arith) (omega arith)))

  pub queue-still : queue_in d c (c + 1) ≡ queue_in q c (c + 1)
  queue-still = rw count-still (entries-apart x (c + 1) (get_or q c 0) (part (c + 1) (slot_size * get_or q c 0) (omega arith) (omega (arith, k.few))))

  slots-still : slots_fit d (c + 1) (get_or d c 0) ≡ true
  slots-still = rw count-still (slots_apart x (c + 1) (get_or q c 0) (part (c + 1) (slot_size * get_or q c 0) (omega arith) (omega (arith, k.few))) ∙ k.slots)

  pub queued-still : Queued d limit c
  queued-still = record { few = rw count-still k.few; slots = slots-still }

-- ---- an order apart from a change

module _ {q d : List ℕ} {at n : ℕ} (x : Changed q d at n) (c : ℕ) (o : Columned q c) (a : Apart at n c order_size) where
  same : Same d c q c order_size
  same = apart-same x c order_size a

  pub ordered-still : entries_ordered d c ≡ entries_ordered q c
  ordered-still = order-kept q d c same o.few

  pub columned-still : Columned d c
  columned-still =
      let count : get_or d c 0 ≡ get_or q c 0 = byte-same d q c c order_size (omega arith) same in
      record {
        few = rw count o.few;
        kinds = λ k h.
            let l : k < get_or q c 0 = omega (arith, count) in
            let low : k < 128 = omega (arith, o.few) in
            rw (kind-kept q d c same k low, views-kept q d c same k low) (o.kinds k l);
      }
