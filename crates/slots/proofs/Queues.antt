-- Queues in bytes: a push appends, a pop drops the first. Each changes its count and its own slots alone.
use mathlib.Core.Path.{◌≡◌, sym, ap, ap₂, ◌∙◌}
use mathlib.Core.Bool.{true}
use mathlib.Core.Logic.{inr}
use mathlib.Core.List.{List, [], ◌∷◌, ◌++◌}
use Prim.Native.Nat.{ℕ, suc, ◌+◌, ◌-◌, ◌*◌, ◌≤◌, ◌<◌}
use native.Mathlib.Omega.{arith}
use lib.ListN.{length, get_or, set, drop}
use lib.Seq.{get_or-set_same}
use Rattle.numbers.proofs.NumberLaws.{Same}
use Rattle.wire.proofs.TripMessages.{both-second}
use Rattle.rules.specs.Data.{Message, Entry, entry}
use Rattle.slots.specs.Slots.{slot_size, entries_in, queue_in, slot_fits, slots_fit}
use Rattle.slots.specs.Changes.{store_message, pushed, moved, popped}
use Rattle.slots.proofs.Same.{entry-same, slot_same, entries-same, slots_same}
use Rattle.slots.proofs.Outside.{Changed, QueueChanged, apart-same, queue-changed, set-changed, copy-changed, copy-same, store_message-changed}
use Rattle.slots.proofs.Stored.{MessageFits, entry-stored, slot-stored}
use Rattle.slots.proofs.Lists.{entries-snoc, slots-snoc}

-- ---- a push

module _ (b : List ℕ) (c s q : ℕ) (m : Message) (below : c < s) (fits : MessageFits m) (room : s + slot_size * (get_or b c 0 + 1) ≤ length b) where
  abbrev slot : ℕ
  slot = s + slot_size * get_or b c 0

  abbrev wrote : List ℕ
  wrote = store_message b slot q m

  push-slot : Changed b wrote slot slot_size
  push-slot = store_message-changed b slot q m fits.few (omega arith)

  push-set : Changed wrote (pushed b c s q m) c 1
  unfolding pushed
  push-set = set-changed wrote c (get_or b c 0 + 1)

  pub push-changed : QueueChanged b (pushed b c s q m) c (s + slot_size * get_or b c 0) slot_size
  push-changed = queue-changed push-slot push-set

  pub push-count : get_or (pushed b c s q m) c 0 ≡ get_or b c 0 + 1
  unfolding pushed
  push-count = get_or-set_same wrote c (get_or b c 0 + 1) 0 (omega (arith, push-slot.long))

  push-old : Same (pushed b c s q m) s b s (slot_size * get_or b c 0)
  push-old j h = push-set.past (s + j) (omega arith) ∙ push-slot.below (s + j) (omega arith)

  push-new : Same (pushed b c s q m) slot wrote slot slot_size
  push-new = apart-same push-set slot slot_size (inr (omega arith))

  pub push-appends : queue_in (pushed b c s q m) c s ≡ queue_in b c s ++ (entry q m ∷ [])
  push-appends =
      rw push-count
      (entries-snoc (pushed b c s q m) s (get_or b c 0)
      ∙ ap₂ (λ (l : List Entry) (e : Entry). l ++ (e ∷ []))
      (entries-same (pushed b c s q m) b s s (get_or b c 0) push-old)
      (entry-same (pushed b c s q m) wrote slot slot push-new ∙ entry-stored b slot q m fits (omega arith)))

  pub push-fits : slots_fit b s (get_or b c 0) ≡ true → slots_fit (pushed b c s q m) s (get_or (pushed b c s q m) c 0) ≡ true
  push-fits e =
      rw push-count
      (slots-snoc (pushed b c s q m) s (get_or b c 0)
      (slots_same (pushed b c s q m) b s s (get_or b c 0) push-old ∙ e)
      (slot_same (pushed b c s q m) wrote slot slot push-new ∙ slot-stored b slot q m fits.few (omega arith)))

-- ---- a queue of one message

module _ (b : List ℕ) (c s q : ℕ) (m : Message) (below : c < s) (fits : MessageFits m) (room : s + slot_size ≤ length b) where
  abbrev one : List ℕ
  one = set (store_message b s q m) c 1

  one-slot : Changed b (store_message b s q m) s slot_size
  one-slot = store_message-changed b s q m fits.few room

  one_same : Same one s (store_message b s q m) s slot_size
  one_same = apart-same (set-changed (store_message b s q m) c 1) s slot_size (inr (omega arith))

  pub one-changed : QueueChanged b (set (store_message b s q m) c 1) c s slot_size
  one-changed = queue-changed one-slot (set-changed (store_message b s q m) c 1)

  pub one-count : get_or (set (store_message b s q m) c 1) c 0 ≡ 1
  one-count = get_or-set_same (store_message b s q m) c 1 0 (omega (arith, one-slot.long))

  pub one-message : entries_in (set (store_message b s q m) c 1) s 1 ≡ entry q m ∷ []
  unfolding entries_in
  one-message = ap (λ (e : Entry). e ∷ []) (entry-same one (store_message b s q m) s s one_same ∙ entry-stored b s q m fits room)

  pub one-fits : slots_fit (set (store_message b s q m) c 1) s 1 ≡ true
  unfolding slots_fit
  one-fits = rw (slot_same one (store_message b s q m) s s one_same, slot-stored b s q m fits.few room)

-- ---- a pop

-- without its first, a queue begins a slot later
entries-rest : (b : List ℕ) (s n : ℕ) → 0 < n → drop 1 (entries_in b s n) ≡ entries_in b (s + slot_size) (n - 1)
unfolding entries_in
entries-rest b s n h = let e : n ≡ suc (n - 1) = omega arith in ap (λ (k : ℕ). drop 1 (entries_in b s k)) e

slots-rest : (b : List ℕ) (s n : ℕ) → 0 < n → slots_fit b s n ≡ true → slots_fit b (s + slot_size) (n - 1) ≡ true
unfolding slots_fit
slots-rest b s n h e =
    let k : n ≡ suc (n - 1) = omega arith in
    both-second (slot_fits b s) (slots_fit b (s + slot_size) (n - 1)) (sym (ap (slots_fit b s) k) ∙ e)

module _ (b : List ℕ) (c s : ℕ) (below : c < s) (some : 0 < get_or b c 0) (room : s + slot_size * get_or b c 0 ≤ length b) where
  abbrev left : ℕ
  left = get_or b c 0 - 1

  abbrev down : List ℕ
  down = moved b (s + slot_size) s (slot_size * left)

  pop-slots : Changed b down s (slot_size * left)
  pop-slots = copy-changed b b (s + slot_size) s (slot_size * left) (omega arith) (omega arith)

  pop-set : Changed down (popped b c s) c 1
  unfolding popped
  pop-set = set-changed down c left

  pub pop-changed : QueueChanged b (popped b c s) c s (slot_size * (get_or b c 0 - 1))
  pop-changed = queue-changed pop-slots pop-set

  pub pop-count : get_or (popped b c s) c 0 ≡ get_or b c 0 - 1
  unfolding popped
  pop-count = get_or-set_same down c left 0 (omega (arith, pop-slots.long))

  pop-same : Same (popped b c s) s b (s + slot_size) (slot_size * left)
  pop-same j h = pop-set.past (s + j) (omega arith) ∙ copy-same b b (s + slot_size) s (slot_size * left) (omega arith) (omega arith) j h

  pub pop-drops : queue_in (popped b c s) c s ≡ drop 1 (queue_in b c s)
  pop-drops = rw pop-count (entries-same (popped b c s) b s (s + slot_size) left pop-same ∙ sym (entries-rest b s (get_or b c 0) some))

  pub pop-fits : slots_fit b s (get_or b c 0) ≡ true → slots_fit (popped b c s) s (get_or (popped b c s) c 0) ≡ true
  pop-fits e = rw pop-count (slots_same (popped b c s) b s (s + slot_size) left pop-same ∙ slots-rest b s (get_or b c 0) some e)
