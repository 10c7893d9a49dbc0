-- A slot copied to the end of a queue, from another range or within one: the queue gains that entry, and nothing else changes.
use mathlib.Core.Path.{◌≡◌, ap₂, ◌∙◌}
use mathlib.Core.Bool.{true}
use mathlib.Core.List.{List, [], ◌∷◌, ◌++◌}
use Prim.Native.Nat.{ℕ, ◌+◌, ◌*◌, ◌≤◌, ◌<◌}
use native.Mathlib.Omega.{arith}
use lib.ListN.{length, get_or, drop}
use lib.Seq.{paste, get_or-set_same}
use Rattle.numbers.proofs.NumberLaws.{Same}
use Rattle.wire.proofs.TripViews.{AreBytes}
use Rattle.rules.specs.Data.{Entry}
use Rattle.slots.specs.Slots.{slot_size, entry_in, queue_in, slot_fits, slots_fit}
use Rattle.slots.proofs.Same.{entry-same, slot_same, entries-same, slots_same}
use Rattle.slots.proofs.Outside.{Changed, QueueChanged, queue-changed, set-changed, copy-changed, copy-same}
use Rattle.slots.proofs.Lists.{entries-snoc, slots-snoc}
use Rattle.slots.proofs.BytesKept.{set-bytes, paste_bytes, drop-bytes}
use Rattle.group_bytes.specs.Moves.{slot_added}

module _ (q : List ℕ) (c : ℕ) (from : List ℕ) (at : ℕ) (inside : at + slot_size ≤ length from) (room : c + 1 + slot_size * (get_or q c 0 + 1) ≤ length q) where
  abbrev slot : ℕ
  slot = c + 1 + slot_size * get_or q c 0

  abbrev copied : List ℕ
  copied = paste q slot (drop at from) slot_size

  add-slot : Changed q copied slot slot_size
  add-slot = copy-changed q from at slot slot_size inside (omega arith)

  add-set : Changed copied (slot_added q c from at) c 1
  unfolding slot_added
  add-set = set-changed copied c (get_or q c 0 + 1)

  pub add-changed : QueueChanged q (slot_added q c from at) c (c + 1 + slot_size * get_or q c 0) slot_size
  add-changed = queue-changed add-slot add-set

  pub add-count : get_or (slot_added q c from at) c 0 ≡ get_or q c 0 + 1
  unfolding slot_added
  add-count = get_or-set_same copied c (get_or q c 0 + 1) 0 (omega (arith, add-slot.long))

  add-old : Same (slot_added q c from at) (c + 1) q (c + 1) (slot_size * get_or q c 0)
  add-old j h = add-set.past (c + 1 + j) (omega arith) ∙ add-slot.below (c + 1 + j) (omega arith)

  add-new : Same (slot_added q c from at) slot from at slot_size
  add-new j h = add-set.past (slot + j) (omega arith) ∙ copy-same q from at slot slot_size inside (omega arith) j h

  pub add-appends : queue_in (slot_added q c from at) c (c + 1) ≡ queue_in q c (c + 1) ++ (entry_in from at ∷ [])
  add-appends =
      rw add-count
      (entries-snoc (slot_added q c from at) (c + 1) (get_or q c 0)
      ∙ ap₂ (λ (l : List Entry) (e : Entry). l ++ (e ∷ []))
      (entries-same (slot_added q c from at) q (c + 1) (c + 1) (get_or q c 0) add-old)
      (entry-same (slot_added q c from at) from slot at add-new))

  pub add-fits : slots_fit q (c + 1) (get_or q c 0) ≡ true → slot_fits from at ≡ true
      → slots_fit (slot_added q c from at) (c + 1) (get_or (slot_added q c from at) c 0) ≡ true
  add-fits e f =
      rw add-count
      (slots-snoc (slot_added q c from at) (c + 1) (get_or q c 0)
      (slots_same (slot_added q c from at) q (c + 1) (c + 1) (get_or q c 0) add-old ∙ e)
      (slot_same (slot_added q c from at) from slot at add-new ∙ f))

pub add-bytes : (q : List ℕ) (c : ℕ) (from : List ℕ) (at : ℕ) → AreBytes q → AreBytes from → get_or q c 0 < 255 → AreBytes (slot_added q c from at)
unfolding slot_added
add-bytes q c from at y z few =
    let slot = c + 1 + slot_size * get_or q c 0 in
    set-bytes (paste q slot (drop at from) slot_size) c (get_or q c 0 + 1) (paste_bytes q slot (drop at from) slot_size y (drop-bytes at from z)) (omega arith)
