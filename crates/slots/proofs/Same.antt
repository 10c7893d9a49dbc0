-- What is read depends on its own bytes alone: the same bytes there, the same view or entry here.
use mathlib.Core.Path.{◌≡◌, refl, ap₂}
use mathlib.Core.Bool.{Bool}
use mathlib.Core.List.{List, ◌∷◌}
use Prim.Native.Nat.{ℕ, zero, suc, ◌+◌, ◌*◌, ◌≤◌, ◌<◌, min}
use native.Mathlib.Nat.{add-zero}
use native.Mathlib.Omega.{arith}
use lib.ListN.{get_or}
use Rattle.numbers.proofs.NumberLaws.{Same, get-same}
use Rattle.views.specs.declared.View.{View}
use Rattle.views.specs.Limits.{max_views}
use Rattle.views.specs.Sets.{both}
use Rattle.wire.specs.Reader.{view_in, views_in}
use Rattle.rules.specs.Data.{Entry, entry}
use Rattle.slots.specs.Slots.{slot_size, number_in, count_in, info_in, message_in, entry_in, entries_in, slot_fits, slots_fit}

module _ (b c : List ℕ) where
  -- a part of the same bytes
  pub same-part : (at to n j k : ℕ) → j + k ≤ n → Same b at c to n → Same b (at + j) c (to + j) k
  same-part at to n j k h s i l =
      let e : at + j + i ≡ at + (j + i) = omega arith in
      let f : to + j + i ≡ to + (j + i) = omega arith in
      rw (e, f) (s (j + i) (omega arith))

  pub same-front : (at to n k : ℕ) → k ≤ n → Same b at c to n → Same b at c to k
  same-front at to n k h s j l = s j (omega arith)

  pub byte-same : (at to n : ℕ) → 0 < n → Same b at c to n → get_or b at 0 ≡ get_or c to 0
  byte-same at to n h s = rw (add-zero at, add-zero to) at (s 0 h)

  -- ---- views

  pub view-same : (at to : ℕ) → Same b at c to 5 → view_in b at ≡ view_in c to
  view-same at to s = rw (get-same b c at to 4 (same-front at to 5 4 (omega arith) s), s 4 (omega arith))

  pub views_same : (at to n : ℕ) → Same b at c to (5 * n) → views_in b at n ≡ views_in c to n
  unfolding views_in
  views_same at to zero s = refl
  views_same at to (suc n) s =
      ap₂ (λ (v : View) (l : List View). v ∷ l)
      (view-same at to (same-front at to (5 * suc n) 5 (omega arith) s))
      (views_same (at + 5) (to + 5) n (same-part at to (5 * suc n) 5 (5 * n) (omega arith) s))

  -- ---- a slot

  module _ (at to : ℕ) (s : Same b at c to slot_size) where
    pub number_same : number_in b at ≡ number_in c to
    number_same = get-same b c (at + 2) (to + 2) 8 (same-part at to slot_size 2 8 (omega arith) s)

    pub info-same : info_in b at ≡ info_in c to
    unfolding info_in
    info-same =
        rw (s 10 (omega arith))
        (views_same (at + 11) (to + 11) (min (count_in c to) max_views) (same-part at to slot_size 11 (5 * min (count_in c to) max_views) (omega arith) s))

    pub message-same : message_in b at ≡ message_in c to
    unfolding message_in
    message-same = rw (s 1 (omega arith), number_same, info-same)

    pub entry-same : entry_in b at ≡ entry_in c to
    entry-same = ap₂ entry (byte-same at to slot_size (omega arith) s) message-same

    pub slot_same : slot_fits b at ≡ slot_fits c to
    unfolding slot_fits
    slot_same = rw (s 1 (omega arith), s 10 (omega arith))

  -- ---- n slots

  pub entries-same : (at to n : ℕ) → Same b at c to (slot_size * n) → entries_in b at n ≡ entries_in c to n
  unfolding entries_in
  entries-same at to zero s = refl
  entries-same at to (suc n) s =
      ap₂ (λ (e : Entry) (l : List Entry). e ∷ l)
      (entry-same at to (same-front at to (slot_size * suc n) slot_size (omega arith) s))
      (entries-same (at + slot_size) (to + slot_size) n (same-part at to (slot_size * suc n) slot_size (slot_size * n) (omega arith) s))

  pub slots_same : (at to n : ℕ) → Same b at c to (slot_size * n) → slots_fit b at n ≡ slots_fit c to n
  unfolding slots_fit
  slots_same at to zero s = refl
  slots_same at to (suc n) s =
      ap₂ (λ (x y : Bool). both x y)
      (slot_same at to (same-front at to (slot_size * suc n) slot_size (omega arith) s))
      (slots_same (at + slot_size) (to + slot_size) n (same-part at to (slot_size * suc n) slot_size (slot_size * n) (omega arith) s))
