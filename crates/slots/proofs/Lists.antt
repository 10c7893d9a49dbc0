-- Entries and slots one at a time: how many there are, the first and the last one.
use mathlib.Core.Path.{◌≡◌, refl, ap}
use mathlib.Core.Bool.{true}
use mathlib.Core.List.{List, [], ◌∷◌, ◌++◌}
use Prim.Native.Nat.{ℕ, zero, suc, ◌+◌, ◌*◌, ◌<◌}
use native.Mathlib.Nat.{add-zero}
use native.Mathlib.Omega.{arith}
use lib.ListN.{length}
use Rattle.wire.proofs.TripMessages.{both_first, both-second}
use Rattle.rules.specs.Data.{Entry}
use Rattle.slots.specs.Slots.{slot_size, entry_in, entries_in, slot_fits, slots_fit}

-- ---- entries

pub length-entries : (b : List ℕ) (at n : ℕ) → length (entries_in b at n) ≡ n
unfolding entries_in
length-entries b at zero = refl
length-entries b at (suc n) = ap suc (length-entries b (at + slot_size) n)

pub entries-snoc : (b : List ℕ) (at n : ℕ) → entries_in b at (n + 1) ≡ entries_in b at n ++ (entry_in b (at + slot_size * n) ∷ [])
unfolding entries_in
entries-snoc b at zero = rw (add-zero at)
entries-snoc b at (suc n) =
    let e : suc n + 1 ≡ suc (n + 1) = omega arith in
    let f : at + slot_size * suc n ≡ at + slot_size + slot_size * n = omega arith in
    rw (e, f) (ap (λ (l : List Entry). entry_in b at ∷ l) (entries-snoc b (at + slot_size) n))

-- ---- slots that fit

pub slots-snoc : (b : List ℕ) (at n : ℕ) → slots_fit b at n ≡ true → slot_fits b (at + slot_size * n) ≡ true → slots_fit b at (n + 1) ≡ true
unfolding slots_fit
slots-snoc b at zero e f = let z : at + slot_size * 0 ≡ at = omega arith in rw (rw z at f)
slots-snoc b at (suc n) e f =
    let p : suc n + 1 ≡ suc (n + 1) = omega arith in
    let q : at + slot_size * suc n ≡ at + slot_size + slot_size * n = omega arith in
    rw (p, both_first (slot_fits b at) (slots_fit b (at + slot_size) n) e)
    (slots-snoc b (at + slot_size) n (both-second (slot_fits b at) (slots_fit b (at + slot_size) n) e) (rw q at f))

pub slots-first : (b : List ℕ) (at n : ℕ) → 0 < n → slots_fit b at n ≡ true → slot_fits b at ≡ true
unfolding slots_fit
slots-first b at zero h e = absurd (omega arith)
slots-first b at (suc n) h e = both_first (slot_fits b at) (slots_fit b (at + slot_size) n) e

pub slots_at : (b : List ℕ) (at n k : ℕ) → k < n → slots_fit b at n ≡ true → slot_fits b (at + slot_size * k) ≡ true
unfolding slots_fit
slots_at b at zero k h e = absurd (omega arith)
slots_at b at (suc n) zero h e = rw (add-zero at) (slots-first b at (suc n) h e)
slots_at b at (suc n) (suc k) h e =
    let p : at + slot_size * suc k ≡ at + slot_size + slot_size * k = omega arith in
    rw p (slots_at b (at + slot_size) n k (omega arith) (both-second (slot_fits b at) (slots_fit b (at + slot_size) n) e))
