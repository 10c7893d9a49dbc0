-- The queues of the views made lie within their range, and the first entry of a queue that is not empty.
use mathlib.Core.Path.{◌≡◌}
use mathlib.Core.List.{List, ◌∷◌}
use Prim.Native.Nat.{ℕ, zero, suc, ◌+◌, ◌≤◌, ◌<◌}
use native.Mathlib.Omega.{arith}
use lib.ListN.{length, drop}
use Rattle.rules.specs.Data.{Entry}
use Rattle.slots.specs.Slots.{slot_size, entry_in, entries_in}
use Rattle.group_bytes.specs.Places.{waiting_size, order_at, waiting_at}
use Rattle.slots.specs.Columns.{order_size}
use Rattle.group_bytes.specs.Groups.{Ranges, members_of, made_of}
use Rattle.group_bytes.proofs.RangesLaws.{Ranged}

-- ---- places

module _ (r : Ranges) (fits : Ranged r) (i : ℕ) (there : i < made_of r) where
  pub order-inside : order_at i + order_size ≤ length r.queues
  order-inside = omega (arith, fits.queues, fits.made.1)

  pub waiting-inside : (p : ℕ) → p < members_of r → waiting_at i p + waiting_size ≤ length r.queues
  waiting-inside p h = omega (arith, fits.queues, fits.made.1, fits.members.1)

-- ---- the first entry

pub record First (b : List ℕ) (at n : ℕ) (e : Entry) (rest : List Entry) : Type 0 where
  pub some : 0 < n
  pub entry : e ≡ entry_in b at
  pub behind : rest ≡ drop 1 (entries_in b at n)

pub entries-first : (b : List ℕ) (at n : ℕ) (e : Entry) (rest : List Entry) → entries_in b at n ≡ e ∷ rest → First b at n e rest
unfolding entries_in
entries-first b at zero e rest h = let z : ◌≡◌ {A = ℕ} 0 1 = cc in absurd (omega arith)
entries-first b at (suc n) e rest h =
    let k : e ≡ entry_in b at = cc in
    let l : rest ≡ entries_in b (at + slot_size) n = cc in
    record { some = omega arith; entry = k; behind = l }
