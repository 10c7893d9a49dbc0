-- The queues of one view cleared: every count in them is 0, and nothing else changes.
use mathlib.Core.Path.{◌≡◌, refl, ◌∙◌}
use mathlib.Core.List.{List}
use Prim.Native.Nat.{ℕ, zero, suc, ◌+◌, ◌≤◌, ◌<◌}
use native.Mathlib.Decide.{ℕ_discrete}
use native.Mathlib.Omega.{arith}
use lib.ListN.{length, get_or, set, length-set}
use lib.Seq.{get_or-set_same, get_or-set_other}
use Rattle.views.specs.Limits.{max_members}
use Rattle.wire.proofs.TripViews.{AreBytes}
use Rattle.slots.proofs.Outside.{Changed, changed-none, changed-within, changed_then, set-changed}
use Rattle.slots.proofs.BytesKept.{set-bytes}
use Rattle.group_bytes.specs.Places.{table_size, order_at, waiting_at}
use Rattle.group_bytes.specs.Moves.{waiting_cleared, table_cleared}

waiting-changed : (q : List ℕ) (i n : ℕ) → n ≤ max_members → Changed q (waiting_cleared q i n) (order_at i) table_size
unfolding waiting_cleared
waiting-changed q i zero h = changed-none q (order_at i) table_size
waiting-changed q i (suc n) h =
    changed_then (waiting-changed q i n (omega arith))
    (changed-within (order_at i) table_size (omega arith) (omega arith) (set-changed (waiting_cleared q i n) (waiting_at i n) 0))

waiting-zero : (q : List ℕ) (i n : ℕ) → n ≤ max_members → order_at i + table_size ≤ length q → (p : ℕ) → p < n → get_or (waiting_cleared q i n) (waiting_at i p) 0 ≡ 0
unfolding waiting_cleared
waiting-zero q i zero h inside p k = absurd (omega arith)
waiting-zero q i (suc n) h inside p k =
    elim (ℕ_discrete p n) [
      | yes e ↦ rw e (get_or-set_same (waiting_cleared q i n) (waiting_at i n) 0 0 (omega (arith, (waiting-changed q i n (omega arith)).long)))
      | no e ↦ get_or-set_other (waiting_cleared q i n) (waiting_at i n) (waiting_at i p) 0 0 (λ f. e (omega arith)) ∙ waiting-zero q i n (omega arith) inside p (omega arith)
    ]

waiting-order : (q : List ℕ) (i n : ℕ) → get_or (waiting_cleared q i n) (order_at i) 0 ≡ get_or q (order_at i) 0
unfolding waiting_cleared
waiting-order q i zero = refl
waiting-order q i (suc n) = get_or-set_other (waiting_cleared q i n) (waiting_at i n) (order_at i) 0 0 (λ f. omega arith) ∙ waiting-order q i n

waiting-bytes : (q : List ℕ) (i n : ℕ) → AreBytes q → AreBytes (waiting_cleared q i n)
unfolding waiting_cleared
waiting-bytes q i zero y = y
waiting-bytes q i (suc n) y = set-bytes (waiting_cleared q i n) (waiting_at i n) 0 (waiting-bytes q i n y) (omega arith)

-- ---- the table

pub cleared-changed : (q : List ℕ) (i : ℕ) → Changed q (table_cleared q i) (order_at i) table_size
unfolding table_cleared
cleared-changed q i =
    changed_then (changed-within (order_at i) table_size (omega arith) (omega arith) (set-changed q (order_at i) 0))
    (waiting-changed (set q (order_at i) 0) i max_members (omega arith))

pub cleared-order : (q : List ℕ) (i : ℕ) → order_at i + table_size ≤ length q → get_or (table_cleared q i) (order_at i) 0 ≡ 0
unfolding table_cleared
cleared-order q i h = waiting-order (set q (order_at i) 0) i max_members ∙ get_or-set_same q (order_at i) 0 0 (omega arith)

pub cleared-waiting : (q : List ℕ) (i : ℕ) → order_at i + table_size ≤ length q → (p : ℕ) → p < max_members → get_or (table_cleared q i) (waiting_at i p) 0 ≡ 0
unfolding table_cleared
cleared-waiting q i h = waiting-zero (set q (order_at i) 0) i max_members (omega arith) (omega (arith, length-set q (order_at i) 0))

pub cleared-bytes : (q : List ℕ) (i : ℕ) → AreBytes q → AreBytes (table_cleared q i)
unfolding table_cleared
cleared-bytes q i y = waiting-bytes (set q (order_at i) 0) i max_members (set-bytes q (order_at i) 0 y (omega arith))
