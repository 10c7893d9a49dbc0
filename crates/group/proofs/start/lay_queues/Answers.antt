-- `group::start::lay_queues` meets its contract: the cleared bytes, then the three numbers of the head one after another.
use mathlib.Core.Path.{◌≡◌, ap, ◌∙◌}
use mathlib.Core.List.{List}
use Prim.Native.Nat.{ℕ}
use native.Mathlib.Omega.{arith}
use lib.ListN.{length, set, replicate, length-set, length-replicate}
use Rattle.numbers.specs.Number.{put}
use Rattle.numbers.proofs.NumberLaws.{length-put}
use Rattle.views.specs.Sizes.{layout_number}
use Rattle.group_bytes.specs.Places.{made_at, marks_at, marks_size, layout_at}
use Rattle.group.proofs.start.lay_queues.Goals as goal

-- the first view made and marked
abbrev marked : List ℕ → List ℕ
marked z = put (set z made_at 1) marks_at marks_size 1

marked-length : (n : ℕ) (z d : List ℕ) → z ≡ replicate n 0 → d ≡ marked z → length d ≡ n
marked-length n z d e h =
    ap length (h ∙ ap marked e) ∙ length-put (set (replicate n 0) made_at 1) marks_at marks_size 1 ∙ length-set {A = ℕ} (replicate n 0) made_at 1
    ∙ length-replicate {A = ℕ} n 0

laid-length : (n : ℕ) (z d : List ℕ) → z ≡ replicate n 0 → d ≡ marked z → length (set d layout_at layout_number) ≡ n
laid-length n z d e h = length-set {A = ℕ} d layout_at layout_number ∙ marked-length n z d e h

pub put_number-requires : goal.put_number-requires
put_number-requires c =
    let s = c in
    let n = length s.args.queues.now in
    rw c.clear.ensures (omega (arith, s.requires, length-set {A = ℕ} (replicate n 0) 0 1, length-replicate {A = ℕ} n 0))

pub bounds-queues-5 : goal.bounds-queues-5
bounds-queues-5 c =
    let c6 = c in
    let s = c6 in
    omega (arith, s.requires, marked-length (length s.args.queues.now) _ _ c6.clear.ensures c.put_number.ensures)

pub returns : goal.returns
returns c =
    let c6 = c in
    ap (λ (z : List ℕ). set z layout_at layout_number) (c.put_number.ensures ∙ ap marked c6.clear.ensures)
