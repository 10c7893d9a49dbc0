-- What is held lies within the input, round after round.
use mathlib.Core.Path.{◌≡◌, sym, ap, ◌∙◌}
use mathlib.Core.Bool.{true≢false}
use native.Mathlib.Omega.{arith}
use borrow.Author.Rules.{rules}
use lib.Seq.{length-take-le}
use Rattle.group_bytes.specs.Groups.{Ranges}
use Rattle.bench_session.specs.declared.showing.Bench.{Bench}
use Rattle.bench_session.specs.Showing.{idle}
use Rattle.bench_session.specs.NextParts.{BenchStaysSound}
use Rattle.bench.proofs.run.Goals as goal

-- no group is running
idle-stays : (b : Bench) → b ≡ idle → (r : Ranges) → BenchStaysSound b r
idle-stays b e r h = absurd (true≢false (sym h ∙ ap (λ (x : Bench). x.running) e))

pub loop-init : goal.loop-init
loop-init g c = (idle-stays _ c.idle-bench.ensures _, search rules)

pub slice_bounds-finish-end-then-n-held : goal.slice_bounds-finish-end-then-n-held
slice_bounds-finish-end-then-n-held g c = sym (length-take-le _ _ (omega arith))

pub slice_bounds-answer_all-end-in-loop : goal.slice_bounds-answer_all-end-in-loop
slice_bounds-answer_all-end-in-loop g c = sym (length-take-le _ _ (omega arith))

pub loop-preserved : goal.loop-preserved
loop-preserved g c = (c.answer_all-t.ensures.1, search rules)
