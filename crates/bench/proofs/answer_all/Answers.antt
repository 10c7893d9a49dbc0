-- Each line ends at or behind its start, and the next starts behind its end.
use mathlib.Core.Path.{ap}
use native.Mathlib.Omega.{arith}
use lib.ListN.{length}
use Rattle.bench_lines.proofs.WordLaws.{find-le, find-from}
use Rattle.bench.proofs.PieceLaws.{said-within}
use Rattle.bench.proofs.answer_all.Goals.{then-h+else-said, else-h}
use Rattle.bench.proofs.answer_all.Goals as goal

pub slice_bounds-hear_next-count : goal.slice_bounds-hear_next-count
slice_bounds-hear_next-count g c =
    let l = c.loop-at in
    let a = c.args in
    omega (arith, c.line_end-end.ensures, find-le 10 a.input.now l.at, find-from 10 a.input.now l.at l.invariant.1.0)

pub slice_bounds-hear_next-start : goal.slice_bounds-hear_next-start
slice_bounds-hear_next-start g c =
    let l = c.loop-at in
    let a = c.args in
    omega (arith, c.line_end-end.ensures, find-le 10 a.input.now l.at, find-from 10 a.input.now l.at l.invariant.1.0)

pub slice_bounds-hear_next-end : goal.slice_bounds-hear_next-end
slice_bounds-hear_next-end g c =
    let l = c.loop-at in
    let a = c.args in
    omega (arith, c.line_end-end.ensures, find-le 10 a.input.now l.at, find-from 10 a.input.now l.at l.invariant.1.0)

pub loop-at-smaller : goal.loop-at-smaller
loop-at-smaller g c =
    let l = c.loop-at in
    let a = c.args in
    omega (arith, c.line_end-end.ensures, find-le 10 a.input.now l.at, find-from 10 a.input.now l.at l.invariant.1.0)

pub loop-at-preserved : goal.loop-at-preserved
loop-at-preserved g c =
    let l = c.loop-at in
    let a = c.args in
    let e = c.line_end-end.ensures in
    let u = find-le 10 a.input.now l.at in
    let v = find-from 10 a.input.now l.at l.invariant.1.0 in
    let stays = c.hear_next-h.ensures.stays in
    elim c.if-h.branch [
      | then-h+else-said w ↦
          let k = said-within _ l.out _ l.filled _ l.invariant.1.1 w.say-said.ensures in
          (stays, omega (arith, e, u, v, ap length w.out-is, w.filled-is))
      | else-h w ↦ (stays, omega (arith, e, u, v, ap length w.out-is, w.filled-is))
    ]
