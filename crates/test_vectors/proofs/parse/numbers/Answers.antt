-- The numbers read so far, with those of the bytes that are left, are the numbers of all bytes.
use native.Mathlib.Omega.{arith}
use Rattle.test_vectors.proofs.LineLaws.{half-start, half-turn, half_full, half-end}
use Rattle.test_vectors.proofs.parse.numbers.Goals as goal

pub loop-i-init : goal.loop-i-init
loop-i-init c = half-start c.args.line.now c.args.xs.now c.args.from

pub returns-then-n-eq639 : goal.returns-then-n-eq639
returns-then-n-eq639 c = half_full _ c.args.line.now c.args.xs.now c.loop-i.xs c.loop-i.n c.loop-i.i c.loop-i.invariant (omega arith) c.if-n-eq639.true

pub loop-i-preserved : goal.loop-i-preserved
loop-i-preserved c = half-turn _ c.args.line.now c.args.xs.now c.loop-i.xs c.loop-i.n c.loop-i.i c.push.result c.ends-n.result c.loop-i.invariant (omega arith) c.if-n-eq639.false (omega arith) c.push.ensures c.ends-n.ensures.1

pub returns : goal.returns
returns c = half-end _ c.args.line.now c.args.xs.now c.loop-i.xs c.loop-i.n c.loop-i.i c.loop-i.invariant (omega arith)
