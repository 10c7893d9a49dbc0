-- A view in its place at each turn, while there are places.
use native.Mathlib.Omega.{arith}
use Rattle.test_vectors.proofs.LineLaws.{views-start, views-step, views-all}
use Rattle.test_vectors.proofs.parse.views.Goals as goal

pub loop-i-init : goal.loop-i-init
loop-i-init c = views-start c.args.xs.now c.args.n

pub loop-i-preserved : goal.loop-i-preserved
loop-i-preserved c = views-step c.args.xs.now c.args.n c.loop-i.i c.loop-i.at c.view.result (omega arith) (omega arith) c.view.ensures c.loop-i.invariant

pub returns : goal.returns
returns c = views-all c.args.xs.now c.args.n c.loop-i.i c.loop-i.at (omega arith) c.loop-i.invariant
