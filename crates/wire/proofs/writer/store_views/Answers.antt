-- The buffer holds the first i views behind what stood before them, and its old bytes behind those.
use mathlib.Core.Path.{◌≡◌, ◌∙◌}
use native.Mathlib.Omega.{arith}
use lib.ListN.{length, take}
use lib.Seq.{length-take-le}
use Rattle.wire.proofs.SeamLaws.{store-start, store-turn, store-end}
use Rattle.wire.proofs.writer.store_views.Goals as goal

pub loop-i-init : goal.loop-i-init
loop-i-init c = store-start c.args.b.now c.args.from (take c.args.n c.args.list.at) (omega arith)

pub loop-i-preserved : goal.loop-i-preserved
loop-i-preserved c =
    let a = c.args in
    let l = c.loop-i in
    let z : length a.list.at ≡ 32 = c.well_formed.1.1.0.1.1.1.0.1.0.1 in
    rw (c.store_view.ensures, l.invariant) (store-turn a.b.now a.from l.i (take a.n a.list.at) (omega (arith, length-take-le a.n a.list.at)) (omega arith))

pub returns : goal.returns
returns c =
    let l = c.loop-i in
    let a = c.args in
    let z : length a.list.at ≡ 32 = c.well_formed.1.1.0.1.1.1.0.1.0.1 in
    let past : l.i ≡ a.n = omega (arith, length-take-le a.n a.list.at) in
    l.invariant ∙ store-end a.b.now a.from l.i (take a.n a.list.at) (omega arith) (omega (arith, length-take-le a.n a.list.at)) ∙ rw past
