-- The places hold the views read so far, and unused places behind them.
use mathlib.Core.Path.{◌≡◌, refl}
use native.Mathlib.Omega.{arith}
use Rattle.views.specs.Lists.{places}
use Rattle.wire.specs.Reader.{views_in}
use Rattle.wire.proofs.ReaderLaws.{length-views_in, load-turn}
use Rattle.wire.proofs.reader.load_views.Goals as goal

pub loop-i-init : goal.loop-i-init
unfolding views_in places
loop-i-init c = refl

pub loop-i-preserved : goal.loop-i-preserved
loop-i-preserved c =
    let a = c.args in
    let l = c.loop-i in
    rw (l.invariant, c.load_view.ensures) (load-turn a.b.now a.from l.i (omega arith))

pub returns : goal.returns
returns c =
    let a = c.args in
    let l = c.loop-i in
    let past : l.i ≡ a.n = omega arith in
    rw (length-views_in a.b.now a.from a.n, ← past) (rw l.invariant)
