-- `in_bytes::rise_above` meets its contract: up to the last view passed the list rises, so the answer is that of the rest above it.
use mathlib.Core.Path.{sym, ◌∙◌}
use Prim.Native.Nat.{◌+◌, ◌-◌, ◌*◌}
use native.Mathlib.Omega.{arith}
use Rattle.views.proofs.OrderLaws.{le-holds, le-fails}
use Rattle.wire.proofs.InBytesLaws.{rises-stop, rises-on, rises-end}
use Rattle.wire.proofs.in_bytes.rise_above.Goals as goal

pub returns-then-le : goal.returns-then-le
returns-then-le c =
    let l = c.loop-i in
    sym
    (l.invariant
    ∙ rises-stop c.args.b.now c.args.from c.args.count l.i (omega arith) _ c.load_view-v.ensures l.last.0 (le-holds _ _ c.le.ensures c.if-le.true))

pub loop-i-preserved : goal.loop-i-preserved
loop-i-preserved c =
    let l = c.loop-i in
    l.invariant
    ∙ rises-on c.args.b.now c.args.from c.args.count l.i (omega arith) _ c.load_view-v.ensures l.last.0 (le-fails _ _ c.le.ensures c.if-le.false)

pub returns : goal.returns
returns c = let l = c.loop-i in sym (l.invariant ∙ rises-end c.args.b.now (c.args.from + 5 * l.i) (c.args.count - l.i) (omega arith) l.last.0)
