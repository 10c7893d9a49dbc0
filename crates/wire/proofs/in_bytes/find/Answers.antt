-- `in_bytes::find` meets its contract: no view passed has the identifier, so the answer is that of the rest.
use mathlib.Core.Path.{sym, ◌∙◌}
use Prim.Native.Nat.{◌+◌, ◌-◌, ◌*◌}
use native.Mathlib.Omega.{arith}
use Rattle.views.proofs.OrderLaws.{eq-holds, eq-fails}
use Rattle.wire.proofs.InBytesLaws.{find-here, find-on, find-end}
use Rattle.wire.proofs.in_bytes.find.Goals as goal

pub returns-then-eq : goal.returns-then-eq
returns-then-eq c =
    let a = c.args in
    let l = c.loop-i in
    sym (l.invariant ∙ find-here a.b.now a.from a.count l.i (omega arith) _ c.load_view-v.ensures a.id.0 (eq-holds _ _ c.eq.ensures c.if-eq.true))

pub loop-i-preserved : goal.loop-i-preserved
loop-i-preserved c =
    let a = c.args in
    let l = c.loop-i in
    l.invariant ∙ find-on a.b.now a.from a.count l.i (omega arith) _ c.load_view-v.ensures a.id.0 (eq-fails _ _ c.eq.ensures c.if-eq.false)

pub returns : goal.returns
returns c =
    let a = c.args in
    let l = c.loop-i in
    sym (l.invariant ∙ find-end a.b.now (a.from + 5 * l.i) (a.count - l.i) (omega arith) a.id.0)
