-- `in_bytes::some_empty` meets its contract: none of the sets before the i-th is empty, so the answer is that of the rest.
use mathlib.Core.Path.{sym, ◌∙◌}
use Prim.Native.Nat.{◌+◌, ◌-◌, ◌*◌}
use native.Mathlib.Omega.{arith}
use Rattle.wire.proofs.InBytesLaws.{empty-here, empty-on, empty-end}
use Rattle.wire.proofs.in_bytes.some_empty.Goals as goal

pub returns-then-b-from-eq0 : goal.returns-then-b-from-eq0
returns-then-b-from-eq0 c =
    let a = c.args in
    let l = c.loop-i in
    sym (l.invariant ∙ empty-here a.b.now a.from a.count l.i (omega arith) c.if-b-from-eq0.true)

pub loop-i-preserved : goal.loop-i-preserved
loop-i-preserved c =
    let a = c.args in
    let l = c.loop-i in
    l.invariant ∙ empty-on a.b.now a.from a.count l.i (omega arith) c.if-b-from-eq0.false

pub returns : goal.returns
returns c =
    let a = c.args in
    let l = c.loop-i in
    sym (l.invariant ∙ empty-end a.b.now (a.from + 5 * l.i) (a.count - l.i) (omega arith))
