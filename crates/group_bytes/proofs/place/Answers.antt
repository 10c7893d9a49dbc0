-- `group_bytes::place` meets its contract: no view from the i-th on has the identifier.
use mathlib.Core.Path.{sym, ◌∙◌}
use Prim.Native.Nat.{◌-◌}
use native.Mathlib.Omega.{arith}
use Rattle.group_bytes.proofs.PlaceTurns.{none_more, none-past, place-found-at, place-of-none}
use Rattle.group_bytes.proofs.place.Goals as goal

pub loop-i-init : goal.loop-i-init
loop-i-init c = λ k l m s.
    let a = c.args in
    none-past a.list.now a.n c.requires.1 a.id.0 k (omega arith) k (omega arith) m s

pub returns-then-get_number-id : goal.returns-then-get_number-id
returns-then-get_number-id c =
    let a = c.args in
    place-found-at a.list.now a.n c.requires.1 a.id.0 (c.loop-i.i - 1) (omega arith)
    (sym c.get_number.ensures.0 ∙ c.if-get_number-id.true)

pub loop-i-preserved : goal.loop-i-preserved
loop-i-preserved c =
    let a = c.args in
    let l = c.loop-i in
    none_more a.list.now a.id.0 a.n l.i (l.i - 1) (omega arith) l.invariant
    (λ e. c.if-get_number-id.false (c.get_number.ensures.0 ∙ e))

pub returns : goal.returns
returns c = place-of-none c.args.list.now c.args.n c.args.id.0 c.loop-i.i (omega arith) c.loop-i.invariant
