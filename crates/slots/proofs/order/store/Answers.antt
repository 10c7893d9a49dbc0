-- `slots::order::store` meets its contract: sender and kind are written, then a client's number, a told's count, or an info's count and views.
use mathlib.Core.Logic.{inl}
use Rattle.std.proofs.Common.{arith, rules}
use lib.ListN.{length-set}
use Rattle.wire.specs.Widths.{AreBytes}
use Rattle.slots.proofs.OrderCode.{client-ordered, told-ordered, few-begun, info-ordered, registered-ordered}
use Rattle.slots.proofs.order.store.Goals as goal

pub move_bytes-requires-in-2 : goal.move_bytes-requires-in-2
move_bytes-requires-in-2 c =
    let a = c.args in
    let bytes : AreBytes a.q.now = search rules in
    let r = c.requires in
    let few = few-begun a.q.now a.c a.k a.at bytes r.0 r.1 r.2 r.3 c.in-2.is in
    (inl (omega (arith, few, c.from.ensures)), simp length-set (omega (arith, few, c.from.ensures)), simp length-set (omega (arith, few, c.from.ensures)))

pub returns-in-1 : goal.returns-in-1
returns-in-1 c =
    let a = c.args in
    let bytes : AreBytes a.q.now = search rules in
    let r = c.requires in
    client-ordered a.q.now a.c a.k a.at bytes r.0 r.1 r.2 c.in-1.is _ c.move_bytes.ensures

pub returns-in-4 : goal.returns-in-4
returns-in-4 c =
    let a = c.args in
    let bytes : AreBytes a.q.now = search rules in
    let r = c.requires in
    told-ordered a.q.now a.c a.k a.at bytes r.0 r.1 r.2 c.in-4.is (r.4 c.in-4.is)

pub returns-in-2 : goal.returns-in-2
returns-in-2 c =
    let a = c.args in
    let bytes : AreBytes a.q.now = search rules in
    let r = c.requires in
    info-ordered a.q.now a.c a.k a.at bytes r.0 r.1 r.2 r.3 c.in-2.is _ (rw c.from.ensures at c.move_bytes-in-2.ensures)

pub returns-in_default : goal.returns-in_default
returns-in_default c =
    let a = c.args in
    let bytes : AreBytes a.q.now = search rules in
    let r = c.requires in
    registered-ordered a.q.now a.c a.k a.at bytes r.0 r.1 r.2 r.3 (λ e. omega arith) (λ e. omega arith) (λ e. omega arith)
