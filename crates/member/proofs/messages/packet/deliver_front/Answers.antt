-- `member::messages::packet::deliver_front` meets its contract: 6, then what the reader gave is taken.
use mathlib.Core.Path.{sym, ◌∙◌}
use native.Mathlib.Omega.{arith}
use Rattle.std.proofs.lemmas.Result.{err_from_is_err_and}
use Rattle.book_steps.proofs.Committed.{sound-size}
use Rattle.member.proofs.ReadLaws.{verdict-made, front-beyond, front-ok, front-stopped, front-done}
use Rattle.member.proofs.messages.packet.deliver_front.Goals as goal

pub bounds-b-0 : goal.bounds-b-0
bounds-b-0 c = omega (arith, sound-size _ c.requires)

pub bounds-b-1 : goal.bounds-b-1
bounds-b-1 c = omega (arith, sound-size _ c.requires)

pub returns-then-b : goal.returns-then-b
returns-then-b c = front-beyond c.args.b.now c.args.bytes.now c.args.q.0 c.requires (omega arith)

pub deliver_read-requires : goal.deliver_read-requires
deliver_read-requires c =
    let made = verdict-made c.args.bytes.now _ _ _ c.front-front.ensures c.map.ensures.variant c.map.ensures.cases in
    (c.requires, λ e. front-ok c.args.bytes.now (sym made ∙ e))

pub returns-in_err-deliver_read : goal.returns-in_err-deliver_read
returns-in_err-deliver_read c =
    let a = c.args in
    let made = verdict-made a.bytes.now _ _ _ c.front-front.ensures c.map.ensures.variant c.map.ensures.cases in
    let p = err_from_is_err_and c.from_residual.result c.from_residual.ensures.1 in
    rw (p.1, p.2) (front-stopped a.b.now a.bytes.now a.q.0 c.requires (omega arith) _ made _ c.in_err-deliver_read.ensures)

pub returns : goal.returns
returns c =
    let a = c.args in
    let made = verdict-made a.bytes.now _ _ _ c.front-front.ensures c.map.ensures.variant c.map.ensures.cases in
    front-done a.b.now a.bytes.now a.q.0 c.requires (omega arith) _ made _ c.in_ok-deliver_read.ensures _ c.front-front.ensures
