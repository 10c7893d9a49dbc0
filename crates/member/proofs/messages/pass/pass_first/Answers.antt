-- `member::messages::pass::pass_first` meets its contract: 13, 14, and then what the writer says of the first message.
use mathlib.Core.Path.{sym, ◌∙◌}
use native.Mathlib.Omega.{arith}
use Rattle.std.proofs.lemmas.Result.{err_from_is_err_and}
use Rattle.book_steps.proofs.Committed.{sound-layout, sound-size}
use Rattle.member.proofs.CallLaws.{missing}
use Rattle.member.proofs.PassLaws.{pass-unseated, pass-emptied, first_frame, first-few, first-lies, pass-done}
use Rattle.member.proofs.messages.pass.pass_first.Goals as goal

pub load_seat-requires : goal.load_seat-requires
load_seat-requires c = omega (arith, sound-size _ c.requires)

pub returns-in_err-carrier : goal.returns-in_err-carrier
returns-in_err-carrier c =
    let a = c.args in
    let m = missing c.load_seat.result c.in_err-carrier.ensures.value in
    let p = err_from_is_err_and c.from_residual.result c.from_residual.ensures.1 in
    rw (p.1, p.2, m.1) (pass-unseated a.b.now c.requires a.out.now (sym c.load_seat.ensures ∙ m.0))

pub bounds-b-191 : goal.bounds-b-191
bounds-b-191 c = omega (arith, sound-size _ c.requires)

pub returns-then-b-eq0 : goal.returns-then-b-eq0
returns-then-b-eq0 c =
    let early = c in
    pass-emptied _ early.requires _ (sym early.load_seat.ensures ∙ c.in_ok-carrier.ensures.ok_part) _ c.if-b-eq0.true

pub give_out-requires : goal.give_out-requires
give_out-requires c =
    let b = c.args.b.now in
    let pre = c.requires in
    let l = sound-layout _ pre in
    (omega arith, omega (arith, l.size, l.outgoing), first-few b pre (omega arith), first-lies b pre (omega arith), (first_frame b pre (omega arith) _).1)

pub returns : goal.returns
returns c = pass-done _ c.requires _ (sym c.load_seat.ensures ∙ c.in_ok-carrier.ensures.ok_part) (omega arith) _ _ _ _ c.give_out.ensures
