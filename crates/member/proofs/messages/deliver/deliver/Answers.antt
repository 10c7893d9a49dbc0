-- `member::messages::deliver::deliver` meets its contract: 4, 6, then what was read.
use mathlib.Core.Path.{sym, ◌∙◌}
use Rattle.std.proofs.lemmas.Result.{err_from_is_err_and}
use Rattle.views.specs.Refusals.{and_then}
use Rattle.wire.proofs.FrontLaws.{at_front}
use Rattle.rules.specs.Alone.{deliver_alone}
use Rattle.member.specs.Calls.{deliver_call}
use Rattle.member.proofs.CallLaws.{call-refused, call-sound}
use Rattle.member.proofs.ReadLaws.{gives-ok, one-done}
use Rattle.member.proofs.messages.deliver.deliver.Goals as goal

pub deliver_read-requires : goal.deliver_read-requires
deliver_read-requires c =
    (call-sound _ c.in_ok-admit.ensures, λ e. let (r, _, front) = at_front c.args.bytes.now (sym c.verdict-read.ensures ∙ e) in gives-ok front)

pub returns-in_err-admit : goal.returns-in_err-admit
unfolding deliver_call deliver_alone
returns-in_err-admit c =
    let p = err_from_is_err_and c.from_residual.result c.from_residual.ensures.1 in
    rw (p.1, p.2) (call-refused _ _ _ c.in_err-admit.ensures)

pub returns-in_err-deliver_read : goal.returns-in_err-deliver_read
unfolding and_then
returns-in_err-deliver_read c =
    let a = c.args in
    let p = err_from_is_err_and c.from_residual-in_err-deliver_read.result c.from_residual-in_err-deliver_read.ensures.1 in
    rw (p.1, p.2) (one-done a.b.now a.bytes.now a.q.0 c.in_ok-admit.ensures _ c.verdict-read.ensures _ _ c.in_err-deliver_read.ensures)

pub returns : goal.returns
unfolding and_then
returns c =
    let a = c.args in
    one-done a.b.now a.bytes.now a.q.0 c.in_ok-admit.ensures _ c.verdict-read.ensures _ _ c.in_ok-deliver_read.ensures
