-- `member::client_view::send` meets its contract: 4, 6, then the step.
use Rattle.std.proofs.lemmas.Result.{err_from_is_err_and}
use Rattle.member.specs.Calls.{send_call}
use Rattle.member.proofs.CallLaws.{call-refused, call-sound, call-done}
use Rattle.member.proofs.client_view.send.Goals as goal

pub send-requires : goal.send-requires
send-requires c = call-sound _ c.in_ok-admit.ensures

pub returns-in_err-admit : goal.returns-in_err-admit
unfolding send_call
returns-in_err-admit c =
    let p = err_from_is_err_and c.from_residual.result c.from_residual.ensures.1 in
    rw (p.1, p.2) (call-refused _ _ _ c.in_err-admit.ensures)

pub returns : goal.returns
unfolding send_call
returns c = call-done _ _ _ c.in_ok-admit.ensures _ _ c.send.ensures
