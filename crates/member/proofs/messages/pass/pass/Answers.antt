-- `member::messages::pass::pass` meets its contract: 4, 6, then the first outgoing message.
use Rattle.std.proofs.lemmas.Result.{err_from_is_err_and}
use Rattle.member.proofs.CallLaws.{call-sound}
use Rattle.member.proofs.PassLaws.{pass-refused, pass-given}
use Rattle.member.proofs.messages.pass.pass.Goals as goal

pub pass_first-requires : goal.pass_first-requires
pass_first-requires c = call-sound _ c.in_ok-admit.ensures

pub returns-in_err-admit : goal.returns-in_err-admit
returns-in_err-admit c =
    let p = err_from_is_err_and c.from_residual.result c.from_residual.ensures.1 in
    rw (p.1, p.2) (pass-refused _ _ c.in_err-admit.ensures)

pub returns : goal.returns
returns c = pass-given _ _ c.in_ok-admit.ensures _ _ _ c.pass_first.ensures
