-- `member::carrier_view::join` meets its contract: 4, 6, then 7 and the step.
use Rattle.std.proofs.lemmas.Result.{err_from_is_err_and}
use Rattle.rules.specs.Alone.{join_alone}
use Rattle.member.specs.Calls.{join_call}
use Rattle.member.proofs.CallLaws.{call-refused, call-sound, call-done}
use Rattle.member.proofs.carrier_view.join.Goals as goal

pub join_view-requires : goal.join_view-requires
join_view-requires c = call-sound _ c.in_ok-admit.ensures

pub returns-in_err-admit : goal.returns-in_err-admit
unfolding join_call join_alone
returns-in_err-admit c =
    let p = err_from_is_err_and c.from_residual.result c.from_residual.ensures.1 in
    rw (p.1, p.2) (call-refused _ _ _ c.in_err-admit.ensures)

pub returns : goal.returns
unfolding join_call join_alone
returns c = call-done _ _ _ c.in_ok-admit.ensures _ _ c.join_view.ensures
