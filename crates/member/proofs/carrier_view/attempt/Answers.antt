-- `member::carrier_view::attempt` meets its contract: 4, 6, then the step.
use Rattle.std.proofs.lemmas.Result.{err_from_is_err_and}
use Rattle.rules.specs.Alone.{attempt_alone}
use Rattle.book_steps.specs.Acts.{few_open}
use Rattle.member.specs.Calls.{attempt_call}
use Rattle.member.proofs.CallLaws.{call-refused, call-sound, call-done}
use Rattle.member.proofs.carrier_view.attempt.Goals as goal

pub attempt-requires : goal.attempt-requires
attempt-requires c = call-sound _ c.in_ok-admit.ensures

pub returns-in_err-admit : goal.returns-in_err-admit
unfolding attempt_call attempt_alone few_open
returns-in_err-admit c =
    let p = err_from_is_err_and c.from_residual.result c.from_residual.ensures.1 in
    rw (p.1, p.2) (call-refused _ _ _ c.in_err-admit.ensures)

pub returns : goal.returns
unfolding attempt_call attempt_alone few_open
returns c = call-done _ _ _ c.in_ok-admit.ensures _ _ c.attempt.ensures
