-- `group_form::drive::steps` meets its contract: one round, then the other.
use Rattle.std.proofs.lemmas.Result.{err_from_is_err_and}
use Rattle.rules.specs.Forming.{form_steps}
use Rattle.group_form.proofs.Driving.{drove-stops, drove-then}
use Rattle.group_form.proofs.drive.steps.Goals as goal

pub returns-in_err-round : goal.returns-in_err-round
unfolding form_steps
returns-in_err-round c =
    let p = err_from_is_err_and c.from_residual.result c.from_residual.ensures.1 in
    rw (p.1, p.2) (drove-stops c.round.ensures c.in_err-round.was _)

pub round-requires-2 : goal.round-requires-2
round-requires-2 c k = c.round.ensures.stays (c.requires k)

pub returns : goal.returns
unfolding form_steps
returns c = drove-then c.round.ensures c.in_ok-round.was c.round-2.ensures
