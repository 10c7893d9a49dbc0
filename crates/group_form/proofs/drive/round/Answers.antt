-- `group_form::drive::round` meets its contract: one kind of step, an exchange, then the other kind.
use Rattle.std.proofs.lemmas.Result.{err_from_is_err_and}
use Rattle.rules.specs.Forming.{round_steps}
use Rattle.group_form.proofs.Driving.{drove-stops, drove-then}
use Rattle.group_form.proofs.drive.round.Goals as goal

pub returns-in_err-each : goal.returns-in_err-each
unfolding round_steps
returns-in_err-each c =
    let p = err_from_is_err_and c.from_residual.result c.from_residual.ensures.1 in
    rw (p.1, p.2) (drove-stops c.each.ensures c.in_err-each.was _)

pub exchange-requires : goal.exchange-requires
exchange-requires c k = c.each.ensures.stays (c.requires k)

pub returns-in_err-exchange : goal.returns-in_err-exchange
unfolding round_steps
returns-in_err-exchange c =
    let p = err_from_is_err_and c.from_residual-in_err-exchange.result c.from_residual-in_err-exchange.ensures.1 in
    rw (p.1, p.2) (drove-then c.each.ensures c.in_ok-each.was (drove-stops c.exchange.ensures c.in_err-exchange.was _))

pub each-requires-2 : goal.each-requires-2
each-requires-2 c k = c.exchange.ensures.stays (c.each.ensures.stays (c.requires k))

pub returns : goal.returns
unfolding round_steps
returns c = drove-then c.each.ensures c.in_ok-each.was (drove-then c.exchange.ensures c.in_ok-exchange.was c.each-2.ensures)
