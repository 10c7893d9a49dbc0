-- `group_form::drive::exchange` meets its contract: passes, orders, then of each server as many deliveries as there are ones in the set.
use Rattle.std.proofs.lemmas.Result.{err_from_is_err_and}
use native.Mathlib.Omega.{arith}
use lib.Count.{ones-le}
use Rattle.views.specs.Limits.{max_members}
use Rattle.rules.specs.Forming.{exchange_steps}
use Rattle.group_form.proofs.Driving.{drove-stops, drove-then, servers-ones}
use Rattle.group_form.proofs.drive.exchange.Goals as goal

pub returns-in_err-each : goal.returns-in_err-each
unfolding exchange_steps
returns-in_err-each c =
    let p = err_from_is_err_and c.from_residual.result c.from_residual.ensures.1 in
    rw (p.1, p.2) (drove-stops c.each.ensures c.in_err-each.was _)

pub each-requires-2 : goal.each-requires-2
each-requires-2 c k = c.each.ensures.stays (c.requires k)

pub returns-in_err-each-2 : goal.returns-in_err-each-2
unfolding exchange_steps
returns-in_err-each-2 c =
    let p = err_from_is_err_and c.from_residual-in_err-each-2.result c.from_residual-in_err-each-2.ensures.1 in
    rw (p.1, p.2) (drove-then c.each.ensures c.in_ok-each.was (drove-stops c.each-2.ensures c.in_err-each-2.was _))

pub overflow_cast-k : goal.overflow_cast-k
overflow_cast-k c = omega (arith, ones-le max_members _ c.struct_known-1.given.1.0.fits)

pub each-requires-3 : goal.each-requires-3
each-requires-3 c k = c.each-2.ensures.stays (c.each.ensures.stays (c.requires k))

pub returns : goal.returns
unfolding exchange_steps
returns c =
    rw (servers-ones c.args.v c.struct_known-1.given.1.0.fits)
    (drove-then c.each.ensures c.in_ok-each.was (drove-then c.each-2.ensures c.in_ok-each-2.was c.each-3.ensures))
