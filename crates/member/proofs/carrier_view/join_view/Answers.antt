-- `member::carrier_view::join_view` meets its contract: 7, then the step.
use native.Mathlib.Omega.{arith}
use Rattle.book_steps.proofs.Committed.{sound-size}
use Rattle.member.proofs.ArriveLaws.{join-unfit, join-fits}
use Rattle.member.proofs.carrier_view.join_view.Goals as goal

pub bounds-b-0 : goal.bounds-b-0
bounds-b-0 c = omega (arith, sound-size _ c.requires)

pub returns-then-not-set_fits : goal.returns-then-not-set_fits
returns-then-not-set_fits c =
    let a = c.args in
    join-unfit a.b.now a.v _ c.set_fits.ensures c.if-not-set_fits.true-raw

pub returns : goal.returns
returns c =
    let a = c.args in
    let early = c in
    join-fits a.b.now a.v _ early.set_fits.ensures early.if-not-set_fits.false-raw _ _ c.join.ensures
