-- `dvs::messages::dvs_pass` meets its contract: 4 for a length range of another length, else the member's pass.
use Rattle.dvs.proofs.MessageLaws.{passes-unsized, passes-call}
use Rattle.dvs.proofs.messages.dvs_pass.Goals as goal

pub returns-then-length-ne-LENGTH : goal.returns-then-length-ne-LENGTH
returns-then-length-ne-LENGTH c = passes-unsized _ _ _ _ c.if-length-ne-LENGTH.true c.refused.ensures

pub returns : goal.returns
returns c =
    let early = c in
    passes-call _ _ _ _ _ _ _ _ early.if-length-ne-LENGTH.false early.pass.ensures c.measure.ensures
