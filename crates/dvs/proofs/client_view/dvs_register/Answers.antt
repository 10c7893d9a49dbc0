-- `dvs::client_view::dvs_register` meets its contract: 4 for an event range of another length, else the member's call.
use Rattle.dvs.proofs.EventLaws.{shows-unsized, shows-call}
use Rattle.dvs.proofs.client_view.dvs_register.Goals as goal

pub returns-then-event-ne-EVENT : goal.returns-then-event-ne-EVENT
returns-then-event-ne-EVENT c = shows-unsized _ _ _ _ _ c.if-event-ne-EVENT.true c.refused.ensures

pub returns : goal.returns
returns c =
    let early = c in
    shows-call _ _ _ _ _ _ _ _ early.if-event-ne-EVENT.false early.register.ensures c.answer.ensures
