-- `dvs::whole_group::dvs_group_step` meets its contract: 4 for an event range of another length, else the group's step, of a kind of any size.
use Rattle.dvs.proofs.GroupLaws.{steps-unsized, steps-call}
use Rattle.dvs.proofs.GroupNarrowing.{step-narrowed}
use Rattle.dvs.proofs.whole_group.dvs_group_step.Goals as goal

pub returns-then-event-ne-EVENT : goal.returns-then-event-ne-EVENT
returns-then-event-ne-EVENT c =
    let a = c.args in
    steps-unsized (record { list = c.args.list.now; books = c.args.books.now; queues = c.args.queues.now }) (record { kind = a.kind; first = a.first; second = a.second }) _ _ c.if-event-ne-EVENT.true c.refused.ensures

pub returns : goal.returns
returns c =
    let a = c.args in
    steps-call (record { list = c.args.list.now; books = c.args.books.now; queues = c.args.queues.now }) _ (record { kind = a.kind; first = a.first; second = a.second }) _ _ _ _ c.if-event-ne-EVENT.false
    (step-narrowed (record { list = c.args.list.now; books = c.args.books.now; queues = c.args.queues.now }) _ a.kind a.first a.second _ (rw c.narrow.ensures at c.step.ensures)) c.answer.ensures
