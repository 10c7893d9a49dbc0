-- `dvs::crossing::cross` meets its contract: 4 for a count range of another length, else the question.
use Rattle.group_bytes.specs.Groups.{ranges}
use Rattle.dvs.proofs.CrossingLaws.{crosses-unsized, crosses-call}
use Rattle.dvs.proofs.crossing.cross.Goals as goal

pub returns-then-count-ne-LENGTH : goal.returns-then-count-ne-LENGTH
returns-then-count-ne-LENGTH c =
    let a = c.args in
    crosses-unsized (ranges a.list.now a.books.now a.queues.now) a.hold a.set _ _ _ c.if-count-ne-LENGTH.true c.refused.ensures

pub returns : goal.returns
returns c =
    let c6 = c in
    let c8 = c6 in
    let c9 = c8 in
    let c15 = c9 in
    let a = c15.args in
    crosses-call (ranges a.list.now a.books.now a.queues.now) a.hold a.set _ _ _ _ _ _ _
    c9.if-count-ne-LENGTH.false c8.narrow.ensures c6.query-found.ensures c.measure.ensures
