use Rattle.bench_session.proofs.AnswerLaws.{idle-answers, step-answers}
use Rattle.bench_session.proofs.go.Goals as goal

pub returns-then-not-running : goal.returns-then-not-running
returns-then-not-running c =
    let a = c.args in
    rw (c.if-not-running.true, c.unread.ensures) (idle-answers (record { list = a.list.now; books = a.all.now; queues = a.queues.now }) a.kind a.first a.second)

pub next-requires : goal.next-requires
next-requires c k = c.requires k c.if-not-running.false

pub returns : goal.returns
returns c =
    let a = c.args in
    rw c.if-not-running.false (step-answers (record { list = a.list.now; books = a.all.now; queues = a.queues.now }) a.kind a.first a.second _ _ c.next.ensures)
