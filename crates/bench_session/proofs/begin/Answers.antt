use Rattle.bench_session.proofs.AnswerLaws.{group-answers}
use Rattle.bench_session.proofs.begin.Goals as goal

pub returns : goal.returns
returns c =
    let a = c.args in
    group-answers a.running (record { list = a.list.now; books = a.all.now; queues = a.queues.now }) a.members a.set _ _ c.start-v.ensures _ c.plain.ensures _ c.runs.ensures
