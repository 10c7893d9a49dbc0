use Rattle.bench_session.proofs.AnswerLaws.{answer-heard}
use Rattle.bench_session.proofs.showing.hear_line.Goals as goal

pub answer_line-a-requires : goal.answer_line-a-requires
answer_line-a-requires c = c.requires

pub returns : goal.returns
returns c =
    let a = c.args in
    answer-heard a.bench (record { list = a.list.now; books = a.all.now; queues = a.queues.now }) a.line.now _ _ c.answer_line-a.ensures _ c.shows.ensures _ c.decided_by.ensures
