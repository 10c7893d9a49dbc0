use mathlib.Core.Path.{sym, ◌∙◌}
use Rattle.bench_session.proofs.AnswerLaws.{unread-answers}
use Rattle.bench_session.proofs.answer_line.Goals as goal

pub returns-in-None : goal.returns-in-None
returns-in-None c =
    let a = c.args in
    unread-answers a.running (record { list = a.list.now; books = a.all.now; queues = a.queues.now }) _ _ (sym c.read.ensures ∙ c.in-None.is) c.unread.ensures
