-- `c_answers::answer` meets its contract: a refusal leaves the bytes, an accepted call has its event in them.
use Rattle.c_answers.proofs.AnswerLaws.{gives-refused, gives-accepted}
use Rattle.c_answers.proofs.answer.Goals as goal

pub returns-in-Err : goal.returns-in-Err
returns-in-Err c = gives-refused _ _ _ _ _ c.in-Err.is c.refused.ensures

pub returns-in-Ok : goal.returns-in-Ok
returns-in-Ok c = gives-accepted _ _ _ _ _ c.in-Ok.is c.put_event.ensures.bytes
