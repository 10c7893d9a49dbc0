-- `c_answers::account` meets its contract: a refusal leaves the bytes, an accepted call has the delivery in them.
use Rattle.c_answers.proofs.AnswerLaws.{gives-refused, gives-accepted, delivery-stored}
use Rattle.c_answers.proofs.account.Goals as goal

pub returns-in-Err : goal.returns-in-Err
returns-in-Err c = gives-refused _ _ _ _ _ c.in-Err.is c.refused.ensures

pub returns-in-Ok : goal.returns-in-Ok
returns-in-Ok c =
    gives-accepted _ _ _ _ _ c.in-Ok.is (delivery-stored c.args.out.now _ c.in-Ok.d _ c.requires c.put_number.ensures c.code.ensures)
