-- `c_answers::measure` meets its contract: a refusal leaves the bytes, an accepted call has the length in them.
use native.Mathlib.Omega.{arith}
use mathlib.Core.Path.{◌∙◌}
use Rattle.c_answers.proofs.AnswerLaws.{gives-refused, gives-accepted, length-stored}
use Rattle.c_answers.proofs.measure.Goals as goal

pub returns-in-Err : goal.returns-in-Err
returns-in-Err c = gives-refused _ _ _ _ _ c.in-Err.is c.refused.ensures

pub returns-in-Ok : goal.returns-in-Ok
returns-in-Ok c = gives-accepted _ _ _ _ _ c.in-Ok.is (c.put_number.ensures ∙ length-stored _ _ (omega arith))
