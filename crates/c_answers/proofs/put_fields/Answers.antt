-- `c_answers::put_fields` meets its contract: each part is stored just behind the bytes so far.
use native.Mathlib.Omega.{arith}
use lib.ListN.{length-set}
use Rattle.c_answers.proofs.AnswerLaws.{event-stored}
use Rattle.c_answers.proofs.put_fields.Goals as goal

pub store_view-requires : goal.store_view-requires
store_view-requires c = simp length-set (omega arith)

pub bounds-out-7 : goal.bounds-out-7
bounds-out-7 c = omega (arith, simp length-set at c.store_view.auto.b)

pub put_number-requires : goal.put_number-requires
put_number-requires c = simp length-set (omega (arith, simp length-set at c.store_view.auto.b))

pub returns : goal.returns
returns c = event-stored c.args.e c.args.out.now _ _ (omega arith) c.store_view.ensures c.put_number.ensures
