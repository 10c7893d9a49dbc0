-- `c_answers::put_found` meets its contract: zeros, or 1 and the view stored after it.
use native.Mathlib.Omega.{arith}
use lib.ListN.{length-set}
use Rattle.c_answers.proofs.AnswerLaws.{missing-stored, found-stored}
use Rattle.c_answers.proofs.put_found.Goals as goal

pub store_view-requires : goal.store_view-requires
store_view-requires c = simp length-set (omega arith)

pub returns-in-None : goal.returns-in-None
returns-in-None c =
    let c4 = c in
    let s = c4 in
    missing-stored s.args.f s.args.out.now _ s.requires c4.in-None.is c.clear.ensures

pub returns-in-Some : goal.returns-in-Some
returns-in-Some c =
    let c5 = c in
    let s = c5 in
    found-stored s.args.f _ s.args.out.now _ s.requires c5.in-Some.is c.store_view.ensures
