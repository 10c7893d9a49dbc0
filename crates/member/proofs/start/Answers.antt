-- `member::start` meets its contract: its refusals, else a fresh member and no event.
use native.Mathlib.Omega.{arith}
use Rattle.std.proofs.lemmas.Result.{err_from_is_err_and}
use Rattle.member.proofs.StartLaws.{start-size, start-refused, start-accepted}
use Rattle.member.proofs.start.Goals as goal

pub book-requires : goal.book-requires
book-requires c = omega (arith, start-size _ _ _ _ c.in_ok-startable.ensures)

pub returns-in_err-startable : goal.returns-in_err-startable
returns-in_err-startable c =
    let p = err_from_is_err_and c.from_residual.result c.from_residual.ensures.1 in
    rw (p.1, p.2) (start-refused _ _ _ _ c.in_err-startable.ensures)

pub returns : goal.returns
returns c = start-accepted _ _ _ _ c.in_ok-startable.ensures _ c.book.ensures
