-- `book_steps::client_view::tell` meets its contract: the verdict is the rule's, and the message is said where it accepts.
use native.Mathlib.Omega.{arith}
use Rattle.std.proofs.lemmas.Result.{err_from_is_err_and}
use Rattle.book_steps.proofs.Committed.{sound-size}
use Rattle.book_steps.proofs.SpeakLaws.{tell-refused, tell-fits, tell-done}
use Rattle.book_steps.proofs.client_view.tell.Goals as goal

pub load_current-h-requires : goal.load_current-h-requires
load_current-h-requires c = omega (arith, sound-size _ c.requires)

pub bounds-b-191 : goal.bounds-b-191
bounds-b-191 c = omega (arith, sound-size _ c.requires)

pub say-requires : goal.say-requires
say-requires c = (omega (arith, sound-size _ c.requires), tell-fits _ _ c.load_current-h.ensures c.in_ok-tell.ensures _ c.spoken.ensures)

pub bounds-b-21 : goal.bounds-b-21
bounds-b-21 c = omega (arith, sound-size _ c.requires, c.say.auto.b)

pub returns-in_err-tell : goal.returns-in_err-tell
returns-in_err-tell c =
    let p = err_from_is_err_and c.from_residual.result c.from_residual.ensures.1 in
    rw (p.1, p.2) (tell-refused _ _ c.load_current-h.ensures _ c.in_err-tell.ensures)

pub returns : goal.returns
returns c = tell-done _ _ c.load_current-h.ensures c.in_ok-tell.ensures _ c.spoken.ensures _ c.say.ensures
