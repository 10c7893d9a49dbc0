-- `book_steps::client_view::register` meets its contract: the verdict is the rule's, and the message is said where it accepts.
use native.Mathlib.Omega.{arith}
use Rattle.std.proofs.Common.{rules}
use Rattle.std.proofs.lemmas.Result.{err_from_is_err_and}
use Rattle.book_bytes.specs.Books.{own_in_book}
use Rattle.book_steps.proofs.Committed.{sound-size, mapped}
use Rattle.book_steps.proofs.SpeakLaws.{registering, register-refused, register-fits, register-done}
use Rattle.book_steps.proofs.client_view.register.Goals as goal

pub load_current-h-requires : goal.load_current-h-requires
load_current-h-requires c = omega (arith, sound-size _ c.requires)

pub bounds-b-191 : goal.bounds-b-191
bounds-b-191 c = omega (arith, sound-size _ c.requires)

pub bounds-b-1 : goal.bounds-b-1
bounds-b-1 c = omega (arith, sound-size _ c.requires)

pub say-requires : goal.say-requires
say-requires c = (omega (arith, sound-size _ c.requires), register-fits _ _ c.load_current-h.ensures c.in_ok-register.ensures _ c.spoken.ensures)

pub bounds-b-19 : goal.bounds-b-19
bounds-b-19 c = omega (arith, sound-size _ c.requires, c.say.auto.b)

pub returns-in_err-register : goal.returns-in_err-register
returns-in_err-register c =
    let p = err_from_is_err_and c.from_residual.result c.from_residual.ensures.1 in
    rw (p.1, p.2) (register-refused _ _ c.load_current-h.ensures _ c.in_err-register.ensures)

pub returns : goal.returns
returns c =
    rw (mapped (registering (own_in_book c.args.b.now)) c.load_current-h.result.client c.map.result c.map.ensures.cases (λ v e k. search rules))
    (register-done _ _ c.load_current-h.ensures c.in_ok-register.ensures _ c.spoken.ensures _ c.say.ensures)
