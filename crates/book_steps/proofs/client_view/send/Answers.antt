-- `book_steps::client_view::send` meets its contract: the verdict is the rule's, and the message is said where it accepts.
use native.Mathlib.Omega.{arith}
use Rattle.std.proofs.Common.{rules}
use Rattle.std.proofs.lemmas.Result.{err_from_is_err_and}
use Rattle.book_bytes.specs.Books.{own_in_book}
use Rattle.book_steps.proofs.Committed.{sound-size, mapped}
use Rattle.book_steps.proofs.SpeakLaws.{sending, send-refused, send-fits, send-done}
use Rattle.book_steps.proofs.client_view.send.Goals as goal

pub load_current-h-requires : goal.load_current-h-requires
load_current-h-requires c = omega (arith, sound-size _ c.requires)

pub bounds-b-191 : goal.bounds-b-191
bounds-b-191 c = omega (arith, sound-size _ c.requires)

pub bounds-b-1 : goal.bounds-b-1
bounds-b-1 c = omega (arith, sound-size _ c.requires)

pub say-requires : goal.say-requires
say-requires c = (omega (arith, sound-size _ c.requires), send-fits _ _ c.load_current-h.ensures c.args.entry c.in_ok-send.ensures _ c.spoken.ensures)

pub returns-in_err-send : goal.returns-in_err-send
returns-in_err-send c =
    let p = err_from_is_err_and c.from_residual.result c.from_residual.ensures.1 in
    rw (p.1, p.2) (send-refused _ _ c.load_current-h.ensures c.args.entry _ c.in_err-send.ensures)

pub returns : goal.returns
returns c =
    rw (mapped (sending (own_in_book c.args.b.now) c.args.entry) c.load_current-h.result.client c.map.result c.map.ensures.cases (λ v e k. search rules))
    (send-done _ _ c.load_current-h.ensures c.args.entry c.in_ok-send.ensures _ c.spoken.ensures _ c.say.ensures)
