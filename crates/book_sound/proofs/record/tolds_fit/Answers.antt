-- `book_sound::record::tolds_fit` meets its contract: a count that is too large is that of a member, and past the places there is none.
use Rattle.std.proofs.Common.{rules, length, ◌≡◌}
use mathlib.Core.Path.{sym}
use native.Mathlib.Omega.{arith}
use borrow.Author.Tests.{lt-leb}
use Rattle.rules.proofs.Truth.{every-stop}
use Rattle.book_sound.proofs.Walks.{tolds-end}
use Rattle.book_sound.proofs.record.tolds_fit.Goals as goal

pub returns-then-tolds-q-gt-ORDERED : goal.returns-then-tolds-q-gt-ORDERED
returns-then-tolds-q-gt-ORDERED c =
    sym (every-stop c.args.n _ c.loop-q.q (omega (arith, c.from.ensures, c.if-q-from.true)) (lt-leb _ _ c.if-tolds-q-gt-ORDERED.true))

pub returns : goal.returns
returns c =
    let long : length c.args.tolds ≡ 8 = search rules in
    sym (tolds-end c.args.n c.args.tolds c.loop-q.q (omega arith) c.loop-q.invariant)
