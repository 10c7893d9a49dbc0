-- `book_steps::carrier_view::collect` meets its contract: the turn of the record that was loaded is the rule's.
use mathlib.Core.Path.{◌≡◌}
use native.Mathlib.Omega.{arith}
use Rattle.std.proofs.Common.{rules, Ok, Err}
use Rattle.std.proofs.lemmas.Result.{err_from_is_err_and}
use Rattle.book_bytes.specs.Books.{members_in}
use Rattle.record_steps.specs.Turns.{collect_turn}
use Rattle.book_steps.proofs.Committed.{sound-size}
use Rattle.book_steps.proofs.MarkLaws.{collect-refused, collect-few, collect-done}
use Rattle.book_steps.proofs.carrier_view.collect.Goals as goal

pub load-h-requires : goal.load-h-requires
load-h-requires c = omega (arith, sound-size _ c.requires)

pub bounds-b-0 : goal.bounds-b-0
bounds-b-0 c = omega (arith, sound-size _ c.requires)

pub store-requires : goal.store-requires
store-requires c =
    let turned : Ok c.in_ok-next.next ≡ collect_turn (members_in c.args.b.now) c.load-h.result = search rules in
    (omega (arith, sound-size _ c.requires), collect-few _ _ c.load-h.ensures _ turned)

pub returns-in_err-next : goal.returns-in_err-next
returns-in_err-next c =
    let turned : Err c.in_err-next.field-0.0 ≡ collect_turn (members_in c.args.b.now) c.load-h.result = search rules in
    let p = err_from_is_err_and c.from_residual.result c.from_residual.ensures.1 in
    rw (p.1, p.2) (collect-refused _ _ c.load-h.ensures _ turned)

pub returns : goal.returns
returns c =
    let turned : Ok c.in_ok-next.next ≡ collect_turn (members_in c.args.b.now) c.load-h.result = search rules in
    collect-done _ _ c.load-h.ensures _ turned _ c.store.ensures
