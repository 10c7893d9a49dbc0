-- `book_steps::client_view::safe` meets its contract: the verdict is the rule's, and one byte changes where it accepts.
use native.Mathlib.Omega.{arith}
use Rattle.std.proofs.Common.{rules}
use Rattle.std.proofs.lemmas.Result.{err_from_is_err_and}
use Rattle.book_bytes.specs.Books.{own_in_book}
use Rattle.book_steps.proofs.Committed.{sound-size, current-side, mapped}
use Rattle.book_steps.proofs.MarkLaws.{reporting, item-small, item-inside, safe-refused, safe-there, safe-done}
use Rattle.book_steps.proofs.client_view.safe.Goals as goal

pub load_current-h-requires : goal.load_current-h-requires
load_current-h-requires c = omega (arith, sound-size _ c.requires)

pub bounds-b-0 : goal.bounds-b-0
bounds-b-0 c = omega (arith, sound-size _ c.requires)

pub bounds-b-at : goal.bounds-b-at
bounds-b-at c = omega (arith, sound-size _ c.requires, current-side _ c.requires _ c.load_current-h.ensures)

pub inward-at-requires : goal.inward-at-requires
inward-at-requires c = current-side _ c.requires _ c.load_current-h.ensures

pub bounds-b-1 : goal.bounds-b-1
bounds-b-1 c = omega (arith, sound-size _ c.requires)

pub item-x-requires : goal.item-x-requires
item-x-requires c =
    let v = rw c.inward-at.ensures at c.in_ok-safe.ensures in
    rw c.inward-at.ensures (item-inside _ c.requires _ c.load_current-h.ensures _ (safe-there _ _ c.load_current-h.ensures v))

pub overflow_add-b : goal.overflow_add-b
overflow_add-b c =
    let v = rw c.inward-at.ensures at c.in_ok-safe.ensures in
    omega (arith, item-small _ c.requires _ c.load_current-h.ensures _ (safe-there _ _ c.load_current-h.ensures v))

pub bounds-b-22 : goal.bounds-b-22
bounds-b-22 c = omega (arith, sound-size _ c.requires)

pub returns-in_err-safe : goal.returns-in_err-safe
returns-in_err-safe c =
    let v = rw c.inward-at.ensures at c.in_err-safe.ensures in
    let p = err_from_is_err_and c.from_residual.result c.from_residual.ensures.1 in
    rw (p.1, p.2) (safe-refused _ _ c.load_current-h.ensures _ v)

pub returns : goal.returns
returns c =
    let v = rw c.inward-at.ensures at c.in_ok-safe.ensures in
    let e = mapped (reporting (own_in_book c.args.b.now) c.item-x.result) c.load_current-h.result.client c.map.result c.map.ensures.cases (λ w x k. search rules)
    in
    rw (e, c.item-x.ensures, c.inward-at.ensures) (safe-done _ _ c.load_current-h.ensures v)
