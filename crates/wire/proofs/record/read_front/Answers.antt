-- `record::read_front` meets its contract: the verdict on what is at the front, and then the record.
use mathlib.Core.Path.{sym, ◌∙◌}
use Rattle.std.proofs.lemmas.Result.{err_from_is_err_and}
use Rattle.wire.proofs.FrontLaws.{refused-front, read-from}
use Rattle.wire.proofs.TripRead.{front-met}
use Rattle.wire.proofs.record.read_front.Goals as goal

pub returns-in_err-taken : goal.returns-in_err-taken
returns-in_err-taken c =
    let p = err_from_is_err_and c.from_residual.result c.from_residual.ensures.1 in
    let e = sym c.front.ensures ∙ c.in_err-taken.was in
    (rw (p.1, p.2) (sym e), rw (refused-front c.args.bytes.now _ e))

pub store-requires : goal.store-requires
store-requires c =
    let b = c.args.bytes.now in
    let (scan, whole) = front-met b (read-from b _ (sym c.front.ensures ∙ c.in_ok-taken.was)) in
    (c.requires, scan, whole)

pub returns : goal.returns
returns c =
    let b = c.args.bytes.now in
    let e = sym c.front.ensures ∙ c.in_ok-taken.was in
    (sym e, rw (read-from b _ e) c.store.ensures)
