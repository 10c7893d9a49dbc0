-- `record::read` meets its contract: the verdict, and then the record.
use mathlib.Core.Path.{sym, ap, ◌∙◌}
use Rattle.views.proofs.VerdictLaws.{given-ok}
use Rattle.wire.specs.declared.Reading.{Reading}
use Rattle.wire.specs.Records.{record_bytes}
use Rattle.wire.proofs.TripRead.{front-met, front-is}
use Rattle.wire.proofs.FrontLaws.{at_front}
use Rattle.wire.proofs.record.read.Goals as goal

pub store-requires : goal.store-requires
store-requires c =
    let b = c.args.bytes.now in
    let (_, _, front) = at_front b (sym c.verdict.ensures ∙ c.in_ok-verdict.was) in
    let (scan, whole) = front-met b front in
    (c.requires, scan, whole)

pub returns : goal.returns
returns c =
    let b = c.args.bytes.now in
    let (_, one, front) = at_front b (sym c.verdict.ensures ∙ c.in_ok-verdict.was) in
    (sym (given-ok one), rw one (c.store.ensures ∙ ap (λ (r : Reading). record_bytes r.frame) (sym (front-is b front))))
