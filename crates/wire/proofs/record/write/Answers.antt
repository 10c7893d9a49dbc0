-- `record::write` meets its contract: the frame whose views lie in the record is written as the record's frame.
use mathlib.Core.Path.{◌≡◌, refl, sym, ap, ◌∙◌}
use native.Mathlib.Omega.{arith}
use lib.ListN.{get_or}
use Rattle.std.proofs.lemmas.Result.{err_from_is_err_and}
use Rattle.wire.specs.Reader.{message_of}
use Rattle.numbers.specs.Number.{get}
use Rattle.wire.proofs.RecordAskedLaws.{record-few, from-lies, from-accepted, from-wrote}
use Rattle.wire.proofs.WriterLaws.{wrote-refused}
use Rattle.wire.proofs.record.write.Goals as goal

pub returns-in_err-check : goal.returns-in_err-check
returns-in_err-check c =
    let p = err_from_is_err_and c.from_residual.result c.from_residual.ensures.1 in
    rw (p.1, p.2) (wrote-refused _ c.args.out.now _ (sym c.check.ensures ∙ c.in_err-check.was))

pub write_from-requires : goal.write_from-requires
write_from-requires c =
    let r = c.args.message.now in
    let g : c.get_number-g.result ≡ get r 1 4 = c.get_number-g.ensures.0 in
    let k = c.requires.1 in
    let v = sym c.check.ensures ∙ c.in_ok-check.was in
    let m : c.message-m.result ≡ message_of (get_or r 0 0) (get r 5 8) = c.message-m.ensures ∙ ap (message_of _) c.get_number-x.ensures.0 in
    (omega arith, from-lies r k v _ m, omega (arith, record-few r k v), from-accepted r k v _ c.message-m.result _ (rw g) m refl)

pub returns : goal.returns
returns c =
    let r = c.args.message.now in
    let g : c.get_number-g.result ≡ get r 1 4 = c.get_number-g.ensures.0 in
    from-wrote r c.requires.1 (sym c.check.ensures ∙ c.in_ok-check.was) _ c.message-m.result _
    (rw g) (c.message-m.ensures ∙ ap (message_of _) c.get_number-x.ensures.0) refl c.args.out.now _ _ c.write_from.ensures
