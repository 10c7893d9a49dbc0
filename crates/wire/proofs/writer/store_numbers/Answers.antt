-- `writer::store_numbers` meets its contract: the count, and the number behind it where there is one.
use mathlib.Core.Path.{◌≡◌, refl, ◌∙◌}
use Prim.Native.Nat.{◌+◌}
use native.Mathlib.Omega.{arith}
use Rattle.wire.proofs.WriterLaws.{numbers-stored, no-number-stored, numbers-one}
use Rattle.wire.proofs.writer.store_numbers.Goals as goal

pub returns-else-count-ne0 : goal.returns-else-count-ne0
returns-else-count-ne0 c = numbers-stored c.args.m c.args.at c.numbers_in-count.result _ c.args.b.now _ c.numbers_in-count.ensures refl (omega arith) (no-number-stored _ (c.args.at + 1) c.numbers_in-count.result _ c.if-count-ne0.false)

pub returns-then-count-ne0 : goal.returns-then-count-ne0
returns-then-count-ne0 c =
    let one : c.numbers_in-count.result ≡ 1 = omega (arith, c.numbers_in-count.ensures, numbers-one c.args.m, c.if-count-ne0.true) in
    numbers-stored c.args.m c.args.at c.numbers_in-count.result c.number.result c.args.b.now _ c.numbers_in-count.ensures c.number.ensures (omega arith) (c.put_number.ensures ∙ rw one)
