-- `writer::copy_numbers` meets its contract: the count, and the number copied behind it where there is one.
use mathlib.Core.Path.{◌≡◌, refl, ap, ◌∙◌}
use Prim.Native.Nat.{ℕ, ◌+◌, ◌*◌}
use native.Mathlib.Omega.{arith}
use lib.ListN.{length-set}
use Rattle.numbers.specs.Number.{get}
use Rattle.wire.specs.Writer.{number_of}
use Rattle.wire.proofs.WriterLaws.{numbers-stored, no-number-stored, numbers-one, one-copied}
use Rattle.wire.proofs.writer.copy_numbers.Goals as goal

pub returns-else-many-ne0 : goal.returns-else-many-ne0
returns-else-many-ne0 c =
    let a = c.args in
    numbers-stored a.m a.to c.numbers_in-many.result _ a.out.now _ c.numbers_in-many.ensures refl (omega arith) (no-number-stored _ (a.to + 1) c.numbers_in-many.result _ c.if-many-ne0.false)

pub returns-then-many-ne0 : goal.returns-then-many-ne0
returns-then-many-ne0 c =
    let a = c.args in
    let one : c.numbers_in-many.result ≡ 1 = omega (arith, c.numbers_in-many.ensures, numbers-one a.m, c.if-many-ne0.true) in
    let k = c.numbers_in-many in
    let lies : get a.from.now a.number (8 * k.result) ≡ number_of a.m = ap (λ (j : ℕ). get a.from.now a.number (8 * j)) k.ensures ∙ c.requires.2 in
    numbers-stored a.m a.to k.result _ a.out.now _ k.ensures refl (omega arith)
    (c.copy.ensures ∙ one-copied _ a.from.now (a.to + 1) a.number k.result _ one (simp length-set (omega arith)) (omega arith) (λ j. omega (arith, c.shared_slice_known-1.given j)) lies)
