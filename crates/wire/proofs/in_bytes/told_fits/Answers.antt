-- `in_bytes::told_fits` meets its contract: by the halves of the number.
use mathlib.Core.Path.{◌≡◌, sym, ◌∙◌}
use native.Mathlib.Omega.{arith}
use borrow.Author.Tests.{ne_eqb}
use Rattle.std.proofs.Common.{rules}
use Rattle.numbers.specs.Number.{get}
use Rattle.numbers.proofs.NumberLaws.{halves}
use Rattle.wire.proofs.InBytesLaws.{told-high}
use Rattle.wire.proofs.in_bytes.told_fits.Goals as goal

pub returns-then-get_number-eq0 : goal.returns-then-get_number-eq0
returns-then-get_number-eq0 c =
    let a = c.args in
    let low = c.get_number-then-get_number-eq0 in
    let same : get a.b.now a.at 8 ≡ low.result = omega (arith, halves a.b.now a.at, c.get_number.ensures.0, low.ensures.0) in
    rw same (search rules)

pub returns-else-get_number-eq0 : goal.returns-else-get_number-eq0
returns-else-get_number-eq0 c =
    let high = c.if-get_number-eq0.false in
    ne_eqb _ _ high ∙ sym (told-high _ _ _ (halves c.args.b.now c.args.at) (λ e. high (c.get_number.ensures.0 ∙ e)))
