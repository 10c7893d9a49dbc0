-- What the digits so far and the rest of the word say is what the word says.
use mathlib.Core.Path.{sym, ◌∙◌}
use native.Mathlib.Omega.{arith}
use Prim.Native.Nat.{◌+◌, ◌-◌, ◌*◌, ◌<◌}
use lib.ListN.{get_or}
use Rattle.bench_lines.proofs.NumeralLaws.{digit-is, numeral-unbegun, numeral-begun, turn-other, turn-digit, turn-large, turn_end}
use Rattle.bench_lines.proofs.texts.numerals.read_numeral.Goals as goal
use Rattle.bench_lines.proofs.texts.numerals.read_numeral.Goals.{then-max-d-via-then-max-d, then-max-d-via-else-max-d+then-max-d-2}

pub returns-then-not-well_begun : goal.returns-then-not-well_begun
returns-then-not-well_begun c = sym (numeral-unbegun c.args.max c.args.word.now (sym c.well_begun.ensures ∙ c.if-not-well_begun.true))

pub loop-c-init : goal.loop-c-init
loop-c-init c = (omega arith, numeral-begun c.args.max c.args.word.now (sym c.well_begun.ensures ∙ c.if-not-well_begun.false))

pub returns-then-not-is_ascii_digit : goal.returns-then-not-is_ascii_digit
returns-then-not-is_ascii_digit c = sym (c.loop-c.invariant.1 ∙ turn-other c.args.max c.loop-c.x c.loop-c.c-index c.args.word.now (omega arith) (sym (digit-is (get_or c.args.word.now c.loop-c.c-index 0)) ∙ sym c.is_ascii_digit.ensures.value ∙ c.if-not-is_ascii_digit.true))

pub returns-then-max-d : goal.returns-then-max-d
returns-then-max-d c =
    let more : c.args.max < c.loop-c.x * 10 + (get_or c.args.word.now c.loop-c.c-index 0 - 48) =
    elim c.then-max-d.branch [ then-max-d-via-then-max-d w ↦ omega arith | then-max-d-via-else-max-d+then-max-d-2 w ↦ omega arith ]
    in
    sym (c.loop-c.invariant.1 ∙ turn-large c.args.max c.loop-c.x c.loop-c.c-index c.args.word.now (omega arith) (sym (digit-is (get_or c.args.word.now c.loop-c.c-index 0)) ∙ sym c.is_ascii_digit.ensures.value ∙ c.if-not-is_ascii_digit.false) more)

pub loop-c-preserved : goal.loop-c-preserved
loop-c-preserved c = (omega arith, c.loop-c.invariant.1 ∙ rw c.from-d.ensures (turn-digit c.args.max c.loop-c.x c.loop-c.c-index c.args.word.now (omega arith) (sym (digit-is (get_or c.args.word.now c.loop-c.c-index 0)) ∙ sym c.is_ascii_digit.ensures.value ∙ c.if-not-is_ascii_digit.false)))

pub returns : goal.returns
returns c = sym (c.loop-c.invariant.1 ∙ turn_end c.args.max c.loop-c.x c.loop-c.c-index c.args.word.now (omega arith) (omega arith))
