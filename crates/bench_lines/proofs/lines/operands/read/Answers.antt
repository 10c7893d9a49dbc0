-- One operand is the whole rest; two stand before and behind the first space.
use mathlib.Core.Path.{sym, ◌∙◌}
use native.Mathlib.Omega.{arith}
use lib.Seq.{length-take-le}
use Rattle.bench_lines.proofs.WordLaws.{find-le}
use Rattle.bench_lines.proofs.OperandLaws.{fits_one, fits-two, operands-one, operands_short, operands-two}
use Rattle.bench_lines.proofs.lines.operands.read.Goals as goal

pub make-requires : goal.make-requires
make-requires c =
    let a = c.args in
    fits_one a.form a.rest.now _ c.requires c.read_numeral-only.ensures

pub returns-then-form-eq0 : goal.returns-then-form-eq0
returns-then-form-eq0 c =
    let a = c.args in
    c.make.ensures ∙ sym (operands-one a.form a.rest.now _ c.if-form-eq0.true c.read_numeral-only.ensures)

pub returns-then-end-rest : goal.returns-then-end-rest
returns-then-end-rest c =
    let a = c.args in
    sym (operands_short a.form a.rest.now _ c.if-form-eq0.false c.find-end.ensures c.if-end-rest.true)

pub overflow_add-end : goal.overflow_add-end
overflow_add-end c = omega (arith, find-le 32 c.args.rest.now 0)

pub slice_bounds-read_numeral-end : goal.slice_bounds-read_numeral-end
slice_bounds-read_numeral-end c = sym (length-take-le c.find-end.result c.args.rest.now (omega (arith, find-le 32 c.args.rest.now 0)))

pub slice_bounds-read_numeral-count : goal.slice_bounds-read_numeral-count
slice_bounds-read_numeral-count c = omega (arith, find-le 32 c.args.rest.now 0)

pub slice_bounds-read_numeral-start : goal.slice_bounds-read_numeral-start
slice_bounds-read_numeral-start c = omega (arith, find-le 32 c.args.rest.now 0)

pub make-requires-2 : goal.make-requires-2
make-requires-2 c =
    fits-two c.args.form _ _ _ _ c.requires c.read_numeral-first.ensures c.read_numeral-second.ensures

pub returns : goal.returns
returns c =
    let a = c.args in
    c.make-2.ensures ∙ sym (operands-two a.form a.rest.now _ _ _ c.if-form-eq0.false c.find-end.ensures c.if-end-rest.false c.read_numeral-first.ensures c.read_numeral-second.ensures)
