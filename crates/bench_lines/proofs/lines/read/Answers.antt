-- The name stands before the first space, its operands behind it.
use mathlib.Core.Path.{sym, ◌∙◌}
use native.Mathlib.Omega.{arith}
use lib.Seq.{length-take-le}
use Rattle.bench_lines.proofs.WordLaws.{find-le}
use Rattle.bench_lines.proofs.LineLaws.{form-fits}
use Rattle.bench_lines.proofs.OperandLaws.{line-long, line-unknown, line-bare, line-whole}
use Rattle.bench_lines.proofs.lines.read.Goals as goal

pub returns-then-line-gt-LONGEST_LINE : goal.returns-then-line-gt-LONGEST_LINE
returns-then-line-gt-LONGEST_LINE c = sym (line-long c.args.line.now c.if-line-gt-LONGEST_LINE.true)

pub slice_bounds-form_of-end : goal.slice_bounds-form_of-end
slice_bounds-form_of-end c = sym (length-take-le c.find-end.result c.args.line.now (omega (arith, find-le 32 c.args.line.now 0)))

pub returns-in_err-form : goal.returns-in_err-form
returns-in_err-form c =
    c.from_residual.ensures
    ∙ sym (line-unknown c.args.line.now _ c.if-line-gt-LONGEST_LINE.false c.find-end.ensures (sym c.form_of.ensures ∙ c.in_err-form.was))

pub returns-then-end-line : goal.returns-then-end-line
returns-then-end-line c =
    sym (line-bare c.args.line.now _ _ c.if-line-gt-LONGEST_LINE.false c.find-end.ensures (sym c.form_of.ensures ∙ c.in_ok-form.was) c.if-end-line.true)

pub overflow_add-end : goal.overflow_add-end
overflow_add-end c = omega (arith, find-le 32 c.args.line.now 0)

pub slice_bounds-read-count : goal.slice_bounds-read-count
slice_bounds-read-count c = omega (arith, find-le 32 c.args.line.now 0)

pub slice_bounds-read-start : goal.slice_bounds-read-start
slice_bounds-read-start c = omega (arith, find-le 32 c.args.line.now 0)

pub read-requires : goal.read-requires
read-requires c = form-fits _ _ (sym c.form_of.ensures ∙ c.in_ok-form.was)

pub returns : goal.returns
returns c =
    sym (line-whole c.args.line.now _ _ _ c.if-line-gt-LONGEST_LINE.false c.find-end.ensures (sym c.form_of.ensures ∙ c.in_ok-form.was) c.if-end-line.false c.read.ensures)
