-- By cases on the two operands; what fits is within the types of the fields.
use mathlib.Core.Path.{sym, ◌∙◌}
use native.Mathlib.Omega.{arith}
use Rattle.bench_lines.proofs.LineLaws.{made-no-first, made-no-second, made-group, made-step, fits-first, fits-group}
use Rattle.bench_lines.proofs.lines.operands.make.Goals as goal

pub returns-in_err-x : goal.returns-in_err-x
returns-in_err-x c =
    c.from_residual.ensures ∙ sym (made-no-first c.args.form c.args.first c.args.second c.in_err-x.was)

pub returns-in_err-y : goal.returns-in_err-y
returns-in_err-y c =
    c.from_residual-in_err-y.ensures ∙ sym (made-no-second c.args.form c.args.first c.args.second c.in_err-y.was)

pub overflow_cast-result : goal.overflow_cast-result
overflow_cast-result c = omega (arith, fits-group c.args.form c.args.first c.args.second _ _ c.requires c.if-form-eq-GROUP.true c.in_ok-x.was c.in_ok-y.was)

pub overflow_cast-result-then-form-eq-GROUP : goal.overflow_cast-result-then-form-eq-GROUP
overflow_cast-result-then-form-eq-GROUP c = omega (arith, fits-group c.args.form c.args.first c.args.second _ _ c.requires c.if-form-eq-GROUP.true c.in_ok-x.was c.in_ok-y.was)

pub returns-then-form-eq-GROUP : goal.returns-then-form-eq-GROUP
returns-then-form-eq-GROUP c =
    let a = c.args in
    sym (made-group a.form a.first a.second _ _ c.in_ok-x.was c.in_ok-y.was c.if-form-eq-GROUP.true)

pub overflow_cast-result-2 : goal.overflow_cast-result-2
overflow_cast-result-2 c = omega (arith, fits-first c.args.form c.args.first c.args.second _ c.requires c.in_ok-x.was)

pub returns : goal.returns
returns c =
    let a = c.args in
    sym (made-step a.form a.first a.second _ _ c.in_ok-x.was c.in_ok-y.was c.if-form-eq-GROUP.false)
