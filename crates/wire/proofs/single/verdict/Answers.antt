-- `single::verdict` meets its contract: by the verdict at the front, and by what is left over.
use mathlib.Core.Path.{sym, ◌∙◌}
use native.Mathlib.Omega.{arith}
use Rattle.std.proofs.lemmas.Result.{err_from_is_err_and}
use Rattle.views.proofs.VerdictLaws.{given-ok, given-err}
use Rattle.wire.proofs.FrontLaws.{says-refused, says-over, says_all}
use Rattle.wire.proofs.single.verdict.Goals as goal

pub returns-in_err-taken : goal.returns-in_err-taken
returns-in_err-taken c =
    let p = err_from_is_err_and c.from_residual.result c.from_residual.ensures.1 in
    rw (p.1, p.2) (sym (given-err (says-refused c.args.b.now _ (sym c.front.ensures ∙ c.in_err-taken.was))))

pub returns-then-taken-b : goal.returns-then-taken-b
returns-then-taken-b c = sym (given-err (says-over c.args.b.now _ (sym c.front.ensures ∙ c.in_ok-taken.was) (omega arith)))

pub returns : goal.returns
returns c = sym (given-ok (says_all c.args.b.now _ (sym c.front.ensures ∙ c.in_ok-taken.was) (omega arith)))
