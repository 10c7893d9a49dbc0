-- `group::step::plain` meets its contract: the refusal, or no event.
use mathlib.Core.Path.{sym}
use Rattle.std.specs.Prelude.{None, Ok}
use Rattle.std.proofs.lemmas.Result.{err_from_is_err_and}
use Rattle.views.proofs.VerdictLaws.{then-accepted, then-refused}
use Rattle.group.proofs.step.plain.Goals as goal

pub returns-in_err-v : goal.returns-in_err-v
returns-in_err-v c =
    let e = err_from_is_err_and c.from_residual.result c.from_residual.ensures.1 in
    rw (e.1, e.2) (sym (then-refused _ (Ok None) c.in_err-v.was))

pub returns : goal.returns
returns c = sym (then-accepted (Ok None) c.in_ok-v.was)
