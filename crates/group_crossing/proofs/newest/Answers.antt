-- `group_crossing::newest` meets its contract: the last below i is the last of all.
use mathlib.Core.Path.{sym, ap, ◌∙◌}
use native.Mathlib.Omega.{arith}
use Rattle.std.specs.Prelude.{Some}
use Rattle.group_crossing.proofs.NewestLaws.{last_found, last_on, last_none}
use Rattle.group_crossing.proofs.newest.Goals as goal

pub returns-then-earlier : goal.returns-then-earlier
returns-then-earlier c =
    ap (λ v. Some v) c.load_view.ensures
    ∙ sym (last_found c.args.list.now _ c.loop-i.i (omega arith) (sym c.earlier.ensures ∙ c.if-earlier.true)) ∙ c.loop-i.invariant

pub loop-i-preserved : goal.loop-i-preserved
loop-i-preserved c = sym (last_on c.args.list.now _ c.loop-i.i (omega arith) (sym c.earlier.ensures ∙ c.if-earlier.false)) ∙ c.loop-i.invariant

pub returns : goal.returns
returns c = sym (last_none c.args.list.now _ c.loop-i.i (omega arith)) ∙ c.loop-i.invariant
