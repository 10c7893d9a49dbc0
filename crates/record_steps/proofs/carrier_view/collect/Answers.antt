-- `record_steps::carrier_view::collect` meets its contract: each return is at its place in the row.
use mathlib.Core.Path.{◌≡◌, sym, ◌∙◌}
use mathlib.Core.List.{[]}
use Rattle.std.specs.Prelude.{None, Some, unwrap_or}
use Rattle.std.proofs.lemmas.Result.{err_from_is_err_and}
use native.Mathlib.Omega.{arith}
use borrow.Author.Tests.{lt-ltb, le-ltb}
use Rattle.record_steps.specs.Turns.{settled_as, collect_turn}
use Rattle.views.specs.Lists.{no_view}
use Rattle.views.specs.declared.refusal.Refusal.TheVariants.{NoCarrierView}
use Rattle.views.proofs.VerdictLaws.{need-met, need-unmet}
use Rattle.views.proofs.OrderLaws.{le-holds, le-fails}
use Rattle.record_steps.proofs.RowLaws.{refused-by, accepted-by, collect-row}
use Rattle.record_steps.proofs.carrier_view.collect.Goals as goal

pub returns-then-le : goal.returns-then-le
unfolding collect_turn
returns-then-le c =
    let a = c.args in
    let e : a.h.carrier ≡ Some c.in_ok-v.v = grind arith in
    refused-by _ _
    (collect-row 0 a.h [] [] [] a.n
    ∙ need-met _ _ (rw e)
    ∙ need-unmet _ _ (rw e (le-ltb _ _ (le-holds _ _ c.le.ensures c.if-le.true))))

pub returns-then-not-all_noted : goal.returns-then-not-all_noted
unfolding collect_turn
returns-then-not-all_noted c =
    let a = c.args in
    let e : a.h.carrier ≡ Some c.in_ok-v.v = grind arith in
    refused-by _ _
    (collect-row 0 a.h [] [] [] a.n
    ∙ need-met _ _ (rw e)
    ∙ need-met _ _ (rw e (lt-ltb _ _ (le-fails _ _ c.le.ensures c.if-le.false)))
    ∙ need-unmet _ _ (rw e (sym c.all_noted.ensures ∙ c.if-not-all_noted.true)))

pub returns : goal.returns
unfolding collect_turn settled_as
returns c =
    let a = c.args in
    let e : a.h.carrier ≡ Some c.in_ok-v.v = grind arith in
    let u : unwrap_or a.h.carrier no_view ≡ c.in_ok-v.v = rw e in
    rw (c.prune.ensures, ← u)
    (accepted-by _
    (collect-row 0 a.h [] [] [] a.n
    ∙ need-met _ _ (rw e)
    ∙ need-met _ _ (rw e (lt-ltb _ _ (le-fails _ _ c.le.ensures c.if-le.false)))
    ∙ need-met _ _ (rw e (sym c.all_noted.ensures ∙ c.if-not-all_noted.false))))

pub returns-in_err-v : goal.returns-in_err-v
unfolding collect_turn
returns-in_err-v c =
    let a = c.args in
    let e : a.h.carrier ≡ None = grind arith in
    let r : c.in_err-v.field-0.0 ≡ NoCarrierView = grind arith in
    let p = err_from_is_err_and c.from_residual.result c.from_residual.ensures.1 in
    rw (p.1, p.2, r)
    (refused-by _ _
    (collect-row 0 a.h [] [] [] a.n
    ∙ need-unmet _ _ (rw e)))
