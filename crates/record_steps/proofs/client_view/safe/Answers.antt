-- `record_steps::client_view::safe` meets its contract: each return is at its place in the row.
use mathlib.Core.Path.{◌≡◌, sym, ◌∙◌}
use mathlib.Core.List.{[]}
use Rattle.std.specs.Prelude.{None, Some}
use Rattle.std.proofs.lemmas.Result.{err_from_is_err_and}
use Prim.Native.Nat.{◌≤◌, min}
use native.Mathlib.Omega.{arith}
use borrow.Author.Tests.{lt-ltb, le-ltb}
use lib.ListN.{length}
use Rattle.record_steps.specs.Turns.{items_of, unheld, safe_verdict}
use Rattle.views.specs.declared.refusal.Refusal.TheVariants.{NoClientView}
use Rattle.views.proofs.VerdictLaws.{need-met, need-unmet}
use Rattle.views.proofs.OrderLaws.{le-holds, le-fails}
use Rattle.record_steps.proofs.RowLaws.{items-length, safe-row}
use Rattle.record_steps.proofs.client_view.safe.Goals as goal
use Rattle.record_steps.proofs.client_view.safe.Goals.{then-le-via-then-le, then-le-via-else-le+then-own-h}

pub returns-then-not-in_step : goal.returns-then-not-in_step
unfolding safe_verdict
returns-then-not-in_step c =
    let e : c.args.h.client ≡ Some c.in_ok-v.v = grind arith in
    sym
    (safe-row 0 (unheld c.args.h) [] (items_of c.args.own) [] c.args.n
    ∙ need-met _ _ (rw e)
    ∙ need-unmet _ _ (sym c.in_step.ensures ∙ c.if-not-in_step.true))

pub returns-then-le : goal.returns-then-le
unfolding safe_verdict
returns-then-le c =
    let a = c.args in
    let long : length (items_of a.own) ≡ a.own = items-length a.own in
    let low : min a.h.handed.0 (length (items_of a.own)) ≤ a.h.reported.0 = elim c.then-le.branch [ then-le-via-then-le w ↦ omega (arith, le-holds a.h.handed.0 a.h.reported.0 c.le.ensures w.if-le.true) | then-le-via-else-le+then-own-h w ↦ omega arith ] in
    let e : c.args.h.client ≡ Some c.in_ok-v.v = grind arith in
    sym
    (safe-row 0 (unheld a.h) [] (items_of a.own) [] a.n
    ∙ need-met _ _ (rw e)
    ∙ need-met _ _ (sym c.in_step.ensures ∙ c.if-not-in_step.false)
    ∙ need-unmet _ _ (le-ltb _ _ low))

pub returns-then-not-all_told : goal.returns-then-not-all_told
unfolding safe_verdict
returns-then-not-all_told c =
    let e : c.args.h.client ≡ Some c.in_ok-v.v = grind arith in
    sym
    (safe-row 0 (unheld c.args.h) [] (items_of c.args.own) [] c.args.n
    ∙ need-met _ _ (rw e)
    ∙ need-met _ _ (sym c.in_step.ensures ∙ c.if-not-in_step.false)
    ∙ need-met _ _ (lt-ltb c.args.h.reported.0 (min c.args.h.handed.0 (length (items_of c.args.own))) (omega (arith, items-length c.args.own, le-fails c.args.h.handed.0 c.args.h.reported.0 c.le.ensures c.if-le.false, c.if-own-h.false)))
    ∙ need-unmet _ _ (rw e (sym c.all_told.ensures ∙ c.if-not-all_told.true)))

pub returns : goal.returns
unfolding safe_verdict
returns c =
    let e : c.args.h.client ≡ Some c.in_ok-v.v = grind arith in
    sym
    (safe-row 0 (unheld c.args.h) [] (items_of c.args.own) [] c.args.n
    ∙ need-met _ _ (rw e)
    ∙ need-met _ _ (sym c.in_step.ensures ∙ c.if-not-in_step.false)
    ∙ need-met _ _ (lt-ltb c.args.h.reported.0 (min c.args.h.handed.0 (length (items_of c.args.own))) (omega (arith, items-length c.args.own, le-fails c.args.h.handed.0 c.args.h.reported.0 c.le.ensures c.if-le.false, c.if-own-h.false)))
    ∙ need-met _ _ (rw e (sym c.all_told.ensures ∙ c.if-not-all_told.false)))

pub returns-in_err-v : goal.returns-in_err-v
unfolding safe_verdict
returns-in_err-v c =
    let a = c.args in
    let e : a.h.client ≡ None = grind arith in
    let r : c.in_err-v.field-0.0 ≡ NoClientView = grind arith in
    let p = err_from_is_err_and c.from_residual.result c.from_residual.ensures.1 in
    rw (p.1, p.2, r)
    (sym
    (safe-row 0 (unheld a.h) [] (items_of a.own) [] a.n
    ∙ need-unmet _ _ (rw e)))
