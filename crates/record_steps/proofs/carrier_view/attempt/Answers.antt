-- `record_steps::carrier_view::attempt` meets its contract: each return is at its place in the row.
use mathlib.Core.Path.{◌≡◌, sym, ◌∙◌}
use mathlib.Core.List.{[]}
use Rattle.std.specs.Prelude.{None, Some, unwrap_or}
use Rattle.std.proofs.lemmas.Result.{err_from_is_err_and}
use native.Mathlib.Omega.{arith}
use Rattle.views.specs.Sets.{one}
use Rattle.record_steps.specs.Turns.{attempt_turn}
use Rattle.views.specs.Lists.{no_view}
use Rattle.views.specs.declared.refusal.Refusal.TheVariants.{NoCarrierView}
use Rattle.views.proofs.VerdictLaws.{need-met, need-unmet}
use Rattle.record_steps.proofs.RowLaws.{refused-by, accepted-by, attempt-row}
use Rattle.record_steps.proofs.carrier_view.attempt.Goals as goal

pub returns-then-not-above : goal.returns-then-not-above
unfolding attempt_turn
returns-then-not-above c =
    let a = c.args in
    let e : a.h.carrier ≡ Some c.in_ok-v.v = grind arith in
    refused-by _ _
    (attempt-row 0 a.h [] [] [] one a.n
    ∙ need-met _ _ (rw e)
    ∙ need-unmet _ _ (rw e (sym c.above.ensures ∙ c.if-not-above.true)))

pub returns-then-not-all_noted : goal.returns-then-not-all_noted
unfolding attempt_turn
returns-then-not-all_noted c =
    let a = c.args in
    let e : a.h.carrier ≡ Some c.in_ok-v.v = grind arith in
    refused-by _ _
    (attempt-row 0 a.h [] [] [] one a.n
    ∙ need-met _ _ (rw e)
    ∙ need-met _ _ (rw e (sym c.above.ensures ∙ c.if-not-above.false))
    ∙ need-unmet _ _ (rw e (sym c.all_noted.ensures ∙ c.if-not-all_noted.true)))

pub returns-then-not-passes_all : goal.returns-then-not-passes_all
unfolding attempt_turn
returns-then-not-passes_all c =
    let a = c.args in
    let e : a.h.carrier ≡ Some c.in_ok-v.v = grind arith in
    refused-by _ _
    (attempt-row 0 a.h [] [] [] one a.n
    ∙ need-met _ _ (rw e)
    ∙ need-met _ _ (rw e (sym c.above.ensures ∙ c.if-not-above.false))
    ∙ need-met _ _ (rw e (sym c.all_noted.ensures ∙ c.if-not-all_noted.false))
    ∙ need-unmet _ _ (rw e (sym c.passes_all.ensures ∙ c.if-not-passes_all.true)))

pub returns : goal.returns
unfolding attempt_turn
returns c =
    let a = c.args in
    let e : a.h.carrier ≡ Some c.in_ok-v.v = grind arith in
    let u : unwrap_or a.h.carrier no_view ≡ c.in_ok-v.v = rw e in
    rw (c.attempted.ensures, ← u)
    (accepted-by _
    (attempt-row 0 a.h [] [] [] one a.n
    ∙ need-met _ _ (rw e)
    ∙ need-met _ _ (rw e (sym c.above.ensures ∙ c.if-not-above.false))
    ∙ need-met _ _ (rw e (sym c.all_noted.ensures ∙ c.if-not-all_noted.false))
    ∙ need-met _ _ (rw e (sym c.passes_all.ensures ∙ c.if-not-passes_all.false))))

pub returns-in_err-v : goal.returns-in_err-v
unfolding attempt_turn
returns-in_err-v c =
    let a = c.args in
    let e : a.h.carrier ≡ None = grind arith in
    let r : c.in_err-v.field-0.0 ≡ NoCarrierView = grind arith in
    let p = err_from_is_err_and c.from_residual.result c.from_residual.ensures.1 in
    rw (p.1, p.2, r)
    (refused-by _ _
    (attempt-row 0 a.h [] [] [] one a.n
    ∙ need-unmet _ _ (rw e)))
