-- `record_steps::carrier_view::join` meets its contract: each return is at its place in the row.
use mathlib.Core.Path.{sym, ◌∙◌}
use Rattle.record_steps.specs.Turns.{join_verdict}
use Rattle.views.proofs.VerdictLaws.{need-met, need-unmet}
use Rattle.record_steps.proofs.carrier_view.join.Goals as goal

pub returns-then-not-contains : goal.returns-then-not-contains
unfolding join_verdict
returns-then-not-contains c = sym (need-unmet _ _ (sym c.contains.ensures ∙ c.if-not-contains.true))

pub returns-then-not-above : goal.returns-then-not-above
unfolding join_verdict
returns-then-not-above c =
    sym (need-met _ _ (sym c.contains.ensures ∙ c.if-not-contains.false)
    ∙ need-unmet _ _ (sym c.above.ensures ∙ c.if-not-above.true))

pub returns : goal.returns
unfolding join_verdict
returns c =
    sym (need-met _ _ (sym c.contains.ensures ∙ c.if-not-contains.false)
    ∙ need-met _ _ (sym c.above.ensures ∙ c.if-not-above.false))
