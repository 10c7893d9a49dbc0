-- `group_run::pair` meets its contract, a test at a time.
use mathlib.Core.Path.{sym, ◌∙◌}
use mathlib.Core.Bool.{true≢false}
use borrow.Author.Tests.{eq-eqb, ne_eqb}
use Rattle.group_run.proofs.Promise.{steps-broken, answers-broken, answers-counted}
use Rattle.group_run.proofs.pair.Goals as goal
use Rattle.group_run.proofs.pair.Goals.{then-steps-eq0, else-steps-eq0}

pub returns-then-answers-eq0 : goal.returns-then-answers-eq0
returns-then-answers-eq0 c =
    let a = c.args in
    elim c.if-steps-eq0.branch [
      | then-steps-eq0 w ↦ answers-counted a.steps a.answers (eq-eqb _ _ w.if-steps-eq0.true) (sym w.value-is ∙ c.if-answers-eq0.true)
      | else-steps-eq0 w ↦ absurd (true≢false (sym c.if-answers-eq0.true ∙ w.value-is ∙ ne_eqb _ _ w.if-steps-eq0.false))
    ]

pub returns-else-answers-eq0 : goal.returns-else-answers-eq0
returns-else-answers-eq0 c =
    let a = c.args in
    elim c.if-steps-eq0.branch [
      | then-steps-eq0 w ↦ c.if-answers-eq0.false ∙ answers-broken a.steps a.answers (eq-eqb _ _ w.if-steps-eq0.true) (sym w.value-is ∙ c.if-answers-eq0.false)
      | else-steps-eq0 w ↦ c.if-answers-eq0.false ∙ steps-broken a.steps a.answers (ne_eqb _ _ w.if-steps-eq0.false)
    ]
