-- A refusal is the first test that is not met: those before it were passed.
use mathlib.Core.Path.{sym, ◌∙◌}
use borrow.Author.Tests.{not-true, not-false}
use Rattle.wire.specs.Format.{content_of}
use Rattle.views.proofs.VerdictLaws.{need-met, need-unmet}
use Rattle.wire.proofs.format.content.Goals as goal

pub returns-then-some_empty : goal.returns-then-some_empty
unfolding content_of
returns-then-some_empty c = sym (need-unmet _ _ (rw (sym c.some_empty.ensures ∙ c.if-some_empty.true)))

pub returns-then-not-rising : goal.returns-then-not-rising
unfolding content_of
returns-then-not-rising c = sym (need-met _ _ (rw (sym c.some_empty.ensures ∙ c.if-some_empty.false)) ∙ need-unmet _ _ (sym c.rising.ensures ∙ not-true _ c.if-not-rising.true-raw))

pub returns-then-not-told_fits : goal.returns-then-not-told_fits
unfolding content_of
returns-then-not-told_fits c =
    let empty = c.some_empty in
    let if1 = c.if-some_empty in
    sym (need-met _ _ (rw (sym empty.ensures ∙ if1.false)) ∙ need-met _ _ (sym c.rising.ensures ∙ not-false _ c.if-not-rising.false-raw) ∙ need-unmet _ _ (sym c.told_fits.ensures ∙ not-true _ c.if-not-told_fits.true-raw))

pub returns : goal.returns
unfolding content_of
returns c =
    let empty = c.some_empty in
    let if1 = c.if-some_empty in
    sym (need-met _ _ (rw (sym empty.ensures ∙ if1.false)) ∙ need-met _ _ (sym c.rising.ensures ∙ not-false _ c.if-not-rising.false-raw) ∙ need-met _ _ (sym c.told_fits.ensures ∙ not-false _ c.if-not-told_fits.false-raw))
