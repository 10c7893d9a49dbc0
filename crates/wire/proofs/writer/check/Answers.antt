-- The count of views is tested first; then the content decides.
use mathlib.Core.Path.{sym, ap, ap₂, ◌∙◌}
use Prim.Native.Nat.{ℕ}
use borrow.Author.Tests.{not-true, not-false}
use Rattle.views.specs.Lists.{list_of}
use Rattle.wire.specs.Format.{views_allowed, content_of}
use Rattle.wire.specs.Writer.{frame_verdict}
use Rattle.views.proofs.VerdictLaws.{need-met, need-unmet}
use Rattle.wire.proofs.writer.check.Goals as goal

pub returns-then-not-views_allowed : goal.returns-then-not-views_allowed
unfolding frame_verdict
returns-then-not-views_allowed c =
    let a = c.args in
    sym (need-unmet _ _ (ap (λ (k : ℕ). views_allowed k a.f.views.count) (sym c.kind-kind.ensures) ∙ sym c.views_allowed.ensures ∙ not-true _ c.if-not-views_allowed.true-raw))

pub returns : goal.returns
unfolding frame_verdict
returns c =
    let a = c.args in
    let kind = c.kind-kind in
    c.content.ensures ∙ ap₂ (λ (k x : ℕ). content_of k (list_of a.f.views) x) kind.ensures c.number.ensures ∙ sym (need-met _ _ (ap (λ (k : ℕ). views_allowed k a.f.views.count) (sym kind.ensures) ∙ sym c.views_allowed.ensures ∙ not-false _ c.if-not-views_allowed.false-raw))
