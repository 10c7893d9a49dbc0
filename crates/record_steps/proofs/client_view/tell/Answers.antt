-- `record_steps::client_view::tell` meets its contract: each return is at its place in the row.
use mathlib.Core.Path.{sym, ◌∙◌}
use mathlib.Core.List.{[]}
use Rattle.record_steps.specs.Turns.{entries_of, unheld, room_for, tell_verdict}
use Rattle.views.proofs.VerdictLaws.{need-met, need-unmet}
use Rattle.views.proofs.OrderLaws.{eq-holds, eq-fails}
use Rattle.record_steps.proofs.RowLaws.{tell-row}
use Rattle.record_steps.proofs.ClientLaws.{news, no-news, none-handed}
use Rattle.record_steps.proofs.client_view.tell.Goals as goal
use Rattle.record_steps.proofs.client_view.tell.Goals.{then-eq-via-then-eq, then-eq-via-else-eq+then-h-eq0}

pub returns-then-is_none : goal.returns-then-is_none
unfolding tell_verdict
returns-then-is_none c =
    sym
    (tell-row 0 (unheld c.args.h) (entries_of c.args.out) [] []
    ∙ need-unmet _ _ c.if-is_none.ensures)

pub returns-then-not-in_step : goal.returns-then-not-in_step
unfolding tell_verdict
returns-then-not-in_step c =
    sym
    (tell-row 0 (unheld c.args.h) (entries_of c.args.out) [] []
    ∙ need-met _ _ c.if-is_none.ensures
    ∙ need-unmet _ _ (sym c.in_step.ensures ∙ c.if-not-in_step.true))

pub returns-then-eq : goal.returns-then-eq
unfolding tell_verdict
returns-then-eq c =
    sym
    (tell-row 0 (unheld c.args.h) (entries_of c.args.out) [] []
    ∙ need-met _ _ c.if-is_none.ensures
    ∙ need-met _ _ (sym c.in_step.ensures ∙ c.if-not-in_step.false)
    ∙ need-unmet _ _ (elim c.then-eq.branch [
      | then-eq-via-then-eq w ↦ no-news c.args.h (eq-holds _ _ c.eq.ensures w.if-eq.true)
      | then-eq-via-else-eq+then-h-eq0 w ↦ none-handed c.args.h w.if-h-eq0.true
    ]))

pub returns-then-not-has_room : goal.returns-then-not-has_room
unfolding tell_verdict room_for
returns-then-not-has_room c =
    sym
    (tell-row 0 (unheld c.args.h) (entries_of c.args.out) [] []
    ∙ need-met _ _ c.if-is_none.ensures
    ∙ need-met _ _ (sym c.in_step.ensures ∙ c.if-not-in_step.false)
    ∙ need-met _ _ (news c.args.h (eq-fails _ _ c.eq.ensures c.if-eq.false) c.if-h-eq0.false)
    ∙ need-unmet _ _ (sym c.has_room.ensures ∙ c.if-not-has_room.true))

pub returns : goal.returns
unfolding tell_verdict room_for
returns c =
    sym
    (tell-row 0 (unheld c.args.h) (entries_of c.args.out) [] []
    ∙ need-met _ _ c.if-is_none.ensures
    ∙ need-met _ _ (sym c.in_step.ensures ∙ c.if-not-in_step.false)
    ∙ need-met _ _ (news c.args.h (eq-fails _ _ c.eq.ensures c.if-eq.false) c.if-h-eq0.false)
    ∙ need-met _ _ (sym c.has_room.ensures ∙ c.if-not-has_room.false))
