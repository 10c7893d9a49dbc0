-- `record_steps::client_view::register` meets its contract: each return is at its place in the row.
use mathlib.Core.Path.{sym, ap, ◌∙◌}
use mathlib.Core.Bool.{not}
use mathlib.Core.List.{[]}
use Rattle.record_steps.specs.Turns.{entries_of, unheld, room_for, register_verdict}
use Rattle.views.proofs.VerdictLaws.{need-met, need-unmet}
use Rattle.record_steps.proofs.RowLaws.{register-row}
use Rattle.record_steps.proofs.client_view.register.Goals as goal

pub returns-then-is_none : goal.returns-then-is_none
unfolding register_verdict
returns-then-is_none c =
    sym
    (register-row 0 (unheld c.args.h) (entries_of c.args.out) [] []
    ∙ need-unmet _ _ c.if-is_none.ensures)

pub returns-then-h : goal.returns-then-h
unfolding register_verdict
returns-then-h c =
    sym
    (register-row 0 (unheld c.args.h) (entries_of c.args.out) [] []
    ∙ need-met _ _ c.if-is_none.ensures
    ∙ need-unmet _ _ (ap not c.if-h.true))

pub returns-then-not-has_room : goal.returns-then-not-has_room
unfolding register_verdict room_for
returns-then-not-has_room c =
    sym
    (register-row 0 (unheld c.args.h) (entries_of c.args.out) [] []
    ∙ need-met _ _ c.if-is_none.ensures
    ∙ need-met _ _ (ap not c.if-h.false)
    ∙ need-unmet _ _ (sym c.has_room.ensures ∙ c.if-not-has_room.true))

pub returns : goal.returns
unfolding register_verdict room_for
returns c =
    sym
    (register-row 0 (unheld c.args.h) (entries_of c.args.out) [] []
    ∙ need-met _ _ c.if-is_none.ensures
    ∙ need-met _ _ (ap not c.if-h.false)
    ∙ need-met _ _ (sym c.has_room.ensures ∙ c.if-not-has_room.false))
