-- `record_steps::client_view::send` meets its contract: each return is at its place in the row.
use mathlib.Core.Path.{sym, ◌∙◌}
use mathlib.Core.List.{[]}
use Rattle.record_steps.specs.Turns.{entries_of, unheld, room_for, send_verdict}
use Rattle.views.proofs.VerdictLaws.{need-met, need-unmet}
use Rattle.record_steps.proofs.RowLaws.{send-row}
use Rattle.record_steps.proofs.client_view.send.Goals as goal

pub returns-then-is_none : goal.returns-then-is_none
unfolding send_verdict
returns-then-is_none c =
    sym
    (send-row 0 (unheld c.args.h) (entries_of c.args.out) [] [] 0
    ∙ need-unmet _ _ c.if-is_none.ensures)

pub returns-then-not-has_room : goal.returns-then-not-has_room
unfolding send_verdict room_for
returns-then-not-has_room c =
    sym
    (send-row 0 (unheld c.args.h) (entries_of c.args.out) [] [] 0
    ∙ need-met _ _ c.if-is_none.ensures
    ∙ need-unmet _ _ (sym c.has_room.ensures ∙ c.if-not-has_room.true))

pub returns : goal.returns
unfolding send_verdict room_for
returns c =
    sym
    (send-row 0 (unheld c.args.h) (entries_of c.args.out) [] [] 0
    ∙ need-met _ _ c.if-is_none.ensures
    ∙ need-met _ _ (sym c.has_room.ensures ∙ c.if-not-has_room.false))
