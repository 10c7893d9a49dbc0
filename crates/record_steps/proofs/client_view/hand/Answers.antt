-- `record_steps::client_view::hand` meets its contract: each return is at its place in the row.
use mathlib.Core.Path.{sym, ◌∙◌}
use mathlib.Core.List.{[]}
use native.Mathlib.Omega.{arith}
use borrow.Author.Tests.{lt-ltb, le-ltb}
use lib.ListN.{length}
use Rattle.record_steps.specs.Turns.{items_of, unheld, hand_verdict}
use Rattle.views.proofs.VerdictLaws.{need-met, need-unmet}
use Rattle.record_steps.proofs.RowLaws.{items-length, hand-row}
use Rattle.record_steps.proofs.client_view.hand.Goals as goal

pub returns-then-is_none : goal.returns-then-is_none
unfolding hand_verdict
returns-then-is_none c =
    sym
    (hand-row 0 (unheld c.args.h) [] (items_of c.args.own) []
    ∙ need-unmet _ _ c.if-is_none.ensures)

pub returns-then-own-h : goal.returns-then-own-h
unfolding hand_verdict
returns-then-own-h c =
    sym
    (hand-row 0 (unheld c.args.h) [] (items_of c.args.own) []
    ∙ need-met _ _ c.if-is_none.ensures
    ∙ need-unmet _ _ (le-ltb c.args.h.handed.0 (length (items_of c.args.own)) (omega (arith, items-length c.args.own, c.if-own-h.true))))

pub returns : goal.returns
unfolding hand_verdict
returns c =
    sym
    (hand-row 0 (unheld c.args.h) [] (items_of c.args.own) []
    ∙ need-met _ _ c.if-is_none.ensures
    ∙ need-met _ _ (lt-ltb c.args.h.handed.0 (length (items_of c.args.own)) (omega (arith, items-length c.args.own, c.if-own-h.false))))
