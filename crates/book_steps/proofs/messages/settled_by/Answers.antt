-- `book_steps::messages::settled_by` meets its contract: a view that is not above leaves its own, and of one identifier its own is kept.
use mathlib.Core.Path.{sym, ◌∙◌}
use Rattle.views.proofs.OrderLaws.{le-holds, le-fails}
use Rattle.book_steps.proofs.TakeLaws.{settled-own, settled-found, settled-new}
use Rattle.book_steps.proofs.messages.settled_by.Goals as goal

pub returns-then-le : goal.returns-then-le
returns-then-le c = settled-own _ _ _ c.load_view-own.ensures (le-holds _ _ c.le.ensures c.if-le.true)

pub returns-in-Some : goal.returns-in-Some
returns-in-Some c =
    let s = c in
    settled-found _ _ _ c.load_view-own.ensures s.requires.1 (le-fails _ _ c.le.ensures c.if-le.false) _ (sym c.find.ensures ∙ c.in-Some.is)

pub returns-in-None : goal.returns-in-None
returns-in-None c =
    let s = c in
    settled-new _ _ _ c.load_view-own.ensures s.requires.1 (le-fails _ _ c.le.ensures c.if-le.false) (sym c.find.ensures ∙ c.in-None.is)
