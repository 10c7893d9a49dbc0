-- `book_steps::messages::gaining` meets its contract: the two views are compared by identifier.
use mathlib.Core.Path.{sym, ◌∙◌}
use mathlib.Core.Bool.{true, false}
use Rattle.book_steps.proofs.RoomLaws.{gaining-is}
use Rattle.book_steps.proofs.messages.gaining.Goals as goal

pub returns-then-same_view : goal.returns-then-same_view
returns-then-same_view c = gaining-is _ _ _ true _ c.load_seat-client.ensures c.load_seat-carrier.ensures (sym c.if-same_view.true ∙ c.same_view.ensures) c.inward.ensures

pub returns-else-same_view : goal.returns-else-same_view
returns-else-same_view c = gaining-is _ _ _ false _ c.load_seat-client.ensures c.load_seat-carrier.ensures (sym c.if-same_view.false ∙ c.same_view.ensures) c.inward-else-same_view.ensures
