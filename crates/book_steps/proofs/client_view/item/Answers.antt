-- `book_steps::client_view::item` meets its contract: the sender and the number stand at the item's places.
use Rattle.book_steps.specs.Parts.{item_sent}
use Rattle.book_steps.proofs.client_view.item.Goals as goal

pub returns : goal.returns
unfolding item_sent
returns c = rw c.get_number.ensures.0
