-- `book_bytes::store_held` meets its contract: the settled view is stored, then the open views.
use Rattle.book_bytes.specs.Records.{store_held}
use Rattle.book_bytes.proofs.store_held.Goals as goal

pub returns : goal.returns
unfolding store_held
returns c = rw (c.store_opens.ensures, c.store_view.ensures)
