-- `book_bytes::load_held` meets its contract: as many open views are loaded as there are places for.
use Rattle.book_bytes.specs.Records.{record_in}
use Rattle.book_bytes.proofs.load_held.Goals as goal

pub returns : goal.returns
unfolding record_in
returns c = rw (c.load_view.ensures, c.load_views.ensures, c.min-n.ensures, c.from.ensures)
