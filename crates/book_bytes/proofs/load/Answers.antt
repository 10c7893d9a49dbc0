-- `book_bytes::load` meets its contract: the record is what is held and the rest.
use Rattle.book_bytes.proofs.load.Goals as goal

pub returns : goal.returns
returns c = rw (c.load_held-held.ensures, c.load_current-h.ensures)
