-- `book_bytes::load_current` meets its contract: each part is loaded from where the definition reads it.
use Rattle.book_bytes.specs.Records.{record_in}
use Rattle.book_bytes.proofs.load_current.Goals as goal

pub returns : goal.returns
unfolding record_in
returns c = rw (c.load_seat.ensures, c.load_seat-2.ensures, c.load_tolds.ensures)
