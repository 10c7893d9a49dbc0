-- `book_bytes::store_seats` meets its contract: the three views are stored one after the other.
use Rattle.book_bytes.specs.Records.{store_seats}
use Rattle.book_bytes.proofs.store_seats.Goals as goal

pub returns : goal.returns
unfolding store_seats
returns c = rw (c.store_seat-2.ensures, c.store_seat.ensures, c.store_view.ensures)
