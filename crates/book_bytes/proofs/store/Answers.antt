-- `book_bytes::store` meets its contract: the parts of the record are stored one after the other.
use Rattle.book_bytes.specs.Records.{store_record}
use Rattle.book_bytes.proofs.store.Goals as goal

pub returns : goal.returns
unfolding store_record
returns c = rw (c.store_opens.ensures, c.store_notes.ensures, c.store_counts.ensures, c.store_seats.ensures)
