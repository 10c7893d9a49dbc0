-- `book_bytes::store_counts` meets its contract: five bytes are stored one after the other.
use Rattle.std.proofs.Common.{rules}
use Rattle.book_bytes.specs.Records.{store_counts}
use Rattle.book_bytes.proofs.store_counts.Goals as goal

pub returns : goal.returns
unfolding store_counts
returns c = search rules
