-- `book_bytes::store_opens` meets its contract: the count is stored, then the views behind it.
use Rattle.std.proofs.Common.{◌≡◌, arith, length}
use lib.Seq.{length-take-le}
use Rattle.views.specs.Lists.{list_of}
use Rattle.wire.specs.Writer.{store_views}
use Rattle.book_bytes.specs.Records.{store_opens}
use Rattle.book_bytes.proofs.store_opens.Goals as goal

pub returns : goal.returns
unfolding store_opens store_views
returns c = let all : length (list_of c.args.list) ≡ c.args.list.count = length-take-le c.args.list.count c.args.list.at (omega arith) in rw (c.store_views.ensures, all)
