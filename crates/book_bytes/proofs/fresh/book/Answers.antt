-- `book_bytes::fresh::book` meets its contract: cleared, then the members, the own number, the first view in its places and the record.
use Rattle.book_bytes.proofs.FreshLaws.{begun}
use Rattle.book_bytes.proofs.fresh.book.Goals as goal

pub returns : goal.returns
returns c =
    begun _ _ _ _ _ _ _ _ _ c.clear.ensures c.put_numbers.ensures (rw c.store_view.ensures at c.store_view-2.ensures) c.record.ensures c.store.ensures
