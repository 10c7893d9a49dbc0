-- `dvs::messages::dvs_deliver` meets its contract: the member's deliver, of a sender of any size.
use Rattle.dvs.proofs.BookLaws.{gives-call}
use Rattle.dvs.proofs.BookNarrowing.{deliver-narrowed}
use Rattle.dvs.proofs.messages.dvs_deliver.Goals as goal

pub returns : goal.returns
returns c =
    let a = c.args in
    deliver-narrowed a.book.now _ _ a.bytes.now a.sender
    (gives-call _ _ _ _ _ _ (rw c.narrow.ensures at c.deliver.ensures) c.code.ensures)
