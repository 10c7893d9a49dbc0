-- `dvs::messages::dvs_deliver_packet` meets its contract: 4 for a delivery of another length, else the member's packet, of a sender of any size.
use Rattle.dvs.proofs.MessageLaws.{delivers-unsized, delivers-call}
use Rattle.dvs.proofs.BookNarrowing.{packet-narrowed}
use Rattle.dvs.proofs.messages.dvs_deliver_packet.Goals as goal

pub returns-then-delivery-ne-DELIVERY : goal.returns-then-delivery-ne-DELIVERY
returns-then-delivery-ne-DELIVERY c =
    let a = c.args in
    delivers-unsized a.bytes.now a.sender a.book.now a.delivery.now _ c.if-delivery-ne-DELIVERY.true c.refused.ensures

pub returns : goal.returns
returns c =
    let a = c.args in
    packet-narrowed a.book.now _ _ a.bytes.now a.delivery.now _ a.sender
    (delivers-call _ _ _ _ _ _ _ _ c.if-delivery-ne-DELIVERY.false (rw c.narrow.ensures at c.deliver.ensures) c.account.ensures)
