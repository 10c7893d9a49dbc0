-- `dvs::carrier_view::dvs_join` meets its contract: the member's join, of a set of any size.
use Rattle.dvs.proofs.BookLaws.{gives-call}
use Rattle.dvs.proofs.BookNarrowing.{join-narrowed}
use Rattle.dvs.proofs.carrier_view.dvs_join.Goals as goal

pub returns : goal.returns
returns c =
    let a = c.args in
    join-narrowed a.book.now _ _ a.view a.set
    (gives-call _ _ _ _ _ _ (rw c.narrow.ensures at c.join.ensures) c.code.ensures)
