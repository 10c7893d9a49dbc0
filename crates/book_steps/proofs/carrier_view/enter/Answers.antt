-- `book_steps::carrier_view::enter` meets its contract: the seat is stored, and the part behind the counts of the client view cleared.
use Rattle.book_steps.proofs.JoinLaws.{enter-done}
use Rattle.book_steps.proofs.carrier_view.enter.Goals as goal

pub returns : goal.returns
returns c =
    let early = c in
    let start = early in
    enter-done start.args.b.now _ _ start.args.v start.requires early.store_seat.ensures (c.fill.ensures.after (λ y e. e))
