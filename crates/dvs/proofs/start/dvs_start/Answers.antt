-- `dvs::start::dvs_start` meets its contract: the member's start, of numbers of any size.
use Rattle.member.specs.Calls.{start_call}
use Rattle.c_answers.specs.Answers.{narrowed}
use Rattle.dvs.proofs.BookLaws.{gives-start}
use Rattle.dvs.proofs.BookNarrowing.{start-narrowed}
use Rattle.dvs.proofs.start.dvs_start.Goals as goal

pub returns : goal.returns
returns c =
    let a = c.args in
    start-narrowed a.book.now _ _ a.members a.first_set a.own
    (gives-start (start_call (narrowed 0 a.members) (narrowed 0 a.first_set) (narrowed 255 a.own) a.book.now) _ _ _ _ _ (rw (c.narrow.ensures, c.narrow-2.ensures, c.narrow-3.ensures) at c.start.ensures) c.code.ensures)
