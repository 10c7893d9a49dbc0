-- `dvs::whole_group::dvs_group_start` meets its contract: the group's start, of numbers of any size.
use Rattle.dvs.proofs.GroupLaws.{begins-call}
use Rattle.dvs.proofs.GroupNarrowing.{begin-narrowed}
use Rattle.dvs.proofs.whole_group.dvs_group_start.Goals as goal

pub returns : goal.returns
returns c =
    let a = c.args in
    begin-narrowed (record { list = c.args.list.now; books = c.args.books.now; queues = c.args.queues.now }) _ _ a.members a.first_set
    (begins-call _ _ _ _ _ _ (rw (c.narrow.ensures, c.narrow-2.ensures) at c.start.ensures) c.code.ensures)
