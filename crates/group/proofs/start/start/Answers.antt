-- `group::start::start` meets its contract: the first refusal, or the three ranges laid one after another.
use Rattle.std.proofs.lemmas.Result.{err_from_is_err_and}
use Rattle.group_bytes.specs.Groups.{Ranges}
use Rattle.group_bytes.specs.Starts.{start_ranges}
use Rattle.group.proofs.BeginLaws.{list-room, books-long, members-few, queues-room, start-refused, start-accepted}
use Rattle.group.proofs.start.start.Goals as goal

pub lay_list-requires : goal.lay_list-requires
lay_list-requires c =
    let a = c.args in
    let r : Ranges = record { list = a.list.now; books = a.all.now; queues = a.queues.now } in
    list-room a.members a.first r c.in_ok-startable.ensures

pub lay_books-requires : goal.lay_books-requires
lay_books-requires c =
    let a = c.args in
    let r : Ranges = record { list = a.list.now; books = a.all.now; queues = a.queues.now } in
    let e = c.in_ok-startable.ensures in
    (books-long a.members a.first r e, members-few a.members a.first r e)

pub lay_queues-requires : goal.lay_queues-requires
lay_queues-requires c =
    let a = c.args in
    let r : Ranges = record { list = a.list.now; books = a.all.now; queues = a.queues.now } in
    queues-room a.members a.first r c.in_ok-startable.ensures

pub returns-in_err-startable : goal.returns-in_err-startable
returns-in_err-startable c =
    let a = c.args in
    let r : Ranges = record { list = a.list.now; books = a.all.now; queues = a.queues.now } in
    let e = err_from_is_err_and c.from_residual.result c.from_residual.ensures.1 in
    rw (e.1, e.2) (start-refused a.members a.first r _ c.in_err-startable.ensures)

pub returns : goal.returns
unfolding start_ranges
returns c =
    let a = c.args in
    let r : Ranges = record { list = a.list.now; books = a.all.now; queues = a.queues.now } in
    start-accepted a.members a.first r _ c.in_ok-startable.ensures c.lay_list.ensures c.lay_books.ensures c.lay_queues.ensures
