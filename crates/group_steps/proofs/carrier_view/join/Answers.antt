-- `group_steps::carrier_view::join` meets its contract: the row of refusals, then the step on the member's book.
use native.Mathlib.Omega.{arith}
use Rattle.group_bytes.specs.Groups.{Ranges}
use Rattle.group_steps.proofs.Rows.{ranged, made-rise}
use Rattle.group_steps.proofs.JoinLaws.{desk-of, join-no-member, join-no-view, join-done}
use Rattle.group_steps.proofs.carrier_view.join.Goals as goal

pub bounds-all-0 : goal.bounds-all-0
bounds-all-0 c =
    let s = c in
    let r : Ranges = record { list = s.args.list.now; books = s.args.all.now; queues = s.args.queues.now } in
    omega (arith, (ranged r s.requires).books)

pub returns-then-all-p : goal.returns-then-all-p
returns-then-all-p c =
    let s = c in
    let r : Ranges = record { list = s.args.list.now; books = s.args.all.now; queues = s.args.queues.now } in
    join-no-member r s.args.p.0 s.args.id.0 c.if-all-p.true

pub bounds-queues-0 : goal.bounds-queues-0
bounds-queues-0 c =
    let s = c in
    let r : Ranges = record { list = s.args.list.now; books = s.args.all.now; queues = s.args.queues.now } in
    omega (arith, (ranged r s.requires).queues)

pub place-i-requires : goal.place-i-requires
place-i-requires c =
    let s = c in
    let r : Ranges = record { list = s.args.list.now; books = s.args.all.now; queues = s.args.queues.now } in
    (omega (arith, (ranged r s.requires).made.1), made-rise r s.requires)

pub returns-then-made-i : goal.returns-then-made-i
returns-then-made-i c =
    let s = c in
    let r : Ranges = record { list = s.args.list.now; books = s.args.all.now; queues = s.args.queues.now } in
    join-no-view r s.args.p.0 s.args.id.0 c.if-all-p.false (omega (arith, c.place-i.ensures, c.if-made-i.true))

pub enter-requires : goal.enter-requires
enter-requires c =
    let s = c in
    let r : Ranges = record { list = s.args.list.now; books = s.args.all.now; queues = s.args.queues.now } in
    (desk-of r s.requires s.args.p.0, c.if-all-p.false, omega (arith, c.if-made-i.false, (ranged r s.requires).made.1))

pub returns : goal.returns
returns c =
    let s = c in
    let r : Ranges = record { list = s.args.list.now; books = s.args.all.now; queues = s.args.queues.now } in
    join-done r s.args.p.0 s.args.id.0 c.if-all-p.false s.requires c.place-i.result c.place-i.ensures c.if-made-i.false _ _ c.enter.ensures
