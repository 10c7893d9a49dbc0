-- `group_steps::messages::next` meets its contract: none left, or the next entry of the order is taken.
use Prim.Native.Nat.{◌+◌, ◌*◌}
use native.Mathlib.Omega.{arith}
use Rattle.book_bytes.specs.Places.{taken_at, book_size}
use Rattle.group_bytes.specs.Groups.{Ranges}
use Rattle.group_bytes.proofs.RangesLaws.{RangesBytes}
use Rattle.group_steps.proofs.Rows.{ranged, made-rise}
use Rattle.group_steps.proofs.NextLaws.{next-inside, next-none, next-asks, next-done}
use Rattle.group_steps.proofs.messages.next.Goals as goal

pub order_of-c-requires : goal.order_of-c-requires
order_of-c-requires c =
    let s = c in
    let r : Ranges = record { list = s.args.list.now; books = s.args.all.now; queues = s.args.queues.now } in
    let fits = ranged r s.requires.0 in
    (omega (arith, fits.queues), omega (arith, fits.made.1), omega (arith, fits.made.1, fits.room.1), made-rise r s.requires.0)

pub bounds-all-p : goal.bounds-all-p
bounds-all-p c =
    let s = c in
    let r : Ranges = record { list = s.args.list.now; books = s.args.all.now; queues = s.args.queues.now } in
    let fits = ranged r s.requires.0 in
    omega (arith, fits.books, fits.members.1)

pub bounds-queues-c : goal.bounds-queues-c
bounds-queues-c c =
    let s = c in
    let r : Ranges = record { list = s.args.list.now; books = s.args.all.now; queues = s.args.queues.now } in
    omega (arith, next-inside r s.args.p.0 s.requires.0 s.requires.1 s.args.v s.requires.2 c.order_of-c.result c.order_of-c.ensures)

pub returns-then-queues-c : goal.returns-then-queues-c
returns-then-queues-c c =
    let s = c in
    let r : Ranges = record { list = s.args.list.now; books = s.args.all.now; queues = s.args.queues.now } in
    next-none r s.args.p.0 s.requires.0 s.requires.1 s.args.v s.requires.2 c.order_of-c.result c.order_of-c.ensures c.if-queues-c.true

pub overflow_cast-k-2 : goal.overflow_cast-k-2
overflow_cast-k-2 c = let s = c in omega (arith, c.slice_known-2-1.given (book_size * s.args.p.0 + taken_at))

pub take_at-requires : goal.take_at-requires
take_at-requires c =
    let s = c in
    let r : Ranges = record { list = s.args.list.now; books = s.args.all.now; queues = s.args.queues.now } in
    let bytes : RangesBytes r = (record {
      list = λ j. omega (arith, c.shared_slice_known-1.given j);
      books = λ j. omega (arith, c.slice_known-1.given j);
      queues = λ j. omega (arith, c.shared_slice_known-2-1.given j);
    }) in
    next-asks r s.args.p.0 s.requires.0 s.requires.1 s.args.v s.requires.2 c.order_of-c.result c.order_of-c.ensures bytes c.if-queues-c.false

pub returns : goal.returns
returns c =
    let s = c in
    let r : Ranges = record { list = s.args.list.now; books = s.args.all.now; queues = s.args.queues.now } in
    let bytes : RangesBytes r = (record {
      list = λ j. omega (arith, c.shared_slice_known-1.given j);
      books = λ j. omega (arith, c.slice_known-1.given j);
      queues = λ j. omega (arith, c.shared_slice_known-2-1.given j);
    }) in
    next-done r s.args.p.0 s.requires.0 s.requires.1 s.args.v s.requires.2 c.order_of-c.result c.order_of-c.ensures bytes c.if-queues-c.false _ _
    c.take_at.ensures
