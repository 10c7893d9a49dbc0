-- `group_crossing::newest_before` meets its contract: the marks read are those of the group.
use mathlib.Core.Path.{ap, sym, ◌∙◌}
use Prim.Native.Nat.{ℕ}
use native.Mathlib.Omega.{arith}
use Rattle.group_bytes.specs.Groups.{ranges, made_of}
use Rattle.group_crossing.specs.QueryParts.{earlier_at, last_below}
use Rattle.group_crossing.proofs.QueryCases.{ranged}
use Rattle.group_crossing.proofs.NewestLaws.{newest-below}
use Rattle.group_crossing.proofs.newest_before.Goals as goal

pub bounds-queues-0 : goal.bounds-queues-0
bounds-queues-0 c =
    let s = c in
    let r = ranges s.args.list.now s.args.books.now s.args.queues.now in
    omega (arith, (ranged r s.requires).queues)

pub overflow_cast-n : goal.overflow_cast-n
overflow_cast-n c =
    let s = c in
    let r = ranges s.args.list.now s.args.books.now s.args.queues.now in
    let f = ranged r s.requires in
    omega (arith, f.made.1, f.room.1)

pub get_number-marks-requires : goal.get_number-marks-requires
get_number-marks-requires c =
    let s = c in
    let r = ranges s.args.list.now s.args.books.now s.args.queues.now in
    (omega (arith, (ranged r s.requires).queues), omega arith)

pub newest-requires : goal.newest-requires
newest-requires c =
    let s = c in
    let r = ranges s.args.list.now s.args.books.now s.args.queues.now in
    let f = ranged r s.requires in
    (omega (arith, f.made.1), omega (arith, f.made.1, f.room.1))

pub returns : goal.returns
returns c =
    let s = c in
    let r = ranges s.args.list.now s.args.books.now s.args.queues.now in
    c.newest.ensures
    ∙ ap (λ (m : ℕ). last_below s.args.list.now (earlier_at s.args.list.now m s.args.id.0) (made_of r)) c.get_number-marks.ensures.0
    ∙ sym (newest-below r s.requires s.args.id.0)
