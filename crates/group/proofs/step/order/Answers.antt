-- `group::step::order` meets its contract: no view has a wider identifier, and any other is put to the step.
use native.Mathlib.Omega.{arith}
use Rattle.wire.proofs.TripViews.{AreBytes}
use Rattle.group_bytes.specs.Groups.{Ranges}
use Rattle.group_steps.proofs.Rows.{ranged}
use Rattle.group.proofs.OperandLaws.{order-wide}
use Rattle.group.proofs.step.order.Goals as goal

pub no_view-requires : goal.no_view-requires
no_view-requires c =
    let s = c in
    let r : Ranges = record { list = s.args.list.now; books = s.args.all.now; queues = s.args.queues.now } in
    omega (arith, (ranged r s.requires).books)

pub returns-then-x-ge-IDENTIFIERS : goal.returns-then-x-ge-IDENTIFIERS
returns-then-x-ge-IDENTIFIERS c =
    let s = c in
    let r : Ranges = record { list = s.args.list.now; books = s.args.all.now; queues = s.args.queues.now } in
    let bytes : AreBytes r.list = λ j. omega (arith, c.shared_slice_known-1.given j) in
    order-wide r bytes s.args.p.0 s.args.x c.if-x-ge-IDENTIFIERS.true c.no_view.result c.no_view.ensures
