use native.Mathlib.Omega.{arith}
use mathlib.Core.Logic.{inl, inr}
use Rattle.group.specs.StepCalls.{asked}
use Rattle.group.proofs.OwnLaws.{desk, attempt-went, register-went, send-went, hand-went, tell-went, safe-went, collect-went}
use Rattle.group_bytes.specs.Groups.{Ranges}
use Rattle.group_bytes.proofs.RangesLaws.{RangesBytes}
use Rattle.group.proofs.OperandLaws.{by-member, by-set}
use Rattle.group.proofs.CarrierLaws.{create-went, join-went, pass-went, order-went, deliver-went, unknown-went}
use Rattle.group.proofs.step.dispatch.Goals as goal

pub register-requires : goal.register-requires
register-requires c =
    let s = c in
    let r : Ranges = record { list = s.args.list.now; books = s.args.all.now; queues = s.args.queues.now } in
    desk r s.requires c.member-p.result.0

pub send-requires : goal.send-requires
send-requires c =
    let s = c in
    let r : Ranges = record { list = s.args.list.now; books = s.args.all.now; queues = s.args.queues.now } in
    desk r s.requires c.member-p.result.0

pub hand-requires : goal.hand-requires
hand-requires c =
    let s = c in
    let r : Ranges = record { list = s.args.list.now; books = s.args.all.now; queues = s.args.queues.now } in
    desk r s.requires c.member-p.result.0

pub tell-requires : goal.tell-requires
tell-requires c =
    let s = c in
    let r : Ranges = record { list = s.args.list.now; books = s.args.all.now; queues = s.args.queues.now } in
    desk r s.requires c.member-p.result.0

pub safe-requires : goal.safe-requires
safe-requires c =
    let s = c in
    let r : Ranges = record { list = s.args.list.now; books = s.args.all.now; queues = s.args.queues.now } in
    desk r s.requires c.member-p.result.0

pub collect-requires : goal.collect-requires
collect-requires c =
    let s = c in
    let r : Ranges = record { list = s.args.list.now; books = s.args.all.now; queues = s.args.queues.now } in
    desk r s.requires c.member-p.result.0

pub returns-in-1 : goal.returns-in-1
returns-in-1 c =
    let s = c in
    let r : Ranges = record { list = s.args.list.now; books = s.args.all.now; queues = s.args.queues.now } in
    let x = c.set in
    rw c.in-1.is (by-set r s.requires s.args.first s.args.second x.result x.ensures _ _ (create-went r s.requires s.args.first x.result _ _ _ c.create.ensures _ c.plain.ensures))

pub returns-in-2 : goal.returns-in-2
returns-in-2 c =
    let s = c in
    let r : Ranges = record { list = s.args.list.now; books = s.args.all.now; queues = s.args.queues.now } in
    let p = c.member-p in
    rw c.in-2.is (by-member r s.requires 0 s.args.first s.args.second (omega arith) p.result.0 p.ensures _ _ (join-went r s.requires p.result.0 s.args.second _ _ c.join.ensures))

pub returns-in-3 : goal.returns-in-3
returns-in-3 c =
    let s = c in
    let r : Ranges = record { list = s.args.list.now; books = s.args.all.now; queues = s.args.queues.now } in
    let p = c.member-p in
    rw c.in-3.is (by-member r s.requires 1 s.args.first s.args.second (omega arith) p.result.0 p.ensures _ _ (pass-went r s.requires p.result.0 s.args.second _ _ _ c.pass.ensures _ c.plain-in-3.ensures))

pub returns-in-4 : goal.returns-in-4
returns-in-4 c =
    let s = c in
    let r : Ranges = record { list = s.args.list.now; books = s.args.all.now; queues = s.args.queues.now } in
    let p = c.member-p in
    rw c.in-4.is (by-member r s.requires 2 s.args.first s.args.second (omega arith) p.result.0 p.ensures _ _ (order-went r s.requires p.result.0 s.args.second _ _ c.order.ensures _ c.plain-in-4.ensures))

pub returns-in-5 : goal.returns-in-5
returns-in-5 c =
    let s = c in
    let r : Ranges = record { list = s.args.list.now; books = s.args.all.now; queues = s.args.queues.now } in
    let p = c.member-p in
    rw c.in-5.is (by-member r s.requires 3 s.args.first s.args.second (omega arith) p.result.0 p.ensures _ _ (deliver-went r s.requires p.result.0 s.args.second _ _ c.deliver.ensures))

pub returns-in-6 : goal.returns-in-6
returns-in-6 c =
    let s = c in
    let r : Ranges = record { list = s.args.list.now; books = s.args.all.now; queues = s.args.queues.now } in
    let p = c.member-p in
    let bytes : RangesBytes r = record { list = λ j. omega (arith, c.slice_known-1.given j); books = λ j. omega (arith, c.slice_known-2-1.given j); queues = λ j. omega (arith, c.slice_known-3-1.given j) } in
    rw c.in-6.is (by-member r s.requires 4 s.args.first s.args.second (omega arith) p.result.0 p.ensures _ _ (attempt-went r s.requires p.result.0 s.args.second _ _ _ bytes c.attempt.ensures))

pub returns-in-7 : goal.returns-in-7
returns-in-7 c =
    let s = c in
    let r : Ranges = record { list = s.args.list.now; books = s.args.all.now; queues = s.args.queues.now } in
    let p = c.member-p in
    rw c.in-7.is (by-member r s.requires 5 s.args.first s.args.second (omega arith) p.result.0 p.ensures _ _ (register-went r s.requires p.result.0 s.args.second _ _ c.register.ensures))

pub returns-in-8 : goal.returns-in-8
returns-in-8 c =
    let s = c in
    let r : Ranges = record { list = s.args.list.now; books = s.args.all.now; queues = s.args.queues.now } in
    let p = c.member-p in
    rw c.in-8.is (by-member r s.requires 6 s.args.first s.args.second (omega arith) p.result.0 p.ensures _ _ (send-went r s.requires p.result.0 s.args.second _ _ c.send.ensures))

pub returns-in-9 : goal.returns-in-9
returns-in-9 c =
    let s = c in
    let r : Ranges = record { list = s.args.list.now; books = s.args.all.now; queues = s.args.queues.now } in
    let p = c.member-p in
    rw c.in-9.is (by-member r s.requires 7 s.args.first s.args.second (omega arith) p.result.0 p.ensures _ _ (hand-went r s.requires p.result.0 s.args.second _ _ c.hand.ensures))

pub returns-in-10 : goal.returns-in-10
returns-in-10 c =
    let s = c in
    let r : Ranges = record { list = s.args.list.now; books = s.args.all.now; queues = s.args.queues.now } in
    let p = c.member-p in
    rw c.in-10.is (by-member r s.requires 8 s.args.first s.args.second (omega arith) p.result.0 p.ensures _ _ (tell-went r s.requires p.result.0 s.args.second _ _ c.tell.ensures))

pub returns-in-11 : goal.returns-in-11
returns-in-11 c =
    let s = c in
    let r : Ranges = record { list = s.args.list.now; books = s.args.all.now; queues = s.args.queues.now } in
    let p = c.member-p in
    rw c.in-11.is (by-member r s.requires 9 s.args.first s.args.second (omega arith) p.result.0 p.ensures _ _ (safe-went r s.requires p.result.0 s.args.second _ _ c.safe.ensures))

pub returns-in-12 : goal.returns-in-12
returns-in-12 c =
    let s = c in
    let r : Ranges = record { list = s.args.list.now; books = s.args.all.now; queues = s.args.queues.now } in
    let p = c.member-p in
    rw c.in-12.is (by-member r s.requires 10 s.args.first s.args.second (omega arith) p.result.0 p.ensures _ _ (collect-went r s.requires p.result.0 s.args.second _ _ c.collect.ensures))

pub returns-in-0 : goal.returns-in-0
returns-in-0 c =
    let a = c.args in
    let r : Ranges = record { list = a.list.now; books = a.all.now; queues = a.queues.now } in
    unknown-went r c.requires (asked a.kind a.first a.second) (inl (omega arith))

pub returns-in-0-2 : goal.returns-in-0-2
returns-in-0-2 c =
    let a = c.args in
    let r : Ranges = record { list = a.list.now; books = a.all.now; queues = a.queues.now } in
    unknown-went r c.requires (asked a.kind a.first a.second) (inr (omega arith))
