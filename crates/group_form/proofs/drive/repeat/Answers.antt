-- `group_form::drive::repeat` meets its contract. The invariant: i of the steps are done, and what they left leads to where all of them lead.
use Rattle.std.proofs.lemmas.Result.{err_from_is_err_and}
use native.Mathlib.Omega.{arith}
use Rattle.group_bytes.specs.Groups.{ranges}
use Rattle.group_bytes.specs.Promises.{Given}
use Rattle.group.specs.StepCalls.{asked}
use Rattle.group.proofs.StaysSoundLaws.{sound-now}
use Rattle.group_form.proofs.Driving.{went-stays, repeats-begin, repeats-end, repeats-go, repeats-stop}
use Rattle.group_form.proofs.drive.repeat.Goals as goal

pub loop-i-init : goal.loop-i-init
loop-i-init c =
    let a = c.args in
    record { left = repeats-begin (ranges a.list.now a.all.now a.queues.now) (asked a.kind a.p.0 a.id.0) a.k; stays = c.requires }

pub next-requires : goal.next-requires
next-requires c k = sound-now _ (c.loop-i.invariant.stays k)

pub returns-in_err-next : goal.returns-in_err-next
returns-in_err-next c =
    let a = c.args in
    let l = c.loop-i in
    let given : Given (asked a.kind a.p.0 a.id.0) = record { first = omega arith; second = omega arith } in
    let p = err_from_is_err_and c.from_residual.result c.from_residual.ensures.1 in
    rw (p.1, p.2)
    (repeats-stop (ranges a.list.now a.all.now a.queues.now) (asked a.kind a.p.0 a.id.0) a.k (ranges l.list l.all l.queues) l._i
    l.invariant.left _ _ (omega arith) given c.next.ensures c.in_err-next.was)

pub loop-i-preserved : goal.loop-i-preserved
loop-i-preserved c =
    let a = c.args in
    let l = c.loop-i in
    let went = c.next.ensures in
    let given : Given (asked a.kind a.p.0 a.id.0) = record { first = omega arith; second = omega arith } in
    record {
      left = repeats-go (ranges a.list.now a.all.now a.queues.now) (asked a.kind a.p.0 a.id.0) a.k (ranges l.list l.all l.queues) l._i
          l.invariant.left _ _ (omega arith) given went c.in_ok-next.was;
      stays = λ k. went-stays _ _ _ _ given went (l.invariant.stays k);
    }

pub returns : goal.returns
returns c =
    let a = c.args in
    let l = c.loop-i in
    repeats-end (ranges a.list.now a.all.now a.queues.now) (asked a.kind a.p.0 a.id.0) a.k (ranges l.list l.all l.queues) l._i l.invariant.left (omega arith)
