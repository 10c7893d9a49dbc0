-- `group_form::drive::each` meets its contract. The invariant: the steps of the servers below p are done, and what they left leads to where all of them lead.
use mathlib.Core.Path.{sym, ◌∙◌}
use Rattle.std.proofs.lemmas.Result.{err_from_is_err_and}
use native.Mathlib.Omega.{arith}
use Rattle.group_bytes.specs.Groups.{ranges}
use Rattle.group_form.proofs.Driving.{eaches-begin, eaches-end, eaches-pass, eaches-go, eaches-stop}
use Rattle.group_form.proofs.drive.each.Goals as goal
use Rattle.group_form.proofs.drive.each.Goals.{then-contains+in_ok-repeat, else-contains}

pub loop-p-init : goal.loop-p-init
loop-p-init c =
    let a = c.args in
    record { left = eaches-begin (ranges a.list.now a.all.now a.queues.now) a.kind a.k a.v; stays = c.requires }

pub repeat-requires : goal.repeat-requires
repeat-requires c = c.loop-p.invariant.stays

pub returns-in_err-repeat : goal.returns-in_err-repeat
returns-in_err-repeat c =
    let a = c.args in
    let l = c.loop-p in
    let within = sym c.contains.ensures ∙ c.if-contains.true in
    let p = err_from_is_err_and c.from_residual.result c.from_residual.ensures.1 in
    rw (p.1, p.2)
    (eaches-stop (ranges a.list.now a.all.now a.queues.now) a.kind a.k a.v (ranges l.list l.all l.queues) l.p
    l.invariant.left (omega arith) within _ _ c.repeat.ensures c.in_err-repeat.was)

pub loop-p-preserved : goal.loop-p-preserved
loop-p-preserved c =
    let a = c.args in
    let l = c.loop-p in
    let r = ranges a.list.now a.all.now a.queues.now in
    let d = ranges l.list l.all l.queues in
    let inside = sym c.contains.ensures in
    elim c.if-contains.branch [
      | then-contains+in_ok-repeat w ↦ rw (w.list-is, w.all-is, w.queues-is)
          (record {
            left = eaches-go r a.kind a.k a.v d l.p l.invariant.left (omega arith) (inside ∙ w.if-contains.true) _ _ w.repeat.ensures w.in_ok-repeat.was;
            stays = λ k. w.repeat.ensures.stays (l.invariant.stays k);
          })
      | else-contains w ↦ rw (w.list-is, w.all-is, w.queues-is)
          (record {
            left = eaches-pass r a.kind a.k a.v d l.p l.invariant.left (omega arith) (inside ∙ w.if-contains.false);
            stays = l.invariant.stays;
          })
    ]

pub returns : goal.returns
returns c =
    let a = c.args in
    let l = c.loop-p in
    eaches-end (ranges a.list.now a.all.now a.queues.now) a.kind a.k a.v (ranges l.list l.all l.queues) l.p l.invariant.left (omega arith)
