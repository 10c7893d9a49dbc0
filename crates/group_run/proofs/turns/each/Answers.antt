-- `group_run::turns::each` meets its contract. The invariant: i steps are done, and what they left leads to where all of them lead.
use native.Mathlib.Omega.{arith}
use Rattle.group_bytes.specs.Groups.{ranges}
use Rattle.group.proofs.StaysSoundLaws.{sound-now}
use Rattle.group_run.proofs.Turning.{turned, under-begins, under-turns, under-ends}
use Rattle.group_run.proofs.turns.each.Goals as goal

pub loop-i-init : goal.loop-i-init
loop-i-init c =
    let a = c.args in
    under-begins a.known (ranges a.list.now a.all.now a.queues.now) a.steps.now a.answers.now c.requires.0 c.requires.1

pub ask-x-requires : goal.ask-x-requires
ask-x-requires c = ((λ k. sound-now _ (c.loop-i.invariant.stays k)), omega arith)

pub put-requires : goal.put-requires
put-requires c = omega (arith, c.loop-i.invariant.room)

pub loop-i-preserved : goal.loop-i-preserved
loop-i-preserved c =
    let a = c.args in
    let l = c.loop-i in
    under-turns a.known (ranges a.list.now a.all.now a.queues.now) a.steps.now (ranges l.list l.all l.queues) l.answers l.i l.invariant _ _ (omega arith)
    (turned _ _ _ _ _ _ _ c.ask-x.ensures c.put.ensures)

pub returns : goal.returns
returns c =
    let a = c.args in
    let l = c.loop-i in
    under-ends a.known (ranges a.list.now a.all.now a.queues.now) a.steps.now (ranges l.list l.all l.queues) l.answers l.i l.invariant (omega arith)
