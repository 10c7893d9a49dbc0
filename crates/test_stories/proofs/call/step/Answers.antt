-- By the number of the kind.
use native.Mathlib.Omega.{arith}
use Rattle.test_stories.specs.CallParts.{step_call, step_bytes}
use Rattle.test_stories.proofs.StoryLaws.{join-said, send-said, collect-said}
use Rattle.test_stories.proofs.call.step.Goals as goal

pub returns-in-2 : goal.returns-in-2
returns-in-2 c = rw c.in-2.is (join-said c.args.line.now c.args.b.now _ _ _ c.view.ensures c.join.ensures)

pub returns-in-5 : goal.returns-in-5
unfolding step_call step_bytes
returns-in-5 c = rw c.in-5.is c.deliver.ensures

pub returns-in-6 : goal.returns-in-6
unfolding step_call step_bytes
returns-in-6 c = rw c.in-6.is c.attempt.ensures

pub returns-in-7 : goal.returns-in-7
unfolding step_call step_bytes
returns-in-7 c = rw c.in-7.is c.register.ensures

pub returns-in-8 : goal.returns-in-8
returns-in-8 c = rw c.in-8.is (send-said c.args.line.now c.args.b.now _ _ _ c.number.ensures c.send.ensures)

pub returns-in-9 : goal.returns-in-9
unfolding step_call step_bytes
returns-in-9 c = rw c.in-9.is c.hand.ensures

pub returns-in-10 : goal.returns-in-10
unfolding step_call step_bytes
returns-in-10 c = rw c.in-10.is c.tell.ensures

pub returns-in-11 : goal.returns-in-11
unfolding step_call step_bytes
returns-in-11 c = rw c.in-11.is c.safe.ensures

pub returns-in_default : goal.returns-in_default
returns-in_default c = collect-said c.args.kind c.args.line.now c.args.b.now _ _ (omega arith) (omega arith) (omega arith) (omega arith) (omega arith) (omega arith) (omega arith) (omega arith) c.collect.ensures
