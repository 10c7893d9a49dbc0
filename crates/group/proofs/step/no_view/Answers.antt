-- `group::step::no_view` meets its contract.
use borrow.Author.Tests.{lt-ltb, le-ltb}
use Rattle.group.specs.StepParts.{no_view}
use Rattle.group.proofs.step.no_view.Goals as goal

pub returns-then-all-p : goal.returns-then-all-p
unfolding no_view
returns-then-all-p c = rw (le-ltb _ _ c.if-all-p.true)

pub returns-else-all-p : goal.returns-else-all-p
unfolding no_view
returns-else-all-p c = rw (lt-ltb _ _ c.if-all-p.false)
