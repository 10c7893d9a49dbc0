-- `group::step::next` meets its contract: either way it is the step.
use Rattle.group.proofs.step.next.Goals as goal

pub dispatch-requires : goal.dispatch-requires
dispatch-requires c = c.requires c.if-known.true
