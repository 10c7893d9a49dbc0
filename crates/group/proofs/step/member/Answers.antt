-- `group::step::member` meets its contract.
use Rattle.group.proofs.step.member.Goals as goal

pub returns : goal.returns
returns c = c.narrow.ensures
