-- `record_steps::messages::with_member` meets its contract: a member's digit fits the byte.
use Rattle.views.specs.Sets.{with_member}
use Rattle.record_steps.proofs.TakeLaws.{digit-fits}
use Rattle.record_steps.proofs.messages.with_member.Goals as goal

pub returns : goal.returns
unfolding with_member
returns c = rw (digit-fits c.args.q.0 c.requires)
