-- `group_crossing::wanted` meets its contract: the test of sets, by the members.
use mathlib.Core.Path.{◌∙◌}
use Rattle.views.specs.Sets.{majority_of}
use Rattle.rules.specs.Member.{passes}
use Rattle.group_crossing.proofs.wanted.Goals as goal

pub returns-then-hold : goal.returns-then-hold
unfolding majority_of passes
returns-then-hold c = c.majority.ensures ∙ rw c.if-hold.true
