-- `group_run::turns::each` meets its contract. The invariant: i steps are done, and what they left leads to where all of them lead.
use Rattle.group_bytes.specs.Groups.{ranges}
use Rattle.group_run.proofs.Turning.{Under}
use Rattle.group_run.proofs.turns.each.Given as goal

abbrev pub invariant-loop-i : goal.invariant-loop-i
invariant-loop-i l = Under l.known (ranges l.initial.list l.initial.all l.initial.queues) l.steps (ranges l.list l.all l.queues) l.answers l.i
