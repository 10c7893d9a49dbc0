-- `group_form::drive::repeat` meets its contract. The invariant: i of the steps are done, and what they left leads to where all of them lead.
use mathlib.Core.Path.{◌≡◌}
use mathlib.Core.Bool.{true}
use Rattle.group_bytes.specs.Groups.{ranges}
use Rattle.group.specs.StepCalls.{asked}
use Rattle.group.specs.StaysSoundParts.{StaysSound}
use Rattle.group_form.proofs.Driving.{Repeats}
use Rattle.group_form.proofs.drive.repeat.Given as goal

abbrev pub invariant-loop-i : goal.invariant-loop-i
invariant-loop-i l = record {
  left : Repeats (ranges l.initial.list l.initial.all l.initial.queues) (asked l.kind l.p.0 l.id.0) l.k (ranges l.list l.all l.queues) l._i;
  stays : l.known ≡ true → StaysSound (ranges l.list l.all l.queues);
}
