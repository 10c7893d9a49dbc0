-- `group_form::drive::each` meets its contract. The invariant: the steps of the servers below p are done, and what they left leads to where all of them lead.
use mathlib.Core.Path.{◌≡◌}
use mathlib.Core.Bool.{true}
use Rattle.group_bytes.specs.Groups.{ranges}
use Rattle.group.specs.StaysSoundParts.{StaysSound}
use Rattle.group_form.proofs.Driving.{Eaches}
use Rattle.group_form.proofs.drive.each.Given as goal

abbrev pub invariant-loop-p : goal.invariant-loop-p
invariant-loop-p l = record {
  left : Eaches (ranges l.initial.list l.initial.all l.initial.queues) l.kind l.k l.v (ranges l.list l.all l.queues) l.p;
  stays : l.known ≡ true → StaysSound (ranges l.list l.all l.queues);
}
