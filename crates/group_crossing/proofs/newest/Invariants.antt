-- `group_crossing::newest` meets its contract: the last below i is the last of all.
use mathlib.Core.Path.{◌≡◌}
use Rattle.group_crossing.specs.QueryParts.{earlier_at, last_below}
use Rattle.group_crossing.proofs.newest.Given as goal

abbrev pub invariant-loop-i : goal.invariant-loop-i
invariant-loop-i l = last_below l.list (earlier_at l.list l.marks l.id.0) l.i ≡ last_below l.list (earlier_at l.list l.marks l.id.0) l.n
