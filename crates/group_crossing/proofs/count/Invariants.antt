-- `group_crossing::count` meets its contract: as many so far as the test picks below i.
use mathlib.Core.Path.{◌≡◌}
use lib.ListN.{length}
use Rattle.group_crossing.specs.QueryParts.{pick_at, ids_below}
use Rattle.group_crossing.proofs.count.Given as goal

abbrev pub invariant-loop-i : goal.invariant-loop-i
invariant-loop-i l = l.k ≡ length (ids_below l.list (pick_at l.list l.marks l.hold l.set) l.i)
