-- `group_crossing::lay` meets its contract: storing what is left to store gives what storing all from the start gives.
use mathlib.Core.Path.{◌≡◌}
use Prim.Native.Nat.{◌+◌, ◌*◌, ◌≤◌}
use lib.ListN.{length}
use Rattle.views.specs.Sizes.{identifier_size}
use Rattle.group_crossing.specs.Queries.{store_ids}
use Rattle.group_crossing.specs.QueryParts.{pick_at, ids_below}
use Rattle.group_crossing.proofs.lay.Given as goal

abbrev pub invariant-loop-i : goal.invariant-loop-i
invariant-loop-i l = record {
  room : l.at + identifier_size * length (ids_below l.list (pick_at l.list l.marks l.hold l.set) l.i) ≤ length l.out;
  stored : store_ids l.out l.at (ids_below l.list (pick_at l.list l.marks l.hold l.set) l.i) ≡ store_ids l.initial.out 0 (ids_below l.list (pick_at l.list l.marks l.hold l.set) l.n);
}
