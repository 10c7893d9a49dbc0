-- `views::list::prune` meets its contract: the places hold what is above the identifier of the views gone through, and what is left comes after.
use Rattle.std.proofs.Common.{◌≤◌, drop}
use Rattle.views.specs.Lists.{above_of}
use Rattle.views.proofs.PlaceLaws.{Filling}
use Rattle.views.proofs.list.prune.Given as goal

abbrev pub invariant-loop-v : goal.invariant-loop-v
invariant-loop-v l = (l.k ≤ l.v-index) × Filling (above_of l.floor.0 l.v-items) (above_of l.floor.0 (drop l.v-index l.v-items)) l.at l.k
