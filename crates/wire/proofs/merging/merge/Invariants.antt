-- `merging::merge` meets its contract: the places hold what is above the identifier of both lists up to i and j, and that of what is left comes behind;
-- turns and the views left are as many as there are in both lists together.
use mathlib.Core.Path.{◌≡◌}
use Prim.Native.Nat.{◌+◌, ◌≤◌, ◌-◌}
use lib.ListN.{length, drop}
use Rattle.views.specs.Lists.{union_of, above_of}
use Rattle.views.proofs.PlaceLaws.{Filling}
use Rattle.wire.specs.Reader.{views_in}
use Rattle.wire.proofs.merging.merge.Given as goal

abbrev pub invariant-loop-next : goal.invariant-loop-next
invariant-loop-next l =
    let first = views_in l.b l.from l.n in
    let second = views_in l.c l.on l.m in
    let left = union_of (drop l.i first) (drop l.j second) in
    (l.i ≤ l.n) × (l.j ≤ l.m) × (l.k ≤ l.turns) × (l.turns + length left ≡ length (union_of first second))
    × Filling (above_of l.floor.0 (union_of first second)) (above_of l.floor.0 left) l.at l.k

abbrev pub decreases-loop-next : goal.decreases-loop-next
decreases-loop-next l = l.n + l.m - (l.i + l.j)
