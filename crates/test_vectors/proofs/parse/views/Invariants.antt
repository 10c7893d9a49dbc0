-- A view in its place at each turn, while there are places.
use Prim.Native.Nat.{◌+◌, ◌-◌, ◌*◌}
use Rattle.test_vectors.specs.LineParts.{views_from}
use Rattle.views.proofs.PlaceLaws.{Filling}
use Rattle.test_vectors.proofs.parse.views.Given as goal

abbrev pub invariant-loop-i : goal.invariant-loop-i
invariant-loop-i l = Filling (views_from l.xs 4 l.n) (views_from l.xs (4 + 2 * l.i) (l.n - l.i)) l.at l.i
