-- `group_bytes::place` meets its contract: no view from the i-th on has the identifier.
use Rattle.group_bytes.proofs.PlaceTurns.{NoneFrom}
use Rattle.group_bytes.proofs.place.Given as goal

abbrev pub invariant-loop-i : goal.invariant-loop-i
invariant-loop-i l = NoneFrom l.list l.id.0 l.n l.i
