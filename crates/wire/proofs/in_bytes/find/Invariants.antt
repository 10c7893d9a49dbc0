-- `in_bytes::find` meets its contract: no view passed has the identifier, so the answer is that of the rest.
use mathlib.Core.Path.{◌≡◌}
use Prim.Native.Nat.{◌+◌, ◌-◌, ◌*◌}
use Rattle.views.specs.Lists.{find_of}
use Rattle.wire.specs.Reader.{views_in}
use Rattle.wire.proofs.in_bytes.find.Given as goal

abbrev pub invariant-loop-i : goal.invariant-loop-i
invariant-loop-i l = find_of l.id.0 (views_in l.b l.from l.count) ≡ find_of l.id.0 (views_in l.b (l.from + 5 * l.i) (l.count - l.i))
