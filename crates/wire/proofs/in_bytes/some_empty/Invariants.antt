-- `in_bytes::some_empty` meets its contract: none of the sets before the i-th is empty, so the answer is that of the rest.
use mathlib.Core.Path.{◌≡◌}
use Prim.Native.Nat.{◌+◌, ◌-◌, ◌*◌}
use Rattle.wire.specs.Format.{some_empty}
use Rattle.wire.specs.Reader.{views_in}
use Rattle.wire.proofs.in_bytes.some_empty.Given as goal

abbrev pub invariant-loop-i : goal.invariant-loop-i
invariant-loop-i l = some_empty (views_in l.b l.from l.count) ≡ some_empty (views_in l.b (l.from + 5 * l.i) (l.count - l.i))
