-- `in_bytes::rise_above` meets its contract: up to the last view passed the list rises, so the answer is that of the rest above it.
use mathlib.Core.Path.{◌≡◌}
use Prim.Native.Nat.{◌+◌, ◌-◌, ◌*◌}
use Rattle.views.specs.Lists.{rises_above}
use Rattle.wire.specs.Reader.{views_in}
use Rattle.wire.proofs.in_bytes.rise_above.Given as goal

abbrev pub invariant-loop-i : goal.invariant-loop-i
invariant-loop-i l = rises_above l.initial.last.0 (views_in l.b l.from l.count) ≡ rises_above l.last.0 (views_in l.b (l.from + 5 * l.i) (l.count - l.i))
