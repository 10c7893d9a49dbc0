-- The digits so far stand at the end of their places, and what is left is printed before them.
use mathlib.Core.Path.{◌≡◌}
use mathlib.Core.List.{◌++◌}
use Prim.Native.Nat.{◌+◌, ◌^◌, ◌≤◌, ◌<◌}
use lib.ListN.{length, drop}
use Rattle.bench_lines.specs.Numerals.{decimal}
use Rattle.bench_lines.proofs.texts.numerals.put_number.Given as goal

abbrev pub invariant-loop-rest : goal.invariant-loop-rest
invariant-loop-rest l = (l.i ≤ 19) × (length l.digits ≡ 20) × (l.rest < 10 ^ 20) × (l.rest < 10 ^ (l.i + 1)) × (decimal l.x ≡ decimal l.rest ++ drop (l.i + 1) l.digits)

abbrev pub decreases-loop-rest : goal.decreases-loop-rest
decreases-loop-rest l = l.rest
