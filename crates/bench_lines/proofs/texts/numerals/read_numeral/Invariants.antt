-- What the digits so far and the rest of the word say is what the word says.
use mathlib.Core.Path.{◌≡◌}
use Prim.Native.Nat.{◌≤◌}
use lib.ListN.{drop}
use Rattle.bench_lines.specs.Numerals.{numeral_of}
use Rattle.bench_lines.proofs.NumeralLaws.{rest_of}
use Rattle.bench_lines.proofs.texts.numerals.read_numeral.Given as goal

abbrev pub invariant-loop-c : goal.invariant-loop-c
invariant-loop-c l = (l.x ≤ l.max) × (numeral_of l.max l.word ≡ rest_of l.max l.x (drop l.c-index l.word))
