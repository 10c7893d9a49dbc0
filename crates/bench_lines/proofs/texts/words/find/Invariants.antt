-- What is looked for from the place so far on is what was looked for.
use mathlib.Core.Path.{◌≡◌}
use Rattle.bench_lines.specs.Words.{find_from}
use Rattle.bench_lines.proofs.texts.words.find.Given as goal

abbrev pub invariant-loop-i : goal.invariant-loop-i
invariant-loop-i l = find_from l.c l.s l.from ≡ find_from l.c l.s l.i
