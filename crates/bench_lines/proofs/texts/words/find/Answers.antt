-- What is looked for from the place so far on is what was looked for.
use mathlib.Core.Path.{sym, ◌∙◌}
use native.Mathlib.Omega.{arith}
use Rattle.bench_lines.proofs.WordLaws.{find-hit, find-miss, find_none}
use Rattle.bench_lines.proofs.texts.words.find.Goals as goal

pub returns-then-s-i : goal.returns-then-s-i
returns-then-s-i c = sym (c.loop-i.invariant ∙ find-hit c.args.c c.args.s.now c.loop-i.i (omega arith) c.if-s-i.true)

pub loop-i-preserved : goal.loop-i-preserved
loop-i-preserved c = c.loop-i.invariant ∙ find-miss c.args.c c.args.s.now c.loop-i.i (omega arith) c.if-s-i.false

pub returns : goal.returns
returns c = sym (c.loop-i.invariant ∙ find_none c.args.c c.args.s.now c.loop-i.i (omega arith))
