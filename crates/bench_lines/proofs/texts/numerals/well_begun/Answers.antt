-- By the length: none, one, more.
use mathlib.Core.Path.{sym}
use native.Mathlib.Omega.{arith}
use Rattle.bench_lines.proofs.NumeralLaws.{begun-empty, begun-one, begun_more}
use Rattle.bench_lines.proofs.texts.numerals.well_begun.Goals as goal

pub returns-in-empty : goal.returns-in-empty
returns-in-empty c = sym (begun-empty c.args.word.now (omega arith))

pub returns-in-len1 : goal.returns-in-len1
returns-in-len1 c = sym (begun-one c.args.word.now (omega arith))

pub returns-in-len1-up : goal.returns-in-len1-up
returns-in-len1-up c = sym (begun_more c.args.word.now (omega arith))
