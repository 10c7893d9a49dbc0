-- Equal slices are the same bytes.
use mathlib.Core.Path.{◌∙◌}
use Rattle.bench_lines.proofs.WordLaws.{same-bytes}
use Rattle.bench_lines.proofs.texts.words.is.Goals as goal

pub returns : goal.returns
returns c = c.eq.ensures ∙ same-bytes c.args.word.now c.args.name.now
