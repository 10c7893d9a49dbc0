-- By the third letter.
use mathlib.Core.Path.{refl}
use native.Mathlib.Omega.{arith}
use borrow.Author.Tests.{ne_eqb}
use Rattle.test_stories.specs.WordParts.{with_r}
use Rattle.test_stories.proofs.word.with_r.Goals as goal

pub returns-in-103 : goal.returns-in-103
unfolding with_r
returns-in-103 c = rw c.in-103.is refl

pub returns-in-108 : goal.returns-in-108
unfolding with_r
returns-in-108 c = rw c.in-108.is refl

pub returns-in_default : goal.returns-in_default
unfolding with_r
returns-in_default c = rw (ne_eqb c.args.third 103 (omega arith), ne_eqb c.args.third 108 (omega arith)) refl
