-- By the third letter.
use mathlib.Core.Path.{refl}
use native.Mathlib.Omega.{arith}
use borrow.Author.Tests.{ne_eqb}
use Rattle.test_stories.specs.WordParts.{with_p}
use Rattle.test_stories.proofs.word.with_p.Goals as goal

pub returns-in-115 : goal.returns-in-115
unfolding with_p
returns-in-115 c = rw c.in-115.is refl

pub returns-in-99 : goal.returns-in-99
unfolding with_p
returns-in-99 c = rw c.in-99.is refl

pub returns-in-107 : goal.returns-in-107
unfolding with_p
returns-in-107 c = rw c.in-107.is refl

pub returns-in_default : goal.returns-in_default
unfolding with_p
returns-in_default c = rw (ne_eqb c.args.third 115 (omega arith), ne_eqb c.args.third 99 (omega arith), ne_eqb c.args.third 107 (omega arith)) refl
