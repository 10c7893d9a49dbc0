-- By the second letter.
use mathlib.Core.Path.{refl}
use native.Mathlib.Omega.{arith}
use borrow.Author.Tests.{ne_eqb}
use Rattle.test_stories.specs.WordParts.{with_s}
use Rattle.test_stories.proofs.word.with_s.Goals as goal

pub returns-in-116 : goal.returns-in-116
unfolding with_s
returns-in-116 c = rw c.in-116.is refl

pub returns-in-101 : goal.returns-in-101
unfolding with_s
returns-in-101 c = rw c.in-101.is refl

pub returns-in-97 : goal.returns-in-97
unfolding with_s
returns-in-97 c = rw c.in-97.is refl

pub returns-in_default : goal.returns-in_default
unfolding with_s
returns-in_default c = rw (ne_eqb c.args.second 116 (omega arith), ne_eqb c.args.second 101 (omega arith), ne_eqb c.args.second 97 (omega arith)) refl
