-- By the second letter.
use mathlib.Core.Path.{refl}
use native.Mathlib.Omega.{arith}
use borrow.Author.Tests.{ne_eqb}
use Rattle.test_group.specs.WordParts.{with_l}
use Rattle.test_group.proofs.word.with_l.Goals as goal

pub returns-in-101 : goal.returns-in-101
unfolding with_l
returns-in-101 c = rw c.in-101.is refl

pub returns-in-105 : goal.returns-in-105
unfolding with_l
returns-in-105 c = rw c.in-105.is refl

pub returns-in-111 : goal.returns-in-111
unfolding with_l
returns-in-111 c = rw c.in-111.is refl

pub returns-in_default : goal.returns-in_default
unfolding with_l
returns-in_default c = rw (ne_eqb c.args.second 101 (omega arith), ne_eqb c.args.second 105 (omega arith), ne_eqb c.args.second 111 (omega arith)) refl
