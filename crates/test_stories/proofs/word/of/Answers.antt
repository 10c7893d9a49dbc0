-- By the first letter.
use mathlib.Core.Path.{refl, sym, ap, ◌∙◌}
use native.Mathlib.Omega.{arith}
use Rattle.test_stories.specs.WordParts.{with_p, with_r, with_s, by_letters}
use Rattle.test_stories.proofs.StoryLaws.{letters-none}
use Rattle.test_stories.proofs.word.of.Goals as goal

pub returns-in-35 : goal.returns-in-35
unfolding by_letters
returns-in-35 c = let e = sym c.byte-first.ensures ∙ c.in-35.is in rw e refl

pub returns-in-106 : goal.returns-in-106
unfolding by_letters
returns-in-106 c = let e = sym c.byte-first.ensures ∙ c.in-106.is in rw e refl

pub returns-in-100 : goal.returns-in-100
unfolding by_letters
returns-in-100 c = let e = sym c.byte-first.ensures ∙ c.in-100.is in rw e refl

pub returns-in-97 : goal.returns-in-97
unfolding by_letters
returns-in-97 c = let e = sym c.byte-first.ensures ∙ c.in-97.is in rw e refl

pub returns-in-104 : goal.returns-in-104
unfolding by_letters
returns-in-104 c = let e = sym c.byte-first.ensures ∙ c.in-104.is in rw e refl

pub returns-in-116 : goal.returns-in-116
unfolding by_letters
returns-in-116 c = let e = sym c.byte-first.ensures ∙ c.in-116.is in rw e refl

pub returns-in-99 : goal.returns-in-99
unfolding by_letters
returns-in-99 c = let e = sym c.byte-first.ensures ∙ c.in-99.is in rw e refl

pub returns-in-108 : goal.returns-in-108
unfolding by_letters
returns-in-108 c = let e = sym c.byte-first.ensures ∙ c.in-108.is in rw e refl

pub returns-in-112 : goal.returns-in-112
unfolding by_letters
returns-in-112 c = let e = sym c.byte-first.ensures ∙ c.in-112.is in c.with_p.ensures ∙ rw e (ap with_p c.byte-third.ensures)

pub returns-in-114 : goal.returns-in-114
unfolding by_letters
returns-in-114 c = let e = sym c.byte-first.ensures ∙ c.in-114.is in c.with_r.ensures ∙ rw e (ap with_r c.byte-third.ensures)

pub returns-in-115 : goal.returns-in-115
unfolding by_letters
returns-in-115 c = let e = sym c.byte-first.ensures ∙ c.in-115.is in c.with_s.ensures ∙ rw e (ap with_s c.byte-second.ensures)

pub returns-in_default : goal.returns-in_default
returns-in_default c = letters-none _ _ _ _ c.byte-first.ensures (omega arith) (omega arith) (omega arith) (omega arith) (omega arith) (omega arith) (omega arith) (omega arith) (omega arith) (omega arith) (omega arith)
