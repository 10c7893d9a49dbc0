-- By the first letter.
use mathlib.Core.Path.{◌≡◌, refl, sym, ap, ◌∙◌}
use Prim.Native.Nat.{ℕ}
use native.Mathlib.Omega.{arith}
use borrow.Author.Tests.{ne_eqb}
use Rattle.test_group.specs.declared.word.Word.TheVariants.{Unknown}
use Rattle.test_group.specs.WordParts.{with_l, by_letters}
use Rattle.test_group.proofs.word.of.Goals as goal

-- no word begins with such a letter
none : (x c d : ℕ) → x ≡ c → (x ≡ 35 → ⊥) → (x ≡ 108 → ⊥) → (x ≡ 103 → ⊥) → (x ≡ 115 → ⊥) → (x ≡ 114 → ⊥) → (x ≡ 112 → ⊥) → (x ≡ 99 → ⊥) → Unknown ≡ by_letters c d
unfolding by_letters
none x c d p n1 n2 n3 n4 n5 n6 n7 = rw (← p, ne_eqb x 35 n1, ne_eqb x 108 n2, ne_eqb x 103 n3, ne_eqb x 115 n4, ne_eqb x 114 n5, ne_eqb x 112 n6, ne_eqb x 99 n7)

pub returns-in-35 : goal.returns-in-35
unfolding by_letters
returns-in-35 c = let e = sym c.byte-first.ensures ∙ c.in-35.is in rw e refl

pub returns-in-108 : goal.returns-in-108
unfolding by_letters
returns-in-108 c = let e = sym c.byte-first.ensures ∙ c.in-108.is in c.with_l.ensures ∙ rw e (ap with_l c.byte.ensures)

pub returns-in-103 : goal.returns-in-103
unfolding by_letters
returns-in-103 c = let e = sym c.byte-first.ensures ∙ c.in-103.is in rw e refl

pub returns-in-115 : goal.returns-in-115
unfolding by_letters
returns-in-115 c = let e = sym c.byte-first.ensures ∙ c.in-115.is in rw e refl

pub returns-in-114 : goal.returns-in-114
unfolding by_letters
returns-in-114 c = let e = sym c.byte-first.ensures ∙ c.in-114.is in rw e refl

pub returns-in-112 : goal.returns-in-112
unfolding by_letters
returns-in-112 c = let e = sym c.byte-first.ensures ∙ c.in-112.is in rw e refl

pub returns-in-99 : goal.returns-in-99
unfolding by_letters
returns-in-99 c = let e = sym c.byte-first.ensures ∙ c.in-99.is in rw e refl

pub returns-in_default : goal.returns-in_default
returns-in_default c = none _ _ _ c.byte-first.ensures (omega arith) (omega arith) (omega arith) (omega arith) (omega arith) (omega arith) (omega arith)
