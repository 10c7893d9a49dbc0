-- Sets of members as bytes, and the majority test in words of members.
use Rattle.std.specs.Prelude.{Bool, true, false, cond, not, ℕ, zero, suc, ◌+◌, ◌*◌, ◌/◌, ◌%◌, ◌^◌, eqb, ltb, leb}
use Rattle.std.specs.Int.Bits.{bit_and, bit_or}
use Rattle.views.specs.Limits.{max_members}

abbrev pub both : Bool → Bool → Bool
both true b = b
both false b = false

-- member p is in the set: bit p is 1
unfoldable pub has : ℕ → ℕ → Bool
has s p = eqb (s / 2 ^ p % 2) 1

-- the set has no member
abbrev pub is_empty : ℕ → Bool
is_empty s = eqb s 0

-- the set has a member that is not below n
unfoldable pub is_beyond : ℕ → ℕ → Bool
is_beyond s n = leb (2 ^ n) s

-- the members that both sets have
unfoldable pub in_common : ℕ → ℕ → ℕ
in_common s t = bit_and s t

-- the set with the member q in it
unfoldable pub with_member : ℕ → ℕ → ℕ
with_member q s = bit_or s (2 ^ q)

-- what those of the members below n weigh together that the test picks
unfoldable pub weigh : (ℕ → ℕ) → (ℕ → Bool) → ℕ → ℕ
weigh w pick zero = 0
weigh w pick (suc n) = weigh w pick n + cond (pick n) (w n) 0

-- every member weighs 1
abbrev pub one : ℕ → ℕ
one p = 1

-- how many members the set has
abbrev pub size : ℕ → ℕ
size s = weigh one (has s) max_members

-- Test: twice the members in common exceed the members of the held view
unfoldable pub majority_of : ℕ → ℕ → Bool
majority_of s held = ltb (size held) (2 * size (in_common s held))

-- the set is not empty and not beyond n members
abbrev pub fits : ℕ → ℕ → Bool
fits n S = both (not (is_empty S)) (not (is_beyond S n))
