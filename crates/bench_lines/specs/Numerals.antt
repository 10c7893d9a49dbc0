-- Decimal numerals: the number that a word is, and the numeral of a number.
use Rattle.std.specs.Prelude.{Bool, true, false, cond, not, List, [], ◌∷◌, ◌++◌, Option, Some, None, ℕ}
use Rattle.std.specs.Prelude.{zero, suc, ◌+◌, ◌-◌, ◌*◌, ◌/◌, ◌%◌, eqb, ltb, leb}
use Rattle.views.specs.Sets.{both}

-- ---- reading

-- 48 is the digit 0, 57 the digit 9
abbrev pub is_digit : ℕ → Bool
is_digit c = both (leb 48 c) (leb c 57)

unfoldable pub digits_only : List ℕ → Bool
digits_only [] = true
digits_only (c ∷ w) = both (is_digit c) (digits_only w)

-- the word is not empty, and `0` is the only one that begins with 0
unfoldable pub begun : List ℕ → Bool
begun [] = false
begun (c ∷ []) = true
begun (c ∷ d ∷ w) = not (eqb c 48)

-- the value of digits behind a number
unfoldable pub value_from : ℕ → List ℕ → ℕ
value_from x [] = x
value_from x (c ∷ w) = value_from (x * 10 + (c - 48)) w

-- the number that the word is, at most max
unfoldable pub numeral_of : ℕ → List ℕ → Option ℕ
numeral_of max w =
    cond (both (begun w) (both (digits_only w) (leb (value_from 0 w) max))) (Some (value_from 0 w)) None

-- ---- printing

-- the numeral of a number of at most k digits
unfoldable pub decimal_by : ℕ → ℕ → List ℕ
decimal_by zero x = []
decimal_by (suc k) x = cond (ltb x 10) ((48 + x) ∷ []) (decimal_by k (x / 10) ++ ((48 + x % 10) ∷ []))

-- a number of 8 bytes has at most 20 digits
abbrev pub decimal : ℕ → List ℕ
decimal x = decimal_by 20 x
