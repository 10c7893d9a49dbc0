-- Lines taken apart: what the functions of `parse` give for any bytes.
use Rattle.std.specs.Prelude.{◌≡◌, cond, List, [], ◌∷◌, ◌++◌, ℕ, zero, suc}
use Rattle.std.specs.Prelude.{◌+◌, ◌-◌, ◌*◌, ◌^◌, ◌≤◌, eqb, ltb, leb, length, take, drop}

-- so many bytes stand at the front of a buffer, which has that many
abbrev pub IsPrefixLen : ℕ → List ℕ → Type 0
IsPrefixLen n xs = (n ≤ length xs) × (n ≡ length (take n xs))

-- ---- words

-- where the word of a number starts: behind so many spaces, or where the bytes end
unfoldable pub word_start : ℕ → List ℕ → ℕ
word_start zero s = 0
word_start (suc n) [] = 0
word_start (suc n) (c ∷ s) = suc (cond (eqb c 32) (word_start n s) (word_start (suc n) s))

-- ---- decimal numbers

-- the digit c behind a number; the number alone where c is no digit, or 8 bytes do not hold it
unfoldable pub pushed : ℕ → ℕ → ℕ
pushed x c = cond (ltb c 48) x (cond (ltb 57 c) x (cond (ltb (x * 10 + (c - 48)) (2 ^ 64)) (x * 10 + (c - 48)) x))

-- the digits up to a space behind a number
unfoldable pub number_from : ℕ → List ℕ → ℕ
number_from x [] = x
number_from x (c ∷ s) = cond (eqb c 32) x (number_from (pushed x c) s)

-- the number that the line's word of this number is, 0 if there is none
unfoldable pub word_number : List ℕ → ℕ → ℕ
word_number line n = number_from 0 (drop (word_start n line) line)

-- ---- bytes in hexadecimal

-- a digit's value, 0 for what is no digit
unfoldable pub nibble_of : ℕ → ℕ
nibble_of c = cond (ltb c 48) 0 (cond (leb c 57) (c - 48) (cond (ltb c 97) 0 (cond (leb c 102) (c - 97 + 10) 0)))

-- the bytes that pairs of digits are, as many as there are and k at most
unfoldable pub unhexed : ℕ → List ℕ → List ℕ
unhexed zero s = []
unhexed (suc k) [] = []
unhexed (suc k) (a ∷ []) = []
unhexed (suc k) (a ∷ b ∷ s) = (nibble_of a * 16 + nibble_of b) ∷ unhexed k s

-- bytes at the front of a buffer, and how many they are; the rest of the buffer as it was
pub record Fronted (s entry exit : List ℕ) (n : ℕ) : Type 0 where
  pub count : n ≡ length s
  pub bytes : exit ≡ s ++ drop (length s) entry
