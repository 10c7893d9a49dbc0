-- Texts as bytes, and a line's words: a line is split at each space.
use Rattle.std.specs.Prelude.{Bool, true, false, cond, List, [], ◌∷◌, ℕ, suc, ◌+◌, min, eqb, length, drop}
use Prim.Native.Char.{code}
use Prim.Native.String.{String}
use Prim.Native.String as text
use Rattle.views.specs.Sets.{both}

-- the bytes of a text
abbrev pub bytes : String → List ℕ
bytes text.[] = []
bytes (text.◌∷◌ c s) = code c ∷ bytes s

-- the byte between words
abbrev pub space : ℕ
space = 32

-- the byte that ends a line
abbrev pub line_feed : ℕ
line_feed = 10

-- ---- words

-- a byte before the words of what follows: a space begins a word, any other byte belongs to the first
unfoldable pub before : Bool → ℕ → List (List ℕ) → List (List ℕ)
before true c ws = [] ∷ ws
before false c [] = (c ∷ []) ∷ []
before false c (w ∷ ws) = (c ∷ w) ∷ ws

-- the words of a line, which are empty where a space has no word beside it
unfoldable pub words : List ℕ → List (List ℕ)
words [] = [] ∷ []
words (c ∷ s) = before (eqb c space) c (words s)

-- the two are the same bytes
unfoldable pub same : List ℕ → List ℕ → Bool
same [] [] = true
same [] (d ∷ t) = false
same (c ∷ s) [] = false
same (c ∷ s) (d ∷ t) = both (eqb c d) (same s t)

-- ---- a byte looked for

-- the place of the first byte c, the length if there is none
unfoldable pub place_of : ℕ → List ℕ → ℕ
place_of c [] = 0
place_of c (d ∷ s) = cond (eqb d c) 0 (suc (place_of c s))

-- the same at or after a place
unfoldable pub find_from : ℕ → List ℕ → ℕ → ℕ
find_from c s from = min (from + place_of c (drop from s)) (length s)
