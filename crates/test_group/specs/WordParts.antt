-- What a line says: its word, by its first letters.
use Rattle.std.specs.Prelude.{cond, List, ℕ, eqb, get_or}
use Prim.Native.Char.{code}
use Prim.Native.String.{String}
use Prim.Native.String as text
use Rattle.test_group.specs.declared.word.Word.{Word}
use Rattle.test_group.specs.declared.word.Word.TheVariants.{Unknown, Comment, Lend, List as Listing, Group, Step}
use Rattle.test_group.specs.declared.word.Word.TheVariants.{Run, Put, Create, Lookup}

-- the byte of a letter
abbrev pub letter : String → ℕ
letter text.[] = 0
letter (text.◌∷◌ c s) = code c

-- lend, list, lookup
unfoldable pub with_l : ℕ → Word
with_l c = cond (eqb c (letter "e")) Lend (cond (eqb c (letter "i")) Listing (cond (eqb c (letter "o")) Lookup Unknown))

-- by the first letter, and by the second where more than one word begins with it
unfoldable pub by_letters : ℕ → ℕ → Word
by_letters first second =
    cond (eqb first (letter "#")) Comment
    (cond (eqb first (letter "l")) (with_l second)
    (cond (eqb first (letter "g")) Group
    (cond (eqb first (letter "s")) Step
    (cond (eqb first (letter "r")) Run
    (cond (eqb first (letter "p")) Put
    (cond (eqb first (letter "c")) Create Unknown))))))

abbrev pub word_of : List ℕ → Word
word_of line = by_letters (get_or line 0 0) (get_or line 1 0)
