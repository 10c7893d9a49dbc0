-- What a line of a story says: its word, by its first letters, and operands cut to what there is room for.
use Rattle.std.specs.Prelude.{cond, List, ℕ, ◌%◌, eqb, get_or}
use Prim.Native.Char.{code}
use Prim.Native.String.{String}
use Prim.Native.String as text
use Rattle.events.specs.Kinds.{join_kind, deliver_kind, attempt_kind, register_kind, send_kind, hand_kind, tell_kind}
use Rattle.events.specs.Kinds.{safe_kind, collect_kind}
use Rattle.test_script.specs.ParseParts.{word_number}
use Rattle.test_stories.specs.declared.word.Word.{Word}
use Rattle.test_stories.specs.declared.word.Word.TheVariants.{Unknown, Comment, Start, Pass, Packet}
use Rattle.test_stories.specs.declared.word.Word.TheVariants.{Relay, Poke, Lend, Step}

-- the byte of a letter
abbrev pub letter : String → ℕ
letter text.[] = 0
letter (text.◌∷◌ c s) = code c

-- pass, packet, poke
unfoldable pub with_p : ℕ → Word
with_p c =
    cond (eqb c (letter "s")) Pass
    (cond (eqb c (letter "c")) Packet
    (cond (eqb c (letter "k")) Poke Unknown))

-- register, relay
unfoldable pub with_r : ℕ → Word
with_r c = cond (eqb c (letter "g")) (Step register_kind) (cond (eqb c (letter "l")) Relay Unknown)

-- start, send, safe
unfoldable pub with_s : ℕ → Word
with_s c =
    cond (eqb c (letter "t")) Start
    (cond (eqb c (letter "e")) (Step send_kind)
    (cond (eqb c (letter "a")) (Step safe_kind) Unknown))

-- by the first letter, and by the second or third where more than one word begins with it
unfoldable pub by_letters : ℕ → ℕ → ℕ → Word
by_letters first second third =
    cond (eqb first (letter "#")) Comment
    (cond (eqb first (letter "j")) (Step join_kind)
    (cond (eqb first (letter "d")) (Step deliver_kind)
    (cond (eqb first (letter "a")) (Step attempt_kind)
    (cond (eqb first (letter "h")) (Step hand_kind)
    (cond (eqb first (letter "t")) (Step tell_kind)
    (cond (eqb first (letter "c")) (Step collect_kind)
    (cond (eqb first (letter "l")) Lend
    (cond (eqb first (letter "p")) (with_p third)
    (cond (eqb first (letter "r")) (with_r third)
    (cond (eqb first (letter "s")) (with_s second) Unknown))))))))))

abbrev pub word_of : List ℕ → Word
word_of line = by_letters (get_or line 0 0) (get_or line 1 0) (get_or line 2 0)

-- ---- operands

-- the operand of a number as a book
abbrev pub book_word : List ℕ → ℕ → ℕ
book_word line n = word_number line n % 4
