-- The operands of a line, each cut to what there is room for.
use Rattle.std.specs.Prelude.{List, ℕ, ◌%◌, ◌^◌}
use Rattle.test_script.specs.ParseParts.{word_number}

-- the word of a number as a byte, and as an identifier
abbrev pub byte_word : List ℕ → ℕ → ℕ
byte_word line n = word_number line n % 256

abbrev pub identifier_word : List ℕ → ℕ → ℕ
identifier_word line n = word_number line n % 2 ^ 32
