-- What is remembered between lines, and what a line changes of it.
use Rattle.std.specs.Prelude.{List, ℕ, min, set, replicate}
use Rattle.views.specs.Lists.{view_of, no_view}
use Rattle.test_script.specs.ParseParts.{word_number}
use Rattle.test_script.specs.OperandParts.{byte_word, identifier_word}
use Rattle.test_group.specs.declared.desk.Desk.{Desk}

-- how many records there are
abbrev pub longest : ℕ
longest = 33

-- none is lent, and each is the zero view
abbrev pub fresh_desk : Desk
fresh_desk = record { list = replicate longest no_view; lent = 0 }

-- the line's first operand says how many are lent
abbrev pub with_lent : Desk → List ℕ → Desk
with_lent d line = record { list = d.list; lent = min (word_number line 1) longest }

-- the line's operands are a place, an identifier and a set
abbrev pub with_view : Desk → List ℕ → Desk
with_view d line = record {
  list = set d.list (min (word_number line 1) 32) (view_of (identifier_word line 2) (byte_word line 3));
  lent = d.lent;
}
