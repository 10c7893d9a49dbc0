-- How many bytes the parts of messages and of lent records take, each once. Every size and place is made of these and
-- of the limits. And the number of the layout that these places make.
use Rattle.std.specs.Prelude.{ℕ, ◌+◌}

-- a view identifier
abbrev pub identifier_size : ℕ
identifier_size = 4

-- a view: its identifier, then its set
abbrev pub view_size : ℕ
view_size = identifier_size + 1

-- a number: an entry number, or a told's count
abbrev pub number_size : ℕ
number_size = 8

-- the number of the layout
abbrev pub layout_number : ℕ
layout_number = 1
