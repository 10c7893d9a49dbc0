-- What is remembered about each book.
use Rattle.std.specs.Prelude.{List, ℕ, set, replicate, Result, Ok, Err}
use Rattle.views.specs.declared.refusal.Refusal.{Refusal}
use Rattle.events.specs.Replies.{Reply}
use Rattle.book_bytes.specs.Places.{book_size}
use Rattle.test_stories.specs.declared.desk.Desk.{Desk}
use Rattle.test_script.specs.OperandParts.{byte_word}

-- how many bytes of a book can be lent, of a message passed, and of a line delivered
abbrev pub room : ℕ
room = 5240

abbrev pub slip_room : ℕ
slip_room = 200

abbrev pub packet_room : ℕ
packet_room = 1024

abbrev pub fresh_desk : Desk
fresh_desk = record { lent = replicate 4 book_size; own = replicate 4 0; slip = replicate 4 0 }

-- the number stands in one of three rows, in a book's place
abbrev pub with_lent : Desk → ℕ → ℕ → Desk
with_lent d k x = record { lent = set d.lent k x; own = d.own; slip = d.slip }

abbrev pub with_own : Desk → ℕ → ℕ → Desk
with_own d k x = record { lent = d.lent; own = set d.own k x; slip = d.slip }

abbrev pub with_slip : Desk → ℕ → ℕ → Desk
with_slip d k x = record { lent = d.lent; own = d.own; slip = set d.slip k x }

-- after a start, and after a pass of so many bytes: a refused one changes nothing
unfoldable pub after_start : Reply → Desk → ℕ → List ℕ → Desk
after_start (Err r) d k line = d
after_start (Ok e) d k line = with_own d k (byte_word line 4)

unfoldable pub after_pass : Result ℕ Refusal → Desk → ℕ → Desk
after_pass (Err r) d k = d
after_pass (Ok n) d k = with_slip d k n
