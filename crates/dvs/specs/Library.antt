-- What the library says of itself: its version, and how long each lent range is.
use Rattle.std.specs.Prelude.{cond, ℕ, ◌*◌, eqb}
use Rattle.views.specs.Limits.{max_views, longest}
use Rattle.views.specs.Sizes.{view_size}
use Rattle.wire.specs.Records.{record_size}
use Rattle.rules.specs.Sound.{within}
use Rattle.book_bytes.specs.Places.{book_size}
use Rattle.group_bytes.specs.Places.{books_size, queues_size}
use Rattle.c_answers.specs.Answers.{event_size, length_size, delivery_size, found_size}
use Rattle.group_run.specs.Records.{step_size, answer_size}

-- major · 10000 + minor · 100 + patch
abbrev pub version : ℕ
version = 600

-- ---- the length of a range by its number

-- a book 1, an event 2, a length or a count 3, a message's record 4, a buffer for any message 5, a delivery 11
unfoldable pub member_size : ℕ → ℕ → ℕ
member_size range other =
    cond (eqb range 1) book_size (
    cond (eqb range 2) event_size (
    cond (eqb range 3) length_size (
    cond (eqb range 4) record_size (
    cond (eqb range 5) longest (
    cond (eqb range 11) delivery_size other)))))

-- a group's list 6, its books 7, its queues 8; of a run a step 9 and an answer 10; a view that may be missing 12; 0 for
-- every other number
unfoldable pub group_size : ℕ → ℕ → ℕ → ℕ
group_size range list queues =
    cond (eqb range 6) list (
    cond (eqb range 7) books_size (
    cond (eqb range 8) queues (
    cond (eqb range 9) step_size (
    cond (eqb range 10) answer_size (
    cond (eqb range 12) found_size 0)))))

-- a list with room for so many views, and the queues for it; 0 where they are not 1 to 32
unfoldable pub list_size : ℕ → ℕ
list_size views = cond (within 1 views max_views) (view_size * views) 0

unfoldable pub tables_size : ℕ → ℕ
tables_size views = cond (within 1 views max_views) (queues_size views) 0

unfoldable pub size_of : ℕ → ℕ → ℕ
size_of range views = member_size range (group_size range (list_size views) (tables_size views))
