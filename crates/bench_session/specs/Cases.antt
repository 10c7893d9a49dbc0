-- The specification's whole case: its lines and the replies to them, as bytes.
use Rattle.std.specs.Prelude.{◌≡◌, Bool, List, [], ◌∷◌, ◌++◌, map, ℕ, ◌*◌, length, take}
use Prim.Native.String.{String}
use Rattle.views.specs.Sizes.{view_size}
use Rattle.group_bytes.specs.Places.{books_size, queues_size}
use Rattle.group_bytes.specs.Groups.{Ranges}
use Rattle.bench_lines.specs.Words.{bytes, line_feed}
use Rattle.bench_lines.specs.Lines.{all_line}
use Rattle.bench_lines.specs.ReplyLines.{reply_line}
use Rattle.bench_session.specs.Showing.{idle}
use Rattle.bench_session.specs.Scripts.{lines_of, replies_to, shown_to}

-- the bench lends 8 view records
abbrev pub bench_views : ℕ
bench_views = 8

-- ranges of the bench's lengths, whatever stands in them
pub record OfBench (r : Ranges) : Type 0 where
  pub list : length r.list ≡ view_size * bench_views
  pub books : length r.books ≡ books_size
  pub queues : length r.queues ≡ queues_size bench_views

-- left column is input, right is output; before them stands `all`, which has none
pub data Row : Type 0 where
  row : String → String → Row

unfoldable pub whole_case : List Row
whole_case =
    row "group 2 3" "ok"
    ∷ row "send 0 5" "send 0 0 5"
    ∷ row "pass 0" "ok"
    ∷ row "order 0 0" "ok"
    ∷ row "deliver 1" "ok"
    ∷ row "hand 1" "hand 1 0 0 5"
    ∷ row "attempt 1" "refused 19"
    ∷ []

-- a line's bytes without the byte 10 that ends it, as the bench takes it; a reply's with it
unfoldable pub input : Row → List ℕ
input (row line reply) = bytes line

unfoldable pub output : Row → List ℕ
output (row line reply) = bytes reply ++ (line_feed ∷ [])

pub record CaseIn (r : Ranges) : Type 0 where
  -- the lines behind `all` get their replies, whether a group was running or not
  pub replies :
      (running : Bool) → map reply_line (replies_to running r (lines_of (map input whole_case))) ≡ map output whole_case
  -- with `all` as the first line each is shown
  pub shown : map reply_line (shown_to idle r (all_line ∷ map input whole_case)) ≡ map output whole_case
  -- without it the first six are, and the refusal is not
  pub quiet : map reply_line (shown_to idle r (map input whole_case)) ≡ map output (take 6 whole_case)

abbrev pub WholeCase : Type 0
WholeCase = (r : Ranges) → OfBench r → CaseIn r
