-- Input as it comes and output as it goes: what the bench's own functions give and leave.
use Rattle.std.specs.Prelude.{◌≡◌, Bool, true, cond, List, ℕ, ◌+◌, ◌-◌, ◌≤◌, min, leb, length, take, drop}
use Rattle.wire.specs.Writer.{overwritten}
use Rattle.bench_lines.specs.TextParts.{Put}
use Rattle.bench_lines.specs.Lines.{longest_line}
use Rattle.bench_lines.specs.ReplyLines.{longest_reply}

-- what is read is not known beforehand: the bytes that were held stay, those that count then are in the buffer, and a
-- read that failed adds none
pub record Filled (held : ℕ) (entry exit : List ℕ) (n : ℕ) (failed : Bool) : Type 0 where
  pub more : held ≤ n
  pub within : n ≤ length exit
  pub same : take held exit ≡ take held entry
  pub none : failed ≡ true → n ≡ held

-- how many bytes from a place to n are kept: one more than the longest line has, at most
abbrev pub kept_count : ℕ → ℕ → ℕ
kept_count at n = min (longest_line + 1) (n - at)

-- they go to the front
pub record Kept (at n : ℕ) (entry exit : List ℕ) (r : ℕ) : Type 0 where
  pub count : r ≡ kept_count at n
  pub bytes : exit ≡ overwritten (take (kept_count at n) (drop at entry)) entry

-- where the next reply goes: behind the bytes that are filled, or to the front where no room for every reply is left
abbrev pub place_for : ℕ → List ℕ → ℕ
place_for filled out = cond (leb longest_reply (length out - filled)) filled 0

-- a line is put there, and n bytes are filled then
abbrev pub Behind : List ℕ → ℕ → List ℕ → List ℕ → ℕ → Type 0
Behind line filled entry exit n = Put line entry (place_for filled entry) exit n
