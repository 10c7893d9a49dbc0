-- The longest replies, computed from the definitions.
use Rattle.std.specs.Prelude.{Some, Ok, Err}
use mathlib.Core.Path.{◌≡◌, refl}
use Rattle.views.specs.declared.refusal.Refusal.TheVariants.{LineUnreadable}
use Rattle.views.specs.Lists.{view_of}
use Rattle.events.specs.declared.Event.TheVariants.{Attempt, Register, Safe}
use Rattle.events.specs.Replies.{member_number, identifier, sent}
use Rattle.bench_lines.specs.Words.{bytes}
use Rattle.bench_lines.specs.Numerals.{decimal_by}
use Rattle.bench_lines.specs.ReplyLines.{numbers_text, event_line, reply_line}

-- and that to a line that cannot be read
pub record LargestReplies : Type 0 where
  pub attempt : reply_line (Ok (Some (Attempt (member_number 255) (view_of 4294967295 255)))) ≡ bytes "attempt 255 4294967295 255\n"
  pub register : reply_line (Ok (Some (Register (member_number 10) (identifier 100)))) ≡ bytes "register 10 100\n"
  pub safe :
      reply_line (Ok (Some (Safe (member_number 255) (identifier 4294967295) (sent 255 18446744073709551615))))
      ≡ bytes "safe 255 4294967295 255 18446744073709551615\n"
  pub line-unreadable : reply_line (Err LineUnreadable) ≡ bytes "refused 40\n"

pub largest-replies : LargestReplies
unfolding decimal_by numbers_text event_line reply_line
largest-replies = record { attempt = refl; register = refl; safe = refl; line-unreadable = refl }
