-- What is promised of the bench's texts: a number that is printed reads back, and every reply fits a buffer of one
-- length.
use Rattle.std.specs.Prelude.{◌≡◌, Some, IfSome, ℕ, ◌^◌, ◌≤◌, ◌<◌, length}
use Rattle.views.specs.Lists.{id_of}
use Rattle.events.specs.declared.Event.{Event}
use Rattle.events.specs.declared.Event.TheVariants.{Attempt, Register, Send, Hand, Safe}
use Rattle.events.specs.Replies.{Reply, event_in}
use Rattle.bench_lines.specs.Numerals.{numeral_of, decimal}
use Rattle.bench_lines.specs.ReplyLines.{reply_line, longest_reply}

-- a number of 8 bytes, where a number up to `max` is asked
abbrev pub ReadsBack : Type 0
ReadsBack = (x max : ℕ) → x < 2 ^ 64 → x ≤ max → numeral_of max (decimal x) ≡ Some x

-- an event's numbers are within their types
abbrev pub Sized : Event → Type 0
Sized (Attempt p v) = (p.0 < 256) × (id_of v < 2 ^ 32) × (v.set < 256)
Sized (Register p g) = (p.0 < 256) × (g.0 < 2 ^ 32)
Sized (Send p g x) = (p.0 < 256) × (g.0 < 2 ^ 32) × (x < 2 ^ 64)
Sized (Hand p g x) = (p.0 < 256) × (g.0 < 2 ^ 32) × (x.sender.0 < 256) × (x.entry < 2 ^ 64)
Sized (Safe p g x) = (p.0 < 256) × (g.0 < 2 ^ 32) × (x.sender.0 < 256) × (x.entry < 2 ^ 64)

abbrev pub RepliesFit : Type 0
RepliesFit = (r : Reply) → IfSome (event_in r) Sized → length (reply_line r) ≤ longest_reply
