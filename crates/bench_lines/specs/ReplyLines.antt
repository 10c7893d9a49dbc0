-- The bytes that say a reply, with the byte 10 that ends the line.
use Rattle.std.specs.Prelude.{◌≡◌, List, [], ◌∷◌, ◌++◌, ℕ, leb, length, Some, None, Result, Ok, Err}
use Rattle.views.specs.declared.refusal.Refusal.{Refusal}
use Rattle.views.specs.declared.refusal.Refusal.TheVariants.{BufferTooShort}
use Rattle.views.specs.Refusals.{Verdict, number_of, require, and_then, left}
use Rattle.views.specs.Lists.{id_of}
use Rattle.wire.specs.Writer.{overwritten}
use Rattle.events.specs.declared.Event.{Event}
use Rattle.events.specs.declared.Event.TheVariants.{Attempt, Register, Send, Hand, Safe}
use Rattle.events.specs.Replies.{Reply}
use Rattle.bench_lines.specs.Words.{bytes, space, line_feed}
use Rattle.bench_lines.specs.Numerals.{decimal}

-- ---- the line

-- numbers, with a space before each
unfoldable pub numbers_text : List ℕ → List ℕ
numbers_text [] = []
numbers_text (x ∷ xs) = (space ∷ decimal x) ++ numbers_text xs

-- a word, numbers, and the byte that ends the line
abbrev pub spoken : List ℕ → List ℕ → List ℕ
spoken word xs = (word ++ numbers_text xs) ++ (line_feed ∷ [])

-- the member P, the client view I, the set S, the sender Q, the entry number V
unfoldable pub event_line : Event → List ℕ
event_line (Attempt p v) = spoken (bytes "attempt") (p.0 ∷ id_of v ∷ v.set ∷ [])
event_line (Register p g) = spoken (bytes "register") (p.0 ∷ g.0 ∷ [])
event_line (Send p g x) = spoken (bytes "send") (p.0 ∷ g.0 ∷ x ∷ [])
event_line (Hand p g x) = spoken (bytes "hand") (p.0 ∷ g.0 ∷ x.sender.0 ∷ x.entry ∷ [])
event_line (Safe p g x) = spoken (bytes "safe") (p.0 ∷ g.0 ∷ x.sender.0 ∷ x.entry ∷ [])

-- an accepted step that has no event is `ok`
unfoldable pub reply_line : Reply → List ℕ
reply_line (Ok None) = spoken (bytes "ok") []
reply_line (Ok (Some e)) = event_line e
reply_line (Err r) = spoken (bytes "refused") (number_of r ∷ [])

-- the longest reply's line: hand or safe, with four numbers of 3, 10, 3 and 20 digits
abbrev pub longest_reply : ℕ
longest_reply = 45

-- ---- what a call gives and leaves

-- 39 for a buffer with less room than the line has bytes
unfoldable pub line_verdict : List ℕ → ℕ → Verdict
line_verdict line room = require (leb (length line) room) BufferTooShort (Ok tt)

-- the number of bytes written, or the refusal; the line at the front of the buffer, or the buffer as it was
pub record Wrote (line entry exit : List ℕ) (r : Result ℕ Refusal) : Type 0 where
  pub reply : r ≡ and_then (line_verdict line (length entry)) (Ok (length line))
  pub buffer : exit ≡ left (line_verdict line (length entry)) (overwritten line entry) entry
