-- A host that drives a member: its calls with their operands, and the book's bytes after any list of them, refused or
-- not.
use Rattle.std.specs.Prelude.{List, [], ◌∷◌, ℕ, ◌^◌, ◌<◌, length}
use Rattle.views.specs.Lists.{view_of}
use Rattle.views.specs.Refusals.{left}
use Rattle.wire.specs.Widths.{AreBytes}
use Rattle.rules.specs.Data.{Identifier, Member, Book, Result, refused, accepted}
use Rattle.rules.specs.Member.{Done, Passing}
use Rattle.rules.specs.Alone.{Delivery}
use Rattle.events.specs.Replies.{verdict_of}
use Rattle.book_steps.specs.Acts.{join_bytes, pass_bytes, attempt_bytes, register_bytes}
use Rattle.book_steps.specs.Acts.{send_bytes, hand_bytes, tell_bytes}
use Rattle.book_steps.specs.Acts.{safe_bytes}
use Rattle.book_steps.specs.Acts.{collect_bytes}
use Rattle.member.specs.Calls.{join_call, pass_call, deliver_call, deliver_bytes, attempt_call, register_call}
use Rattle.member.specs.Calls.{send_call}
use Rattle.member.specs.Calls.{packet_call, packet_bytes, hand_call, tell_call, safe_call, collect_call}

pub data Call : Type 0 where
  join : Identifier → ℕ → Call  -- the view's identifier and set
  pass : List ℕ → Call  -- the buffer
  deliver : List ℕ → Member → Call  -- the bytes and their sender
  packet : List ℕ → Member → Call  -- the same
  attempt : Call
  register : Call
  send : ℕ → Call  -- the entry number
  hand : Call
  tell : Call
  safe : Call
  collect : Call

-- the book's bytes after a call
unfoldable pub after : Call → List ℕ → List ℕ
after (join g S) b = left (verdict_of (join_call (view_of g S) b)) (join_bytes (view_of g S) b) b
after (pass buffer) b = left (verdict_of (pass_call (length buffer) b)) (pass_bytes b) b
after (deliver bytes q) b = left (verdict_of (deliver_call bytes q b)) (deliver_bytes bytes q b) b
after (packet s q) b = left (verdict_of (packet_call s q b)) (packet_bytes s q b) b
after attempt b = left (verdict_of (attempt_call b)) (attempt_bytes b) b
after register b = left (verdict_of (register_call b)) (register_bytes b) b
after (send x) b = left (verdict_of (send_call x b)) (send_bytes x b) b
after hand b = left (verdict_of (hand_call b)) (hand_bytes b) b
after tell b = left (verdict_of (tell_call b)) (tell_bytes b) b
after safe b = left (verdict_of (safe_call b)) (safe_bytes b) b
after collect b = left (verdict_of (collect_call b)) (collect_bytes b) b

-- what the rules say of a call on the book that the bytes are: the book after it, or the refusal
abbrev pub book_done : Result Done → Result Book
book_done (refused r) = refused r
book_done (accepted d) = accepted d.book

abbrev pub book_passed : Result Passing → Result Book
book_passed (refused r) = refused r
book_passed (accepted x) = accepted x.book

abbrev pub book_delivered : Result Delivery → Result Book
book_delivered (refused r) = refused r
book_delivered (accepted x) = accepted x.book

unfoldable pub ruled : Call → List ℕ → Result Book
ruled (join g S) b = book_done (join_call (view_of g S) b)
ruled (pass buffer) b = book_passed (pass_call (length buffer) b)
ruled (deliver bytes q) b = book_done (deliver_call bytes q b)
ruled (packet s q) b = book_delivered (packet_call s q b)
ruled attempt b = book_done (attempt_call b)
ruled register b = book_done (register_call b)
ruled (send x) b = book_done (send_call x b)
ruled hand b = book_done (hand_call b)
ruled tell b = book_done (tell_call b)
ruled safe b = book_done (safe_call b)
ruled collect b = book_done (collect_call b)

-- after one call after another
unfoldable pub last_of : List ℕ → List Call → List ℕ
last_of b [] = b
last_of b (c ∷ l) = last_of (after c b) l

-- the operands are within their widths; sets and senders are any numbers
unfoldable pub Within : Call → Type 0
Within (join g S) = g < 256 ^ 4
Within (pass buffer) = Unit {0}
Within (deliver bytes q) = AreBytes bytes
Within (packet s q) = AreBytes s
Within attempt = Unit {0}
Within register = Unit {0}
Within (send x) = x < 256 ^ 8
Within hand = Unit {0}
Within tell = Unit {0}
Within safe = Unit {0}
Within collect = Unit {0}

unfoldable pub AllWithin : List Call → Type 0
AllWithin [] = Unit {0}
AllWithin (c ∷ l) = Within c × AllWithin l
