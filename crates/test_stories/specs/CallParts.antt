-- The calls of a book, with their operands from a line: what each gives and leaves, as the member's own contracts say.
use Rattle.std.specs.Prelude.{◌≡◌, cond, List, ℕ, eqb, drop}
use Rattle.views.specs.declared.View.{View}
use Rattle.views.specs.Lists.{view_of}
use Rattle.views.specs.Refusals.{left}
use Rattle.rules.specs.Data.{Result}
use Rattle.rules.specs.Member.{Done}
use Rattle.events.specs.Replies.{Reply, verdict_of}
use Rattle.events.specs.Kinds.{join_kind, deliver_kind, attempt_kind, register_kind, send_kind, hand_kind, tell_kind}
use Rattle.events.specs.Kinds.{safe_kind}
use Rattle.book_bytes.specs.Starts.{start_bytes}
use Rattle.book_steps.specs.Acts.{join_bytes, attempt_bytes, collect_bytes}
use Rattle.book_steps.specs.Acts.{register_bytes, send_bytes, hand_bytes, tell_bytes, safe_bytes}
use Rattle.member.specs.Calls.{start_call, start_reply, join_call, deliver_call}
use Rattle.member.specs.Calls.{deliver_bytes, attempt_call, collect_call}
use Rattle.member.specs.Calls.{register_call, send_call, hand_call, tell_call, safe_call}
use Rattle.test_script.specs.ParseParts.{word_start, word_number, unhexed}
use Rattle.test_script.specs.OperandParts.{byte_word, identifier_word}
use Rattle.test_stories.specs.DeskParts.{packet_room}

-- the members, the set, the own number
pub record Started (n S p : ℕ) (entry exit : List ℕ) (r : Reply) : Type 0 where
  pub reply : r ≡ start_reply (start_call n S p entry)
  pub book : exit ≡ left (verdict_of (start_call n S p entry)) (start_bytes n S p entry) entry

-- the view to join, and the bytes to deliver, of one message or of a packet
abbrev pub joined : List ℕ → View
joined line = view_of (identifier_word line 2) (byte_word line 3)

abbrev pub brought : List ℕ → List ℕ
brought line = unhexed packet_room (drop (word_start 3 line) line)

-- what the step of a kind's number gives, and what it leaves if it is accepted; any other number is a collect's
unfoldable pub step_call : ℕ → List ℕ → List ℕ → Result Done
step_call kind line b =
    cond (eqb kind join_kind) (join_call (joined line) b)
    (cond (eqb kind deliver_kind) (deliver_call (brought line) (byte_word line 2) b)
    (cond (eqb kind attempt_kind) (attempt_call b)
    (cond (eqb kind register_kind) (register_call b)
    (cond (eqb kind send_kind) (send_call (word_number line 2) b)
    (cond (eqb kind hand_kind) (hand_call b)
    (cond (eqb kind tell_kind) (tell_call b) (cond (eqb kind safe_kind) (safe_call b) (collect_call b))))))))

unfoldable pub step_bytes : ℕ → List ℕ → List ℕ → List ℕ
step_bytes kind line b =
    cond (eqb kind join_kind) (join_bytes (joined line) b)
    (cond (eqb kind deliver_kind) (deliver_bytes (brought line) (byte_word line 2) b)
    (cond (eqb kind attempt_kind) (attempt_bytes b)
    (cond (eqb kind register_kind) (register_bytes b)
    (cond (eqb kind send_kind) (send_bytes (word_number line 2) b)
    (cond (eqb kind hand_kind) (hand_bytes b)
    (cond (eqb kind tell_kind) (tell_bytes b) (cond (eqb kind safe_kind) (safe_bytes b) (collect_bytes b))))))))
