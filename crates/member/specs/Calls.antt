-- The member by itself, on a lent book of any length and content: what each call gives, and what it leaves in every
-- lent byte. A call's result is that of rules/specs/Alone on the book that the bytes are; 4 comes first, for what only
-- bytes can hold.
use Rattle.std.specs.Prelude.{◌≡◌, List, [], ◌∷◌, map, ℕ, eqb, length, take, None, Ok, Err}
use Rattle.std.specs.Prelude.{Result as Given}
use Rattle.views.specs.declared.View.{View}
use Rattle.views.specs.declared.refusal.Refusal.{Refusal}
use Rattle.views.specs.declared.refusal.Refusal.TheVariants.{RecordsUnsound}
use Rattle.views.specs.Sets.{one}
use Rattle.views.specs.Refusals.{left}
use Rattle.wire.specs.Single.{read_one}
use Rattle.wire.specs.Packets.{readings_in}
use Rattle.wire.specs.Writer.{overwritten}
use Rattle.rules.specs.Data.{Member, Book as Ruled, Result, refused, accepted, need}
use Rattle.rules.specs.Member.{Done, Passing, registers, sends, hands, tells, safes, collects}
use Rattle.rules.specs.Alone.{Sent, sent_of, alone, start_alone, join_alone, passed_bytes, pass_alone, deliver_alone}
use Rattle.rules.specs.Alone.{Delivery, packet_alone, attempt_alone}
use Rattle.book_bytes.specs.Places.{book_size}
use Rattle.book_bytes.specs.Books.{book_in, layout_fits, members_in, own_in_book}
use Rattle.events.specs.declared.Delivered.{Delivered}
use Rattle.events.specs.Replies.{Reply, reply_of, verdict_of}
use Rattle.book_steps.specs.Acts.{take_bytes}

-- ---- the results

-- 4 for bytes that are no book
abbrev pub on_book : {A : Type 0} → List ℕ → Result A → Result A
on_book b r = need (layout_fits b) RecordsUnsound r

-- a call that is one of the member's rules
abbrev pub call : List ℕ → (Ruled → Result Done) → Result Done
call b rule = on_book b (alone (members_in b) (own_in_book b) (book_in b) (rule (book_in b)))

unfoldable pub join_call : View → List ℕ → Result Done
join_call v b = on_book b (join_alone (members_in b) (own_in_book b) v (book_in b))

-- into a buffer with this room
unfoldable pub pass_call : ℕ → List ℕ → Result Passing
pass_call room b = on_book b (pass_alone (members_in b) (own_in_book b) room (book_in b))

-- these bytes from the sender q
unfoldable pub deliver_call : List ℕ → Member → List ℕ → Result Done
deliver_call bytes q b =
    on_book b (deliver_alone (members_in b) (own_in_book b) (sent_of (read_one bytes)) q (book_in b))

-- the messages in a packet's bytes, as the reader reads them
abbrev pub messages_in : List ℕ → List (Result Sent)
messages_in s = map sent_of (readings_in s)

-- a packet of these bytes from the sender q
unfoldable pub packet_call : List ℕ → Member → List ℕ → Result Delivery
packet_call s q b = on_book b (packet_alone (members_in b) (own_in_book b) (messages_in s) q (book_in b))

unfoldable pub attempt_call : List ℕ → Result Done
attempt_call b = on_book b (attempt_alone one (members_in b) (own_in_book b) (book_in b))

unfoldable pub register_call : List ℕ → Result Done
register_call b = call b (registers (own_in_book b))

unfoldable pub send_call : ℕ → List ℕ → Result Done
send_call x b = call b (sends (own_in_book b) x)

unfoldable pub hand_call : List ℕ → Result Done
hand_call b = call b (hands (own_in_book b))

unfoldable pub tell_call : List ℕ → Result Done
tell_call b = call b (tells (own_in_book b))

unfoldable pub safe_call : List ℕ → Result Done
safe_call b = call b (safes (members_in b) (own_in_book b))

unfoldable pub collect_call : List ℕ → Result Done
collect_call b = call b (collects (members_in b))

-- ---- start: 4 for a book not of its length, then 1, 2, 6; every byte is determined

unfoldable pub start_call : ℕ → ℕ → Member → List ℕ → Result Ruled
start_call n S p b = need (eqb (length b) book_size) RecordsUnsound (start_alone n S p)

abbrev pub start_reply : Result Ruled → Reply
start_reply (refused r) = Err r
start_reply (accepted x) = Ok None

-- ---- pass: the number of bytes written, and the buffer; a refusal leaves it as it was

abbrev pub passed_of : Result Passing → Given ℕ Refusal
passed_of (refused r) = Err r
passed_of (accepted x) = Ok (length (passed_bytes x))

abbrev pub pass_buffer : Result Passing → List ℕ → List ℕ
pass_buffer (refused r) out = out
pass_buffer (accepted x) out = overwritten (passed_bytes x) out

-- ---- deliver: the message that was read is taken

abbrev pub taken_bytes : Result Sent → Member → List ℕ → List ℕ
taken_bytes (refused r) q b = b
taken_bytes (accepted x) q b = take_bytes q x.message b

unfoldable pub deliver_bytes : List ℕ → Member → List ℕ → List ℕ
deliver_bytes bytes q b = taken_bytes (sent_of (read_one bytes)) q b

-- ---- a packet: as many of its messages as were delivered are taken, one after the other

unfoldable pub take_each : List (Result Sent) → Member → List ℕ → List ℕ
take_each [] q b = b
take_each (read ∷ l) q b = take_each l q (taken_bytes read q b)

abbrev pub count_of : Result Delivery → ℕ
count_of (refused r) = 0
count_of (accepted x) = x.count

unfoldable pub packet_bytes : List ℕ → Member → List ℕ → List ℕ
packet_bytes s q b = take_each (take (count_of (packet_call s q b)) (messages_in s)) q b

-- how many were delivered and what stopped it
abbrev pub delivered_of : Result Delivery → Given Delivered Refusal
delivered_of (refused r) = Err r
delivered_of (accepted x) = Ok (record { count = x.count; stopped = x.stopped })

-- ---- what a call gives and leaves: the reply r, and the book's bytes at exit; an accepted one leaves `new`

pub record Gave (result : Result Done) (new entry exit : List ℕ) (r : Reply) : Type 0 where
  pub reply : r ≡ reply_of result
  pub book : exit ≡ left (verdict_of result) new entry

-- the same of pass, with the buffer before and after it
pub record GaveOut (result : Result Passing) (new entry exit before after : List ℕ) (r : Given ℕ Refusal) : Type 0 where
  pub reply : r ≡ passed_of result
  pub book : exit ≡ left (verdict_of result) new entry
  pub buffer : after ≡ pass_buffer result before

-- the same of a packet
pub record GaveEach (result : Result Delivery) (new entry exit : List ℕ) (r : Given Delivered Refusal) : Type 0 where
  pub reply : r ≡ delivered_of result
  pub book : exit ≡ left (verdict_of result) new entry
