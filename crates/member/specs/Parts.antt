-- The parts in which the code does a call: 4 and 6, which come before all else; what follows them in join, pass and
-- deliver; a message of a packet.
use Rattle.std.specs.Prelude.{cond, ◌≡◌, List, ℕ, eqb, leb, ltb, length, Ok, Err}
use Rattle.std.specs.Prelude.{Result as Given}
use Rattle.views.specs.declared.refusal.Refusal.{Refusal}
use Rattle.views.specs.declared.refusal.Refusal.TheVariants.{RecordsUnsound, NoSuchMember, SetUnfit, NoCarrierView}
use Rattle.views.specs.declared.refusal.Refusal.TheVariants.{OrderFull, BufferTooShort, AnotherView, SenderNotInView}
use Rattle.views.specs.Refusals.{Verdict, require, and_then, left}
use Rattle.views.specs.declared.View.{View}
use Rattle.views.specs.Limits.{max_ordered}
use Rattle.views.specs.Sets.{has, fits}
use Rattle.views.specs.Lists.{id_of, list_of}
use Rattle.wire.specs.declared.Frame.{Frame}
use Rattle.wire.specs.Reader.{read_front, front_of}
use Rattle.wire.specs.Writer.{frame_bytes, write_verdict, overwritten}
use Rattle.rules.specs.Data.{Member, Book as Ruled, Result, refused, accepted, need, with_view, after}
use Rattle.rules.specs.Member.{Done, all, joins, Passing, passing}
use Rattle.rules.specs.Sound.{set_fits}
use Rattle.rules.specs.Alone.{Sent, views_of, sent_in, sent_of, passed_bytes, deliver_alone}
use Rattle.book_bytes.specs.Books.{book_in, bytes_sound, members_in, own_in_book}
use Rattle.events.specs.Replies.{verdict_of}
use Rattle.book_steps.specs.Acts.{taking, pass_bytes}
use Rattle.member.specs.Calls.{on_book, taken_bytes}

-- 4, then 6
unfoldable pub admitted : List ℕ → Verdict
admitted b =
    cond (bytes_sound b)
    (cond (ltb (own_in_book b) (members_in b)) (Ok tt) (Err NoSuchMember)) (Err RecordsUnsound)

-- ---- join, after 4 and 6

abbrev pub joining : ℕ → Member → View → Ruled → Result Done
joining n p v b = need (fits n v.set) SetUnfit (joins p v b)

-- ---- pass

-- after 4 and 6
abbrev pub passing_into : ℕ → Ruled → Result Passing
passing_into room b = after (passing b) (λ x. need (leb (length (passed_bytes x)) room) BufferTooShort (accepted x))

-- the frame f was written and the first of outgoing went, or neither
pub record SentOut (f : Frame) (entry exit before after : List ℕ) (r : Given ℕ Refusal) : Type 0 where
  pub reply : r ≡ and_then (write_verdict f (length before)) (Ok (length (frame_bytes f)))
  pub book : exit ≡ left (write_verdict f (length before)) (pass_bytes entry) entry
  pub buffer : after ≡ left (write_verdict f (length before)) (overwritten (frame_bytes f) before) before

-- ---- deliver

-- a frame that the reader gave, by its verdict
abbrev pub sent_as : Verdict → Frame → Result Sent
sent_as (Ok u) f = accepted (sent_in f)
sent_as (Err r) f = refused r

-- after the reader, in the carrier view v
abbrev pub arriving : ℕ → View → Sent → Member → Ruled → Result Done
arriving n v x q b =
    need (all (set_fits n) (views_of x.message)) SetUnfit (
    need (eqb x.view (id_of v)) AnotherView (
    need (has v.set q) SenderNotInView (
    need (ltb b.carrier.taken max_ordered) OrderFull (
    taking q x.message b))))

-- after 4 and 6
abbrev pub delivering : ℕ → Result Sent → Member → Ruled → Result Done
delivering n read q b = with_view b.carrier.view NoCarrierView (λ v. after read (λ x. arriving n v x q b))

-- what the reader gave is taken after 4 and 6; r is the verdict
pub record Took (sent : Result Sent) (q : Member) (entry exit : List ℕ) (r : Verdict) : Type 0 where
  pub verdict : r ≡ verdict_of (delivering (members_in entry) sent q (book_in entry))
  pub book : exit ≡ left r (taken_bytes sent q entry) entry

-- 7, 41, 42, 16 of a frame
unfoldable pub frame_answer : ℕ → View → ℕ → Member → Frame → Verdict
frame_answer n v taken q f =
    require (all (set_fits n) (list_of f.views)) SetUnfit (
    require (eqb f.view.0 (id_of v)) AnotherView (
    require (has v.set q) SenderNotInView (
    require (ltb taken max_ordered) OrderFull (Ok tt))))

-- ---- a packet

-- deliver of what the reader gave
abbrev pub message_call : Result Sent → Member → List ℕ → Result Done
message_call read q b = on_book b (deliver_alone (members_in b) (own_in_book b) read q (book_in b))

-- the message at the front of the bytes s, from the sender q, after 4; r is how many bytes it took
pub record GaveFront (s : List ℕ) (q : Member) (entry exit : List ℕ) (r : Given ℕ Refusal) : Type 0 where
  pub reply : r ≡ and_then (verdict_of (message_call (sent_of (read_front s)) q entry)) (front_of s)
  pub book : exit ≡ left r (taken_bytes (sent_of (read_front s)) q entry) entry
