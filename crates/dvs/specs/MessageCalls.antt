-- What pass, a packet's delivery, read and write give and leave: x is the number given, b the book, o the buffer, l the
-- bytes of a length, e those of a delivery, m the message's record, each before the call, and with a ' after it.
use Rattle.std.specs.Prelude.{Result as Given}
use Rattle.views.specs.declared.refusal.Refusal.{Refusal}
use Rattle.std.specs.Prelude.{◌≡◌, List, ℕ, length, get_or}
use Rattle.views.specs.declared.refusal.Refusal.TheVariants.{UnknownKind}
use Rattle.views.specs.Refusals.{Verdict, code_of, require, left}
use Rattle.wire.specs.Format.{is_known}
use Rattle.wire.specs.declared.Reading.{Reading}
use Rattle.wire.specs.Reader.{read_front}
use Rattle.wire.specs.Single.{read_one}
use Rattle.wire.specs.Writer.{frame_bytes, write_verdict, overwritten}
use Rattle.rules.specs.Data.{Member}
use Rattle.book_steps.specs.Acts.{pass_bytes}
use Rattle.member.specs.Calls.{pass_call, passed_of, pass_buffer, packet_call, packet_bytes, delivered_of}
use Rattle.events.specs.declared.Delivered.{Delivered}
use Rattle.c_answers.specs.Answers.{given_bytes, length_size, length_bytes, delivery_size, delivery_bytes, sized}
use Rattle.wire.specs.Records.{record_size, reading_bytes, frame_of, record_kind}

-- ---- pass: 4 for a length range of another length, then the member's refusals
abbrev pub passing : List ℕ → List ℕ → List ℕ → Given ℕ Refusal
passing b o l = sized l length_size (passed_of (pass_call (length o) b))

pub record Passes (b b' o o' l l' : List ℕ) (x : ℕ) : Type 0 where
  pub number : x ≡ code_of (passing b o l)
  pub book : b' ≡ left (passing b o l) (pass_bytes b) b
  pub buffer : o' ≡ left (passing b o l) (pass_buffer (pass_call (length o) b) o) o
  pub size : l' ≡ given_bytes length_bytes (passing b o l) l

-- ---- a packet s from the sender q: 4 for a delivery range of another length or for what is no sound book
abbrev pub delivering : List ℕ → Member → List ℕ → List ℕ → Given Delivered Refusal
delivering s q b e = sized e delivery_size (delivered_of (packet_call s q b))

pub record Delivers (s : List ℕ) (q : Member) (b b' e e' : List ℕ) (x : ℕ) : Type 0 where
  pub number : x ≡ code_of (delivering s q b e)
  pub book : b' ≡ left (delivering s q b e) (packet_bytes s q b) b
  pub delivery : e' ≡ given_bytes delivery_bytes (delivering s q b e) e

-- ---- read: 4 for a record of another length, then the refusals of the bytes s as one message
abbrev pub reading : List ℕ → List ℕ → Given Reading Refusal
reading s m = sized m record_size (read_one s)

pub record Reads (s m m' : List ℕ) (x : ℕ) : Type 0 where
  pub number : x ≡ code_of (reading s m)
  pub message : m' ≡ reading_bytes (reading s m) m

-- ---- the message at the front of s: 4 for a record or a length of another length, then the reader's refusals
abbrev pub reading_front : List ℕ → List ℕ → List ℕ → Given Reading Refusal
reading_front s m l = sized m record_size (sized l length_size (read_front s))

pub record ReadsFront (s m m' l l' : List ℕ) (x : ℕ) : Type 0 where
  pub number : x ≡ code_of (reading_front s m l)
  pub message : m' ≡ reading_bytes (reading_front s m l) m
  pub size : l' ≡ given_bytes (λ (r : Reading). length_bytes r.taken) (reading_front s m l) l

-- ---- write: 4, 33, then the writer's refusals
abbrev pub writing : List ℕ → List ℕ → List ℕ → Verdict
writing m o l =
    sized m record_size (
    sized l length_size (
    require (is_known (get_or m record_kind 0)) UnknownKind (
    write_verdict (frame_of m) (length o))))

pub record Writes (m o o' l l' : List ℕ) (x : ℕ) : Type 0 where
  pub number : x ≡ code_of (writing m o l)
  pub buffer : o' ≡ left (writing m o l) (overwritten (frame_bytes (frame_of m)) o) o
  pub size : l' ≡ left (writing m o l) (length_bytes (length (frame_bytes (frame_of m)))) l
