-- Demand 3, never wedged, what is final and what the crossing queries say, of a host's calls: a start of a group that
-- gave 0, then calls of step, of a list of steps and of form in any order, each on the ranges left before.
-- Demand 2 of its messages: what is read is written again, and what is written is read again.
use Rattle.std.specs.Prelude.{◌≡◌, Bool, true, List, [], ◌++◌, ℕ, ◌^◌, ◌<◌, ◌≤◌, length, take, Ok, Option}
use Rattle.views.specs.declared.View.{View}
use Rattle.views.specs.Limits.{max_views}
use Rattle.views.specs.Refusals.{left}
use Rattle.views.specs.Sets.{one}
use Rattle.wire.specs.Widths.{AreBytes}
use Rattle.wire.specs.declared.Reading.{Reading}
use Rattle.wire.specs.Reader.{read_front}
use Rattle.wire.specs.Writer.{frame_bytes, overwritten}
use Rattle.wire.specs.Records.{record_size, record_bytes, frame_of}
use Rattle.wire.specs.Promises.{canonical}
use Rattle.rules.specs.Data.{Identifier, Step, Event as Outward}
use Rattle.rules.specs.Promise.{Promised}
use Rattle.rules.specs.Final.{SafeIsFinal}
use Rattle.rules.specs.Crossing.{Crossed, NewestBefore}
use Rattle.group_bytes.specs.Groups.{Ranges, ranges_sound}
use Rattle.group_bytes.specs.Steps.{replies_of}
use Rattle.group_bytes.specs.Forming.{form_taken}
use Rattle.events.specs.Shown.{shown_by, events_shown}
use Rattle.group_bytes.specs.Promises.{Given}
use Rattle.c_answers.specs.Answers.{length_size, length_bytes, found_bytes}
use Rattle.group_crossing.specs.Queries.{is_wanted, ids_of, found_in, store_ids}
use Rattle.group_run.specs.Records.{events_in}
use Rattle.group_run.specs.Runs.{go_on_verdict}
use Rattle.dvs.specs.MessageCalls.{Reads, ReadsFront, Writes}
use Rattle.dvs.specs.GroupCalls.{Begins, Steps, stepping, GoesOn, Forms, forming}
use Rattle.dvs.specs.CrossingCalls.{Crosses, Seeks}

-- from the ranges r to f by calls of dvs_group_step, dvs_group_steps and dvs_group_form, each as its contract has it,
-- and the events that they show in order: those of a list are in its answers, those of a form are the events of its
-- steps
pub data Called : Ranges → List (Outward ℕ) → Ranges → Type 0 where
  none : {r : Ranges} → Called r [] r
  call : {r d f : Ranges} {l : List (Outward ℕ)} (c : Step) (e e' : List ℕ) (x : ℕ)
      → Given c → Steps r c d e e' x → Called d l f
      → Called r (shown_by (stepping r c e) ++ l) f
  list : {r d f : Ranges} {l : List (Outward ℕ)} (steps a a' : List ℕ) (x : ℕ)
      → AreBytes steps → GoesOn r steps a d a' x → Called d l f
      → Called r (left (go_on_verdict r steps a) (events_in a') [] ++ l) f
  form : {r d f : Ranges} {l : List (Outward ℕ)} (g : Identifier) (c c' : List ℕ) (x : ℕ)
      → g < 256 ^ 4 → Forms r g d c c' x → Called d l f
      → Called r (left (forming r g c) (events_shown (replies_of r (form_taken r g))) [] ++ l) f

-- any operands that can be given, with event, step, answer and count ranges of any bytes and lengths, refused calls
-- among them
abbrev pub Demand3 : Type 0
Demand3 = (n S : ℕ) (r d f : Ranges) (l : List (Outward ℕ)) → Begins r n S d 0 → Called d l f → Promised one S l

-- what such calls report safe is final if members register last
abbrev pub Finality : Type 1
Finality = (n S : ℕ) (r d f : Ranges) (l : List (Outward ℕ)) → Begins r n S d 0 → Called d l f → SafeIsFinal l

-- such calls lead to no ranges that 4 refuses
abbrev pub NeverWedged : Type 0
NeverWedged =
    (n S : ℕ) (r d f : Ranges) (l : List (Outward ℕ)) → Begins r n S d 0 → Called d l f → ranges_sound f ≡ true

-- After such calls the crossing queries tell what the calls showed. A query that gave 0 has stored the attempted views
-- that its test picks, newest first and each once: their identifiers from the front of the buffer, their number in the
-- count. A search that gave 0 has stored the newest attempted view before the identifier, or that there is none.
pub record CrossingTold (S : ℕ) (l : List (Outward ℕ)) (f : Ranges) : Type 0 where
  pub queried : (hold : Bool) (T : ℕ) (o o' c c' : List ℕ) → Crosses f hold T o o' c c' 0
      → (found : List View) × Crossed S l (is_wanted hold T) found
      × (o' ≡ store_ids o 0 (ids_of found)) × (c' ≡ length_bytes (length found))
  -- 32 places are enough for any query
  pub few : (hold : Bool) (T : ℕ) → length (found_in f hold T) ≤ max_views
  pub sought : (g : Identifier) (o o' : List ℕ) → Seeks f g o o' 0
      → (found : Option View) × NewestBefore S l g found × (o' ≡ found_bytes found)

abbrev pub Crossings : Type 0
Crossings =
    (n S : ℕ) (r d f : Ranges) (l : List (Outward ℕ)) → Begins r n S d 0 → Called d l f → CrossingTold S l f

-- s are bytes over the line, m a message's record, o a buffer and l the bytes of a length, each before a call, and with
-- a ' after it
pub record Demand2 : Type 0 where
  -- the record that dvs_read made of the bytes s, dvs_write writes as s, into any buffer that is long enough
  pub read-then-written : (s m m' o o' l l' : List ℕ) (x : ℕ) → AreBytes s → Reads s m m' 0
      → length s ≤ length o → length l ≡ length_size → Writes m' o o' l l' x
      → (x ≡ 0) × (o' ≡ overwritten s o) × (l' ≡ length_bytes (length s))
  -- what dvs_write wrote of the record m, dvs_read gives as m, where what m does not use is 0
  pub written-then-read : (m o o' l l' k k' : List ℕ) (x : ℕ) → AreBytes m → record_bytes (canonical (frame_of m)) ≡ m
      → Writes m o o' l l' 0 → length k ≡ record_size → Reads (take (length (frame_bytes (frame_of m))) o') k k' x
      → (x ≡ 0) × (k' ≡ m)
  -- the same of dvs_read_front: the record that it made of the front of s is written as those bytes, and what dvs_write
  -- wrote is read from the front of the buffer, whatever lies behind it
  pub front-then-written : (s m m' j j' o o' l l' : List ℕ) (x : ℕ) (r : Reading) → AreBytes s
      → ReadsFront s m m' j j' 0 → read_front s ≡ Ok r → r.taken ≤ length o → length l ≡ length_size
      → Writes m' o o' l l' x → (x ≡ 0) × (o' ≡ overwritten (take r.taken s) o) × (l' ≡ j')
  pub written-then-front : (m o o' l l' k k' j j' : List ℕ) (x : ℕ) → AreBytes m
      → record_bytes (canonical (frame_of m)) ≡ m → Writes m o o' l l' 0 → length k ≡ record_size
      → length j ≡ length_size → ReadsFront o' k k' j j' x → (x ≡ 0) × (k' ≡ m) × (j' ≡ l')
