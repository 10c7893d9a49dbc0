-- Demand 2 of messages: each message reads back from its bytes, and bytes that are read are the ones the writer makes;
-- the same of messages in records and in packets.
use Rattle.std.specs.Prelude.{◌≡◌, true, ℕ, ◌≤◌, length, get_or, take, Ok}
use mathlib.Core.List.{List, [], ◌∷◌, ◌++◌, map, flatten}
use Rattle.views.specs.declared.View.{View}
use Rattle.views.specs.Limits.{max_views, longest}
use Rattle.views.specs.Lists.{list_of, placed}
use Rattle.wire.specs.declared.Message.TheVariants.{Info}
use Rattle.wire.specs.declared.Frame.{Frame}
use Rattle.wire.specs.declared.Reading.{Reading}
use Rattle.wire.specs.Widths.{AreBytes, Fits}
use Rattle.wire.specs.Format.{bytes_of, is_known}
use Rattle.wire.specs.Reader.{read_front}
use Rattle.wire.specs.Single.{read_one}
use Rattle.wire.specs.Writer.{frame_bytes, frame_verdict}
use Rattle.wire.specs.Packets.{packet_of, readings_in, pieces_in}
use Rattle.wire.specs.Records.{record_kind, record_bytes, reading_bytes, frame_of}

-- the frame with the zero view in each unused place
abbrev pub canonical : Frame → Frame
canonical f = record { view = f.view; message = f.message; views = placed (list_of f.views) }

-- what the bytes of a frame read as
abbrev pub as_written : Frame → Reading
as_written f = record { taken = length (frame_bytes f); frame = canonical f }

-- the bytes that the reading r took of b are those of its frame, a frame that the writer accepts
pub record WrittenAs (b : List ℕ) (r : Reading) : Type 0 where
  pub bytes : take r.taken b ≡ frame_bytes r.frame
  pub verdict : frame_verdict r.frame ≡ Ok tt
  pub fits : Fits r.frame

-- the record m is one that the writer accepts, and writes as the bytes b
pub record RecordOf (m b : List ℕ) : Type 0 where
  pub kind : is_known (get_or m record_kind 0) ≡ true
  pub verdict : frame_verdict (frame_of m) ≡ Ok tt
  pub bytes : frame_bytes (frame_of m) ≡ b

pub record Demand2 : Type 0 where
  -- what is written is read, whatever lies behind it; and with nothing behind it, as a whole
  pub written-reads-back : (f : Frame) → Fits f → frame_verdict f ≡ Ok tt → (rest : List ℕ)
      → read_front (frame_bytes f ++ rest) ≡ Ok (as_written f)
  pub written-reads : (f : Frame) → Fits f → frame_verdict f ≡ Ok tt → read_one (frame_bytes f) ≡ Ok (as_written f)
  -- what is read is written, at the front of bytes and as a whole
  pub read-is-written : (b : List ℕ) (r : Reading) → AreBytes b → read_front b ≡ Ok r → WrittenAs b r
  pub read-whole-is-written : (b : List ℕ) (r : Reading) → AreBytes b → read_one b ≡ Ok r → b ≡ frame_bytes r.frame
  -- no two messages share their bytes
  pub no-two-share : (f g : Frame) → Fits f → Fits g → frame_verdict f ≡ Ok tt → frame_verdict g ≡ Ok tt
      → frame_bytes f ≡ frame_bytes g → canonical f ≡ canonical g
  -- the longest message is as long as the specification says
  pub longest-is-longest : (f : Frame) → frame_verdict f ≡ Ok tt → length (frame_bytes f) ≤ longest
  pub longest-is-reached : (g : ℕ) (l : List View) → length l ≡ max_views → length (bytes_of g Info l) ≡ longest
  -- the record of a message, with 0 in what it does not use, is what reading gives of what writing it gives
  pub written-record-returns : (f : Frame) (old : List ℕ) → Fits f → frame_verdict f ≡ Ok tt
      → reading_bytes (read_one (frame_bytes (frame_of (record_bytes (canonical f))))) old ≡ record_bytes (canonical f)
  -- the record that reading gives is written as the bytes that were read
  pub read-record-is-written : (b : List ℕ) (r : Reading) → AreBytes b → read_one b ≡ Ok r
      → RecordOf (record_bytes r.frame) b

-- ---- packets

-- a frame that the writer accepts, within its widths
pub record Writable (f : Frame) : Type 0 where
  pub fits : Fits f
  pub verdict : frame_verdict f ≡ Ok tt

unfoldable pub AllWritable : List Frame → Type 0
AllWritable [] = Unit {0}
AllWritable (f ∷ l) = Writable f × AllWritable l

pub record Packets : Type 0 where
  -- a packet written and read gives the same messages in order
  pub packet-reads-back : (l : List Frame) → AllWritable l
      → readings_in (packet_of l) ≡ map (λ (f : Frame). Ok (as_written f)) l
  -- a packet in which nothing is refused is the one that the writer makes of what was read
  pub packet-is-written : (s : List ℕ) (l : List Reading) → AreBytes s
      → readings_in s ≡ map (λ (r : Reading). Ok r) l → packet_of (map (λ (r : Reading). r.frame) l) ≡ s
  -- the pieces of a packet that was written are its messages
  pub pieces-written : (l : List Frame) → AllWritable l → pieces_in (packet_of l) ≡ map frame_bytes l
  -- no byte is passed over, and each piece reads as one message as the reader read it there
  pub pieces-together : (s : List ℕ) → flatten (pieces_in s) ≡ s
  pub pieces-read : (s : List ℕ) → AreBytes s → map read_one (pieces_in s) ≡ readings_in s
