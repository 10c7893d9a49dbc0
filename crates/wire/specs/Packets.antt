-- A packet: messages one behind the other, as the line equipment joins them.
use Rattle.std.specs.Prelude.{cond, ℕ, zero, suc, eqb, length, take, drop, Ok, Err, Result}
use mathlib.Core.List.{List, [], ◌∷◌, map, flatten}
use Rattle.views.specs.declared.refusal.Refusal.{Refusal}
use Rattle.wire.specs.declared.Frame.{Frame}
use Rattle.wire.specs.declared.Reading.{Reading}
use Rattle.wire.specs.Reader.{read_front}
use Rattle.wire.specs.Writer.{frame_bytes}

-- the bytes of these messages
abbrev pub packet_of : List Frame → List ℕ
packet_of l = flatten (map frame_bytes l)

-- ---- what the reader gives of a packet, message for message

-- nothing is read behind a refusal
unfoldable pub following : Result Reading Refusal → (Reading → List (Result Reading Refusal))
    → List (Result Reading Refusal)
following (Ok r) f = f r
following (Err x) f = []

-- at most n readings, each at the front of the bytes that those before it left
unfoldable pub readings_by : ℕ → List ℕ → List (Result Reading Refusal)
readings_by zero s = []
readings_by (suc n) s =
    cond (eqb (length s) 0) []
    (read_front s ∷ following (read_front s) (λ r. readings_by n (drop r.taken s)))

-- to the end of the bytes, or to the first refusal, which is then the last: no message is empty, so that there are no
-- more of them than bytes
abbrev pub readings_in : List ℕ → List (Result Reading Refusal)
readings_in s = readings_by (length s) s

-- ---- the bytes of each

-- what a message took; of a refusal, all that is left
unfoldable pub piece_of : Result Reading Refusal → List ℕ → List ℕ
piece_of (Ok r) s = take r.taken s
piece_of (Err x) s = s

-- what it left; a refusal takes none
unfoldable pub rest_of : Result Reading Refusal → List ℕ → List ℕ
rest_of (Ok r) s = drop r.taken s
rest_of (Err x) s = s

unfoldable pub cut_by : List (Result Reading Refusal) → List ℕ → List (List ℕ)
cut_by [] s = []
cut_by (r ∷ l) s = piece_of r s ∷ cut_by l (rest_of r s)

abbrev pub pieces_in : List ℕ → List (List ℕ)
pieces_in s = cut_by (readings_in s) s
