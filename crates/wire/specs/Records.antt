-- A message's record: the bytes of a frame, and the frame that bytes are.
use Rattle.std.specs.Prelude.{cond, List, ◌∷◌, ◌++◌, ℕ, ◌+◌, ◌*◌, eqb, ltb, get_or, Result, Ok, Err}
use Rattle.numbers.specs.Number.{get, digits}
use Rattle.views.specs.declared.refusal.Refusal.{Refusal}
use Rattle.views.specs.Limits.{max_views}
use Rattle.views.specs.Sizes.{identifier_size, view_size, number_size}
use Rattle.wire.specs.declared.Frame.{Frame}
use Rattle.wire.specs.declared.Reading.{Reading}
use Rattle.wire.specs.Format.{kind_of, views_bytes, told_kind}
use Rattle.wire.specs.Reader.{views_in, message_of}
use Rattle.wire.specs.Writer.{number_of}

-- ---- where the parts stand: kind 1 byte, identifier of the view sent in 4, number 8, count of views 1, 32 places for
-- views of 5

abbrev pub record_kind : ℕ
record_kind = 0

abbrev pub record_identifier : ℕ
record_identifier = record_kind + 1

abbrev pub record_number : ℕ
record_number = record_identifier + identifier_size

abbrev pub record_count : ℕ
record_count = record_number + number_size

abbrev pub record_views : ℕ
record_views = record_count + 1

abbrev pub record_size : ℕ
record_size = record_views + view_size * max_views

-- ---- the record of a frame

-- what stands before the views: the kind, the identifier of the view sent in, the number, the count of views
unfoldable pub head_bytes : ℕ → ℕ → ℕ → ℕ → List ℕ
head_bytes kind g x n = (kind ∷ digits identifier_size g) ++ (digits number_size x ++ digits 1 n)

-- all 32 places of views
unfoldable pub record_bytes : Frame → List ℕ
record_bytes f =
    head_bytes (kind_of f.message) f.view.0 (number_of f.message) f.views.count ++ views_bytes f.views.at

-- what reading leaves of a record: a refusal leaves it as it was
abbrev pub reading_bytes : Result Reading Refusal → List ℕ → List ℕ
reading_bytes (Ok r) old = record_bytes r.frame
reading_bytes (Err x) old = old

-- ---- the frame that a record is

-- a told's count that is too large for a byte stands as 0, which is as much out of range
unfoldable pub counted : ℕ → ℕ → ℕ
counted kind x = cond (eqb kind told_kind) (cond (ltb x 256) x 0) x

-- the count of views stays as it is where it is larger than their places
unfoldable pub frame_of : List ℕ → Frame
frame_of r = record {
  view = record { 0 = get r record_identifier identifier_size };
  message = message_of (get_or r record_kind 0) (counted (get_or r record_kind 0) (get r record_number number_size));
  views = record { count = get r record_count 1; at = views_in r record_views max_views };
}
