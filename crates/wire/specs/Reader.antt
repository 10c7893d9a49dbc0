-- The reader: the message at the front of bytes and how many it took, or the first refusal, 32 to 34 as the bytes come,
-- then 35 to 37. What lies behind the message is its caller's matter.
use Rattle.std.specs.Prelude.{cond, List, [], ◌∷◌, ℕ, zero, suc, ◌+◌, ◌*◌, ◌%◌, eqb, leb, length, get_or, Ok}
use Rattle.std.specs.Prelude.{Result}
use Rattle.numbers.specs.Number.{get}
use Rattle.views.specs.declared.View.{View}
use Rattle.views.specs.declared.refusal.Refusal.{Refusal}
use Rattle.views.specs.declared.refusal.Refusal.TheVariants.{EndsEarly, UnknownKind, SectionCount}
use Rattle.views.specs.Refusals.{Verdict, require, and_then, after}
use Rattle.views.specs.Sizes.{identifier_size, view_size, number_size}
use Rattle.views.specs.Lists.{placed}
use Rattle.wire.specs.declared.Message.{Message}
use Rattle.wire.specs.declared.Message.TheVariants.{Client, Info, Registered, Told}
use Rattle.wire.specs.declared.Frame.{Frame}
use Rattle.wire.specs.declared.Reading.{Reading}
use Rattle.wire.specs.Format.{client_kind, info_kind, registered_kind}
use Rattle.wire.specs.Format.{is_known, views_allowed, numbers_allowed, content_of}

-- ---- where the parts stand

abbrev pub kind_in : List ℕ → ℕ
kind_in b = get_or b 0 0

-- the identifier of the view sent in stands behind the kind, the count of views behind that, and then the views
abbrev pub identifier_at : ℕ
identifier_at = 1

abbrev pub count_at : ℕ
count_at = identifier_at + identifier_size

abbrev pub views_at : ℕ
views_at = count_at + 1

-- the bytes of a message without views and numbers, the count of numbers the last of them
abbrev pub shortest : ℕ
shortest = views_at + 1

abbrev pub view_count : List ℕ → ℕ
view_count b = get_or b count_at 0

-- the count of numbers stands behind the views
abbrev pub numbers_place : List ℕ → ℕ
numbers_place b = views_at + view_size * view_count b

abbrev pub number_count : List ℕ → ℕ
number_count b = get_or b (numbers_place b) 0

-- the message ends here
abbrev pub end_of : List ℕ → ℕ
end_of b = numbers_place b + 1 + number_size * number_count b

-- the view at a place
abbrev pub view_in : List ℕ → ℕ → View
view_in b at = record { id = record { 0 = get b at identifier_size }; set = get_or b (at + identifier_size) 0 }

-- n views from a place on
unfoldable pub views_in : List ℕ → ℕ → ℕ → List View
views_in b at zero = []
views_in b at (suc n) = view_in b at ∷ views_in b (at + view_size) n

-- the number that the message carries, 0 for none
unfoldable pub number_in : List ℕ → ℕ
number_in b = get b (numbers_place b + 1) (number_size * number_count b)

-- the message of a kind with a number
unfoldable pub message_of : ℕ → ℕ → Message
message_of kind x =
    cond (eqb kind client_kind) (Client x)
    (cond (eqb kind info_kind) Info
    (cond (eqb kind registered_kind) Registered (Told (x % 256))))

-- ---- the verdicts

-- as the bytes come
unfoldable pub scan_of : List ℕ → Verdict
scan_of b =
    require (leb 1 (length b)) EndsEarly (
    require (is_known (kind_in b)) UnknownKind (
    require (leb views_at (length b)) EndsEarly (
    require (views_allowed (kind_in b) (view_count b)) SectionCount (
    require (leb (numbers_place b + 1) (length b)) EndsEarly (
    require (numbers_allowed (kind_in b) (number_count b)) SectionCount (
    require (leb (end_of b) (length b)) EndsEarly (Ok tt)))))))

-- over the whole message
abbrev pub whole_of : List ℕ → Verdict
whole_of b = content_of (kind_in b) (views_in b views_at (view_count b)) (number_in b)

-- ---- what is read

abbrev pub frame_in : List ℕ → Frame
frame_in b = record {
  view = record { 0 = get b identifier_at identifier_size };
  message = message_of (kind_in b) (number_in b);
  views = placed (views_in b views_at (view_count b));
}

-- the message at the front of the bytes, and how many bytes it took: a refusal gives its number only
unfoldable pub read_front : List ℕ → Result Reading Refusal
read_front b = and_then (scan_of b) (and_then (whole_of b) (Ok (record { taken = end_of b; frame = frame_in b })))

-- how many bytes the message at the front takes
abbrev pub front_of : List ℕ → Result ℕ Refusal
front_of b = after (read_front b) (λ r. Ok r.taken)
