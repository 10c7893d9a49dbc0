-- The operands of a line to write: the numbers that it says, and the frame that they say.
use Rattle.std.specs.Prelude.{◌≡◌, cond, List, [], ◌∷◌, ℕ, zero, suc, ◌+◌, ◌-◌, ◌/◌, ◌%◌, ◌^◌, eqb, get_or, set}
use Rattle.views.specs.declared.View.{View}
use Rattle.views.specs.Lists.{view_of, placed}
use Rattle.wire.specs.declared.Frame.{Frame}
use Rattle.wire.specs.Reader.{message_of}
use Rattle.test_script.specs.ParseParts.{pushed}

-- the last of the places for numbers; what would go there is not read
abbrev pub last_place : ℕ
last_place = 639

-- how many numbers end at a byte: a space or a colon ends one
unfoldable pub ends_at : ℕ → ℕ
ends_at c = cond (eqb c 32) 1 (cond (eqb c 58) 1 0)

-- the places after the bytes, the next byte being of the number in place n: a digit goes behind that number
unfoldable pub numbers_from : ℕ → List ℕ → List ℕ → List ℕ
numbers_from n xs [] = xs
numbers_from n xs (c ∷ s) =
    cond (eqb n last_place) xs (numbers_from (n + ends_at c) (set xs n (pushed (get_or xs n 0) c)) s)

-- how many numbers that are
unfoldable pub count_from : ℕ → List ℕ → ℕ
count_from n [] = n + 1
count_from n (c ∷ s) = cond (eqb n last_place) n (count_from (n + ends_at c) s)

pub record Numbered (s entry exit : List ℕ) (r : ℕ) : Type 0 where
  pub count : r ≡ count_from 0 s
  pub places : exit ≡ numbers_from 0 entry s

-- ---- the frame

-- a number cut to an identifier, and to a byte
abbrev pub as_identifier : ℕ → ℕ
as_identifier x = x % 2 ^ 32

abbrev pub as_byte : ℕ → ℕ
as_byte x = x % 256

-- the view at a place of the numbers: its identifier, then its set
abbrev pub view_at : List ℕ → ℕ → View
view_at xs at = view_of (as_identifier (get_or xs at 0)) (as_byte (get_or xs (at + 1) 0))

-- k views from a place on
unfoldable pub views_from : List ℕ → ℕ → ℕ → List View
views_from xs at zero = []
views_from xs at (suc k) = view_at xs at ∷ views_from xs (at + 2) k

-- the numbers are the room, the kind, the identifier, the message's number, then the views
unfoldable pub frame_of : List ℕ → ℕ → Frame
frame_of xs n = record {
  view = record { 0 = as_identifier (get_or xs 2 0) };
  message = message_of (as_byte (get_or xs 1 0)) (get_or xs 3 0);
  views = placed (views_from xs 4 ((n - 4) / 2));
}
