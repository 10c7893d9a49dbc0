-- The queries on the three ranges: what they give, and what is left in the lent buffer, every byte of it.
use Rattle.std.specs.Prelude.{Result as Given}
use Rattle.views.specs.declared.refusal.Refusal.{Refusal}
use Rattle.std.specs.Prelude.{◌≡◌, Bool, cond, List, [], ◌∷◌, ℕ, ◌+◌, ◌*◌, ◌%◌, eqb, leb, length, Ok}
use Rattle.numbers.specs.Number.{put}
use Rattle.views.specs.declared.View.{View}
use Rattle.views.specs.declared.refusal.Refusal.TheVariants.{RecordsUnsound, SetUnfit, TooFewPlaces}
use Rattle.views.specs.Refusals.{Verdict, require, and_then, left}
use Rattle.views.specs.Sizes.{identifier_size}
use Rattle.views.specs.Sets.{one, fits}
use Rattle.views.specs.Lists.{id_of}
use Rattle.rules.specs.Data.{Identifier}
use Rattle.rules.specs.Crossing.{shares, holds}
use Rattle.group_bytes.specs.Groups.{Ranges, members_of, ranges_sound}
use Rattle.group_bytes.specs.Crossing.{picked_in}

-- the test of a query: the set T holds a majority of the view, or shares a member with it
abbrev pub is_wanted : Bool → ℕ → View → Bool
is_wanted hold T v = cond hold (holds one T v) (shares T v)

abbrev pub ids_of : List View → List Identifier
ids_of [] = []
ids_of (v ∷ l) = id_of v ∷ ids_of l

-- the identifiers of the attempted views that the test picks, newest first
unfoldable pub found_in : Ranges → Bool → ℕ → List Identifier
found_in r hold T = ids_of (picked_in r (is_wanted hold T))

-- identifiers stored one after another, from a place on
unfoldable pub store_ids : List ℕ → ℕ → List Identifier → List ℕ
store_ids b at [] = b
store_ids b at (g ∷ l) = store_ids (put b at identifier_size g) (at + identifier_size) l

-- ---- the two queries that fill a buffer

-- 4 for a buffer not of whole identifiers, 4 for ranges that are not a sound group, 7, 46
unfoldable pub query_verdict : Ranges → Bool → ℕ → List ℕ → Verdict
query_verdict r hold T o =
    require (eqb (length o % identifier_size) 0) RecordsUnsound (
    require (ranges_sound r) RecordsUnsound (
    require (fits (members_of r) T) SetUnfit (
    require (leb (identifier_size * length (found_in r hold T)) (length o)) TooFewPlaces (Ok tt))))

-- the answer x, and the buffer o' left of o
pub record Answered (r : Ranges) (hold : Bool) (T : ℕ) (o o' : List ℕ) (x : Given ℕ Refusal) : Type 0 where
  pub reply : x ≡ and_then (query_verdict r hold T o) (Ok (length (found_in r hold T)))
  pub buffer : o' ≡ left (query_verdict r hold T o) (store_ids o 0 (found_in r hold T)) o
