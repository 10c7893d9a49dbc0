-- Groups that stay sound whatever steps are applied to them: 4 checked once is checked for all of the steps.
use Rattle.std.specs.Prelude.{◌≡◌, Bool, true, List, ℕ, leb, get_or}
use Rattle.rules.specs.Data.{Step, rank}
use Rattle.rules.specs.Member.{every}
use Rattle.book_bytes.specs.Places.{members_at, carrier_at, client_at}
use Rattle.book_bytes.specs.Records.{seat_in}
use Rattle.group_bytes.specs.Places.{book_bytes}
use Rattle.group_bytes.specs.Groups.{Ranges, ranges_sound}
use Rattle.group_bytes.specs.Steps.{last_ranges}
use Rattle.group_bytes.specs.Promises.{AllGiven}

-- no list of steps leads from the ranges to unsound ones
abbrev pub StaysSound : Ranges → Type 0
StaysSound r = (l : List Step) → AllGiven l → ranges_sound (last_ranges r l) ≡ true

-- the client view of the book b is not above its carrier view
unfoldable pub not_above : List ℕ → Bool
not_above b = leb (rank (seat_in b client_at)) (rank (seat_in b carrier_at))

-- so it is in every member's book
unfoldable pub none_above : List ℕ → Bool
none_above books = every (get_or books members_at 0) (λ p. not_above (book_bytes books p))
