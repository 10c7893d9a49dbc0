-- What the crossing queries give and leave: x is the number given, r the three ranges, which no query changes. T is the
-- set of a query, o and o' its buffer of identifiers before and after the call, c and c' the count. g is the identifier
-- before which the newest view is sought, and o and o' are then that view's range.
use Rattle.std.specs.Prelude.{◌≡◌, Bool, List, ℕ, length}
use Rattle.views.specs.Refusals.{Verdict, code_of, left}
use Rattle.rules.specs.Data.{Identifier}
use Rattle.group_bytes.specs.Groups.{Ranges}
use Rattle.group_bytes.specs.Crossing.{newest_in}
use Rattle.group_crossing.specs.Queries.{found_in, store_ids, query_verdict}
use Rattle.c_answers.specs.Answers.{length_size, length_bytes, found_size, found_bytes, sized}
use Rattle.dvs.specs.GroupCalls.{group_checking}

-- 4 for a count range of another length, then the query's own verdict
abbrev pub crossing : Ranges → Bool → ℕ → List ℕ → List ℕ → Verdict
crossing r hold T o c = sized c length_size (query_verdict r hold T o)

-- the identifiers found go to the front of the buffer, and their number to the count
pub record Crosses (r : Ranges) (hold : Bool) (T : ℕ) (o o' c c' : List ℕ) (x : ℕ) : Type 0 where
  pub number : x ≡ code_of (crossing r hold T o c)
  pub buffer : o' ≡ left (crossing r hold T o c) (store_ids o 0 (found_in r hold T)) o
  pub count : c' ≡ left (crossing r hold T o c) (length_bytes (length (found_in r hold T))) c

-- 4 for a range of another length, then 4 for ranges that are not a sound group
abbrev pub seeking : Ranges → List ℕ → Verdict
seeking r o = sized o found_size (group_checking r)

-- the newest attempted view before g
pub record Seeks (r : Ranges) (g : Identifier) (o o' : List ℕ) (x : ℕ) : Type 0 where
  pub number : x ≡ code_of (seeking r o)
  pub found : o' ≡ left (seeking r o) (found_bytes (newest_in r g)) o
