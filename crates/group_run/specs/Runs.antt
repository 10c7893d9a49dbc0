-- What a list of steps gives and leaves, after a start or applied to a group that exists: every lent byte. Of a run
-- also what is promised of the answers that the host sees and of the ranges.
use Rattle.std.specs.Prelude.{◌≡◌, Bool, true, List, [], ◌∷◌, ℕ, ◌/◌, ◌%◌, eqb, length, Ok}
use Rattle.views.specs.declared.refusal.Refusal.TheVariants.{RecordsUnsound}
use Rattle.views.specs.Refusals.{Verdict, require, left}
use Rattle.views.specs.Sets.{one}
use Rattle.rules.specs.Sound.{conditions}
use Rattle.rules.specs.Promise.{Promised}
use Rattle.events.specs.Replies.{verdict_of}
use Rattle.events.specs.Shown.{events_shown}
use Rattle.group_bytes.specs.Groups.{Ranges, ranges_sound}
use Rattle.group_bytes.specs.Starts.{start_ranges}
use Rattle.group_bytes.specs.Steps.{start_result, last_ranges, replies_of}
use Rattle.group_run.specs.Records.{step_size, steps_in, answer_size, answers_bytes, events_in}

-- whole records of steps, and room for one answer to each; the lengths in bytes
unfoldable pub paired : ℕ → ℕ → Bool
paired steps answers = conditions (
    eqb (steps % step_size) 0
    ∷ eqb (answers % answer_size) 0
    ∷ eqb (answers / answer_size) (steps / step_size)
    ∷ [])

-- 4 for records that do not pair, then the start's refusals; what a step is refused by stands in its answer
unfoldable pub run_verdict : ℕ → ℕ → Ranges → List ℕ → List ℕ → Verdict
run_verdict n S r steps answers =
    require (paired (length steps) (length answers)) RecordsUnsound (verdict_of (start_result n S r))

-- a run of these steps, by n members with the first set S, in the ranges r, gave the verdict v; it left the ranges d,
-- and made the answers a into e
pub record Ran (n S : ℕ) (r : Ranges) (steps a : List ℕ) (d : Ranges) (e : List ℕ) (v : Verdict) : Type 0 where
  pub verdict : v ≡ run_verdict n S r steps a
  -- the ranges that the steps lead to from a start; a refused run changes nothing
  pub list : d.list ≡ (left (run_verdict n S r steps a) (last_ranges (start_ranges n S r) (steps_in steps)) r).list
  pub books : d.books ≡ (left (run_verdict n S r steps a) (last_ranges (start_ranges n S r) (steps_in steps)) r).books
  pub queues : d.queues
      ≡ (left (run_verdict n S r steps a) (last_ranges (start_ranges n S r) (steps_in steps)) r).queues
  -- each step's reply in its record
  pub answers : e
      ≡ left (run_verdict n S r steps a) (answers_bytes (replies_of (start_ranges n S r) (steps_in steps))) a
  -- demand 3: the events that the answers show are those of a run of Figure 1, and attempted views intersect
  pub promise : v ≡ Ok tt → Promised one S (events_in e)
  -- never wedged: the ranges are a sound group, which 4 does not refuse
  pub sound : v ≡ Ok tt → ranges_sound d ≡ true

-- ---- steps applied to a group that exists

-- 4 for records that do not pair, then 4 for unsound ranges; what a step is refused by is in its answer
unfoldable pub go_on_verdict : Ranges → List ℕ → List ℕ → Verdict
go_on_verdict r steps answers =
    require (paired (length steps) (length answers)) RecordsUnsound (require (ranges_sound r) RecordsUnsound (Ok tt))

-- these steps, applied to the ranges r one after another, gave the verdict v; they left the ranges d, and made the
-- answers a into e
pub record WentOn (r : Ranges) (steps a : List ℕ) (d : Ranges) (e : List ℕ) (v : Verdict) : Type 0 where
  pub verdict : v ≡ go_on_verdict r steps a
  -- the ranges that the steps lead to, one by one; a refused call changes nothing
  pub list : d.list ≡ (left (go_on_verdict r steps a) (last_ranges r (steps_in steps)) r).list
  pub books : d.books ≡ (left (go_on_verdict r steps a) (last_ranges r (steps_in steps)) r).books
  pub queues : d.queues ≡ (left (go_on_verdict r steps a) (last_ranges r (steps_in steps)) r).queues
  -- each step's reply, as the step by itself would get it, in its record
  pub answers : e ≡ left (go_on_verdict r steps a) (answers_bytes (replies_of r (steps_in steps))) a
  -- the events that the answers show are those of the replies
  pub shown : v ≡ Ok tt → events_in e ≡ events_shown (replies_of r (steps_in steps))
