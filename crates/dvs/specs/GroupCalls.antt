-- What the calls of the whole group give and leave: x is the number given, r the three ranges before the call and d
-- after it, e and e' the event.
use Rattle.std.specs.Prelude.{◌≡◌, List, ℕ, length, Ok}
use Rattle.views.specs.declared.refusal.Refusal.TheVariants.{RecordsUnsound}
use Rattle.views.specs.Refusals.{Verdict, code_of, require, left}
use Rattle.rules.specs.Data.{Identifier, Step}
use Rattle.events.specs.Replies.{Reply, event_in, verdict_of}
use Rattle.group_bytes.specs.Groups.{Ranges, ranges_sound}
use Rattle.group_bytes.specs.Starts.{start_ranges}
use Rattle.group_bytes.specs.Steps.{start_result, step_ranges, step_reply, last_ranges}
use Rattle.group_bytes.specs.Forming.{form_verdict, form_taken}
use Rattle.c_answers.specs.Answers.{event_size, event_bytes, length_size, length_bytes, sized}
use Rattle.group_run.specs.Runs.{run_verdict, Ran, go_on_verdict, WentOn}

-- a start with n members and the first set S
pub record Begins (r : Ranges) (n S : ℕ) (d : Ranges) (x : ℕ) : Type 0 where
  pub number : x ≡ code_of (verdict_of (start_result n S r))
  pub list : d.list ≡ (left (verdict_of (start_result n S r)) (start_ranges n S r) r).list
  pub books : d.books ≡ (left (verdict_of (start_result n S r)) (start_ranges n S r) r).books
  pub queues : d.queues ≡ (left (verdict_of (start_result n S r)) (start_ranges n S r) r).queues

-- 4 for an event range of another length, then the step's own verdict
abbrev pub stepping : Ranges → Step → List ℕ → Reply
stepping r c e = sized e event_size (step_reply r c)

pub record Steps (r : Ranges) (c : Step) (d : Ranges) (e e' : List ℕ) (x : ℕ) : Type 0 where
  pub number : x ≡ code_of (stepping r c e)
  pub list : d.list ≡ left (stepping r c e) (step_ranges r c).list r.list
  pub books : d.books ≡ left (stepping r c e) (step_ranges r c).books r.books
  pub queues : d.queues ≡ left (stepping r c e) (step_ranges r c).queues r.queues
  pub event : e' ≡ left (stepping r c e) (event_bytes (event_in (step_reply r c))) e

-- a run of n members with the first set S: it takes the steps in turn and makes the answers a into a'
pub record Runs (n S : ℕ) (r : Ranges) (steps a : List ℕ) (d : Ranges) (a' : List ℕ) (x : ℕ) : Type 0 where
  pub number : x ≡ code_of (run_verdict n S r steps a)
  pub ran : Ran n S r steps a d a' (run_verdict n S r steps a)

-- a list of steps applied to the group, one after another: it makes the answers a into a'
pub record GoesOn (r : Ranges) (steps a : List ℕ) (d : Ranges) (a' : List ℕ) (x : ℕ) : Type 0 where
  pub number : x ≡ code_of (go_on_verdict r steps a)
  pub went : WentOn r steps a d a' (go_on_verdict r steps a)

-- 4 for a count range of another length, then the driver's own verdict
abbrev pub forming : Ranges → Identifier → List ℕ → Verdict
forming r g c = sized c length_size (form_verdict r g)

-- the driver with the identifier g: the number of its steps goes to the count c
pub record Forms (r : Ranges) (g : Identifier) (d : Ranges) (c c' : List ℕ) (x : ℕ) : Type 0 where
  pub number : x ≡ code_of (forming r g c)
  pub list : d.list ≡ left (forming r g c) (last_ranges r (form_taken r g)).list r.list
  pub books : d.books ≡ left (forming r g c) (last_ranges r (form_taken r g)).books r.books
  pub queues : d.queues ≡ left (forming r g c) (last_ranges r (form_taken r g)).queues r.queues
  pub count : c' ≡ left (forming r g c) (length_bytes (length (form_taken r g))) c

-- whether the ranges are a group that the steps take: 4
unfoldable pub group_checking : Ranges → Verdict
group_checking r = require (ranges_sound r) RecordsUnsound (Ok tt)
