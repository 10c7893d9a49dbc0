-- The driver put to the three ranges: what one call gives and leaves. Then calls of both sorts, steps and the driver,
-- mixed in any order, and what is promised of them.
use Rattle.std.specs.Prelude.{◌≡◌, true, List, [], ◌∷◌, ◌++◌, ℕ, ◌^◌, ◌<◌, T, length, Ok, Err, Some}
use Rattle.views.specs.declared.View.{View}
use Rattle.views.specs.declared.refusal.Refusal.{Refusal}
use Rattle.views.specs.declared.refusal.Refusal.TheVariants.{RecordsUnsound}
use Rattle.views.specs.Refusals.{Verdict, and_then, left}
use Rattle.views.specs.Members.{In}
use Rattle.views.specs.Sets.{one, has, size}
use Rattle.views.specs.Lists.{find_of}
use Rattle.rules.specs.Data.{Identifier, Member, Group, Step, Result, refused, accepted, need}
use Rattle.rules.specs.Promise.{Promised}
use Rattle.rules.specs.Forming.{form_events, form_of, form_count}
use Rattle.events.specs.Replies.{Reply}
use Rattle.events.specs.Shown.{events_shown}
use Rattle.group_bytes.specs.Groups.{Ranges, views_made, book_of, group_in, ranges_sound}
use Rattle.group_bytes.specs.Starts.{start_ranges}
use Rattle.group_bytes.specs.Steps.{start_result, last_ranges, replies_of}
use Rattle.group_bytes.specs.Promises.{Given}

-- ---- one call: 4, 10, 44, 45, then the first refusal among its steps

-- the first refusal among replies, accepted if there is none
unfoldable pub first_refusal : List Reply → Verdict
first_refusal [] = Ok tt
first_refusal (x ∷ l) = and_then x (first_refusal l)

-- the steps that it sets out to take
unfoldable pub form_result : Ranges → Identifier → Result (List Step)
form_result r g = need (ranges_sound r) RecordsUnsound (form_of one (group_in r) g)

abbrev pub verdict_by : Ranges → Result (List Step) → Verdict
verdict_by r (refused f) = Err f
verdict_by r (accepted l) = first_refusal (replies_of r l)

unfoldable pub form_verdict : Ranges → Identifier → Verdict
form_verdict r g = verdict_by r (form_result r g)

-- the steps that it takes: all of them, or none
abbrev pub taken_by : Ranges → Result (List Step) → List Step
taken_by r (refused f) = []
taken_by r (accepted l) = left (first_refusal (replies_of r l)) l []

unfoldable pub form_taken : Ranges → Identifier → List Step
form_taken r g = taken_by r (form_result r g)

-- all or none, whatever the ranges are: an accepted call takes all its steps, a refused one leaves every byte as it was
pub record AllOrNone : Type 0 where
  pub all : (r : Ranges) (g : Identifier) → form_verdict r g ≡ Ok tt → form_result r g ≡ accepted (form_taken r g)
  pub none : (r : Ranges) (g : Identifier) (f : Refusal) → form_verdict r g ≡ Err f
      → last_ranges r (form_taken r g) ≡ r

-- ---- calls, each on the ranges that those before it leave

pub data Call : Type 0 where
  step : Step → Call
  form : Identifier → Call

-- the steps that a call takes
unfoldable pub call_steps : Ranges → Call → List Step
call_steps r (step c) = c ∷ []
call_steps r (form g) = form_taken r g

unfoldable pub calls_ranges : Ranges → List Call → Ranges
calls_ranges r [] = r
calls_ranges r (x ∷ l) = calls_ranges (last_ranges r (call_steps r x)) l

-- what every step of every call replies, first to last
unfoldable pub calls_replies : Ranges → List Call → List Reply
calls_replies r [] = []
calls_replies r (x ∷ l) = replies_of r (call_steps r x) ++ calls_replies (last_ranges r (call_steps r x)) l

-- operands that a call can be given: an identifier in four bytes
abbrev pub CallGiven : Call → Type 0
CallGiven (step c) = Given c
CallGiven (form g) = g < 256 ^ 4

abbrev pub AllCallsGiven : List Call → Type 0
AllCallsGiven calls = (x : Call) → In x calls → CallGiven x

-- ---- what is promised of them

-- a driver's call with the identifier g forms the view: it is settled, and nothing is open at its servers
pub record FormsView (r : Ranges) (g : Identifier) : Type 0 where
  pub view : View
  pub listed : find_of g (views_made r) ≡ Some view
  pub accepts : form_verdict r g ≡ Ok tt
  pub count : length (form_taken r g) ≡ form_count (size view.set)
  pub events : events_shown (replies_of r (form_taken r g)) ≡ form_events view
  pub settled : (p : Member) → T (has view.set p)
      → (book_of (last_ranges r (form_taken r g)) p).held ≡ record { settled = view; opens = [] }

-- after any accepted start and any calls
pub record CallsPromised (n S : ℕ) (r : Ranges) (calls : List Call) : Type 0 where
  -- demand 3, and that 4 refuses none of the ranges they lead to
  pub promised : Promised one S (events_shown (calls_replies (start_ranges n S r) calls))
  pub sound : ranges_sound (calls_ranges (start_ranges n S r) calls) ≡ true
  -- the driver forms the view wherever 10, 44 and 45 do not apply
  pub forms : (g : Identifier) → g < 256 ^ 4 → (l : List Step)
      → form_result (calls_ranges (start_ranges n S r) calls) g ≡ accepted l
      → FormsView (calls_ranges (start_ranges n S r) calls) g

abbrev pub DriverPromise : Type 0
DriverPromise =
    (n S : ℕ) (r : Ranges) (s : Group) → start_result n S r ≡ accepted s → (calls : List Call) → AllCallsGiven calls
    → CallsPromised n S r calls
