-- What the marks in the ranges tell: each step marks what its reply says was attempted. So after an accepted start and
-- any steps, the marked views are the views attempted by the replies.
use Rattle.std.specs.Prelude.{◌≡◌, Bool, true, List, [], ◌∷◌, ℕ, Option}
use Rattle.views.specs.declared.View.{View}
use Rattle.rules.specs.Data.{Identifier, Group, Step, accepted}
use Rattle.rules.specs.Crossing.{marks_after, picked, newest_before, Crossed, NewestBefore}
use Rattle.events.specs.Shown.{events_shown}
use Rattle.group_bytes.specs.Groups.{Ranges, views_made, marks_in, ranges_fit}
use Rattle.group_bytes.specs.Starts.{start_ranges}
use Rattle.group_bytes.specs.Steps.{start_result, step_ranges, step_reply, last_ranges, replies_of}
use Rattle.group_bytes.specs.Promises.{Given, AllGiven, RangesBytes}

-- ---- the queries, by the ranges

-- the marked views that the test picks, newest first
unfoldable pub picked_in : Ranges → (View → Bool) → List View
picked_in r f = picked (views_made r) (marks_in r) f

-- the newest marked view before g
unfoldable pub newest_in : Ranges → Identifier → Option View
newest_in r g = newest_before (views_made r) (marks_in r) g

-- ---- one step

abbrev pub StepMarks : Type 0
StepMarks =
    (r : Ranges) → ranges_fit r ≡ true → RangesBytes r → (c : Step) → Given c
    → marks_in (step_ranges r c) ≡ marks_after (marks_in r) (events_shown (step_reply r c ∷ []))

-- ---- after any accepted start and any steps

abbrev pub CrossedRanges : Type 0
CrossedRanges =
    (n S : ℕ) (r : Ranges) (s : Group) → start_result n S r ≡ accepted s → (steps : List Step) → AllGiven steps
    → (f : View → Bool)
    → Crossed S (events_shown (replies_of (start_ranges n S r) steps)) f
    (picked_in (last_ranges (start_ranges n S r) steps) f)

abbrev pub NewestRanges : Type 0
NewestRanges =
    (n S : ℕ) (r : Ranges) (s : Group) → start_result n S r ≡ accepted s → (steps : List Step) → AllGiven steps
    → (g : Identifier)
    → NewestBefore S (events_shown (replies_of (start_ranges n S r) steps)) g
    (newest_in (last_ranges (start_ranges n S r) steps) g)
