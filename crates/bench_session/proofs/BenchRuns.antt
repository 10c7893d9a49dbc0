-- Since its last accepted `group` a bench shows the events of the steps alone: unreadable lines and refused `group` lines show and change nothing.
use Rattle.std.specs.Prelude.{None, Ok, Err}
use mathlib.Core.Path.{◌≡◌, refl, ap}
use mathlib.Core.Bool.{Bool, true, not}
use Rattle.std.proofs.Common.{Option, Some, None}
use mathlib.Core.List.{List, [], ◌∷◌, ◌++◌}
use Prim.Native.Nat.{ℕ}
use native.Mathlib.Omega.{arith}
use Rattle.views.specs.Refusals.{Verdict, and_then, left}
use Rattle.views.specs.Sets.{one}
use Rattle.views.proofs.SetLaws.{both_true}
use Rattle.rules.specs.Data.{Group as State, Step as Asked, Event as Outward, Result, refused, accepted}
use Rattle.rules.specs.Promise.{Promised}
use Rattle.events.specs.Replies.{replied, verdict_of}
use Rattle.group_bytes.specs.Groups.{Ranges}
use Rattle.group_bytes.specs.Starts.{start_ranges}
use Rattle.group_bytes.specs.Steps.{start_result, step_ranges, step_reply, replies_of}
use Rattle.events.specs.Shown.{shown_by, events_shown}
use Rattle.group_bytes.specs.Promises.{AllGiven}
use Rattle.group_bytes.proofs.GivenSteps.{none-given, given-first}
use Rattle.group_bytes.proofs.GroupRuns.{demand3-ranges}
use Rattle.group.specs.StepCalls.{asked}
use Rattle.bench_lines.specs.declared.lines.Line.{Line}
use Rattle.bench_lines.specs.declared.lines.Line.TheVariants.{Group, Step}
use Rattle.bench_lines.specs.Lines.{line_of}
use Rattle.bench_session.specs.Sessions.{accepts, now_running, answer_to}
use Rattle.bench_session.specs.Scripts.{lines_of, replies_to, starts, none_starts, BenchPromise}
use Rattle.bench_session.proofs.Widths.{line_wide, line-wide, wide-given}

-- ---- the steps among lines

steps_of : List (Option Line) → List Asked
steps_of [] = []
steps_of (None ∷ l) = steps_of l
steps_of (Some (Group s) ∷ l) = steps_of l
steps_of (Some (Step c) ∷ l) = asked c.kind c.first c.second ∷ steps_of l

abbrev EventsOfSteps : Ranges → List (Option Line) → Type 0
EventsOfSteps r l = events_shown (replies_to true r l) ≡ events_shown (replies_of r (steps_of l))

-- a `group` line with the verdict v that is not accepted
after-group : (v : Verdict) (r d : Ranges) (l : List (Option Line)) → not (accepts v) ≡ true → (none_starts true r l ≡ true → EventsOfSteps r l)
    → none_starts (now_running v true) (left v d r) l ≡ true
    → shown_by (replied v None) ++ events_shown (replies_to (now_running v true) (left v d r) l) ≡ events_shown (replies_of r (steps_of l))
unfolding left and_then
after-group (Ok u) r d l n k h = let z : ◌≡◌ {A = ℕ} 0 1 = cc in absurd (omega arith)
after-group (Err f) r d l n k h = k h

steps-shown : (r : Ranges) (l : List (Option Line)) → none_starts true r l ≡ true → EventsOfSteps r l
unfolding replies_to none_starts starts answer_to steps_of replies_of events_shown
steps-shown r [] h = refl
steps-shown r (None ∷ l) h = steps-shown r l h
steps-shown r (Some (Group s) ∷ l) h =
    let v = verdict_of (start_result s.members s.set r) in
    let t = both_true (not (accepts v)) _ h in
    after-group v r (start_ranges s.members s.set r) l t.0 (steps-shown r l) t.1
steps-shown r (Some (Step c) ∷ l) h =
    let x = asked c.kind c.first c.second in
    ap (λ (z : List (Outward ℕ)). shown_by (step_reply r x) ++ z) (steps-shown (step_ranges r x) l h)

-- ---- they can be given

given_by : (x : Option Line) (l : List (Option Line)) → line_wide x ≡ true → AllGiven (steps_of l) → AllGiven (steps_of (x ∷ l))
unfolding steps_of line_wide
given_by None l w a = a
given_by (Some (Group s)) l w a = a
given_by (Some (Step c)) l w a = given-first (asked c.kind c.first c.second) (steps_of l) (wide-given c.kind c.first c.second w) a

steps-given : (m : List (List ℕ)) → AllGiven (steps_of (lines_of m))
unfolding lines_of steps_of
steps-given [] = none-given
steps-given (s ∷ m) = given_by (line_of s) (lines_of m) (line-wide s) (steps-given m)

-- ---- the promise

promised-by : (x : Result State) (running : Bool) (r d : Ranges) (S : ℕ) (m : List (List ℕ)) → accepts (verdict_of x) ≡ true
    → ((s : State) → x ≡ accepted s → Promised one S (events_shown (replies_of d (steps_of (lines_of m)))))
    → none_starts (now_running (verdict_of x) running) (left (verdict_of x) d r) (lines_of m) ≡ true
    → Promised one S (events_shown (replies_to (now_running (verdict_of x) running) (left (verdict_of x) d r) (lines_of m)))
unfolding left
promised-by (refused f) running r d S m a p h = let z : ◌≡◌ {A = ℕ} 0 1 = cc in absurd (omega arith)
promised-by (accepted s) running r d S m a p h = rw (steps-shown d (lines_of m) h) (p s refl)

pub bench-promise : BenchPromise
unfolding starts answer_to
bench-promise running r n S a m h =
    promised-by (start_result n S r) running r (start_ranges n S r) S m a
    (λ (s : State) (e : start_result n S r ≡ accepted s). demand3-ranges n S r s e (steps_of (lines_of m)) (steps-given m)) h
