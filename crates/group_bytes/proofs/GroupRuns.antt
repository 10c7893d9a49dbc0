-- A list of steps put to started ranges is that list put to the started group: the same events, and the ranges are that group at the end.
use mathlib.Core.Path.{◌≡◌, refl, ap, ◌∙◌}
use mathlib.Core.Bool.{Bool, true, false, not, ◌||◌}
use mathlib.Core.List.{List, [], ◌∷◌, ◌++◌}
use Prim.Native.Nat.{ℕ, ◌%◌}
use native.Mathlib.Omega.{arith}
use borrow.Author.Tests.{eqb-true}
use lib.ListN.{length}
use Rattle.views.specs.declared.refusal.Refusal.TheVariants.{RecordsUnsound}
use Rattle.views.specs.Limits.{max_members, max_views}
use Rattle.views.specs.Sizes.{view_size}
use Rattle.views.specs.Sets.{one, fits}
use Rattle.views.proofs.Members.{top, pop}
use Rattle.rules.specs.Data.{Group, Step, Event as Outward, Answer, ok, event, refusal, Result, refused, accepted, need}
use Rattle.rules.specs.Sound.{within, sound}
use Rattle.rules.specs.Group.{Next, start, started, settles, step_of, step}
use Rattle.rules.specs.Runs.{last_of, answers_of, events_of}
use Rattle.rules.proofs.TestLaws.{conditions-say, within-says}
use Rattle.rules.proofs.Demand3.{demand3}
use Rattle.rules.proofs.NeverWedged as W
use Rattle.rules.proofs.Holding.{Holds, gives, need-holds}
use Rattle.events.proofs.ShownLaws.{answer-shown}
use Rattle.group_bytes.specs.Places.{room_of, books_size, queues_size}
use Rattle.group_bytes.specs.Groups.{Ranges, ranges_sound}
use Rattle.group_bytes.specs.Answers.{next_reply}
use Rattle.group_bytes.specs.Starts.{start_ranges}
use Rattle.group_bytes.specs.Steps.{ranges_long, start_result, step_result, step_ranges, step_reply, last_ranges, replies_of}
use Rattle.events.specs.Shown.{shown_by, events_shown}
use Rattle.group_bytes.specs.Promises.{AllGiven, Demand3, NeverWedged}
use Rattle.group_bytes.proofs.RangesLaws.{MeansGroup, ranges-from}
use Rattle.group_bytes.proofs.StartGroup.{Startable, start-group}
use Rattle.book_steps.proofs.Means.{gave}
use Rattle.group_bytes.proofs.StepGroup.{step-means}

-- ---- the events

answer-events : (a : Answer) (l : List Answer) (k : List (Outward ℕ)) → k ≡ events_of l → events_of (a ∷ []) ++ k ≡ events_of (a ∷ l)
unfolding events_of
answer-events ok l k e = e
answer-events (event x) l k e = ap (λ (z : List (Outward ℕ)). x ∷ z) e
answer-events (refusal f) l k e = e

-- of a result
result-shown : (x : Result Next) (s : Group) (l : List Answer) (k : List (Outward ℕ)) → k ≡ events_of l
    → shown_by (next_reply x) ++ k ≡ events_of ((settles s x).answer ∷ l)
unfolding events_of
result-shown (refused f) s l k e = e
result-shown (accepted y) s l k e = ap (λ (z : List (Outward ℕ)). z ++ k) (answer-shown y.answer) ∙ answer-events y.answer l k e

-- of a step
step-events : (r : Ranges) (s : Group) → MeansGroup r s → (c : Step) (l : List Answer) (k : List (Outward ℕ)) → k ≡ events_of l
    → shown_by (step_reply r c) ++ k ≡ events_of ((step one s c).answer ∷ l)
unfolding step_reply step_result step ranges_sound
step-events r s m c l k e =
    rw (ranges-from r m.fits, m.group) (result-shown (need (sound s) RecordsUnsound (step_of one s c)) s l k e)

-- ---- the list of steps

pub runs : (r : Ranges) (s : Group) → MeansGroup r s → (steps : List Step) → AllGiven steps
    → (events_shown (replies_of r steps) ≡ events_of (answers_of one s steps)) × MeansGroup (last_ranges r steps) (last_of one s steps)
unfolding replies_of events_shown answers_of last_ranges last_of events_of
runs r s m [] w = (refl, m)
runs r s m (c ∷ l) w =
    let n : MeansGroup (step_ranges r c) (step one s c).state = rw (← m.group) (step-means r m.fits m.bytes c (w c top)) in
    let t = runs (step_ranges r c) (step one s c).state n l (λ d i. w d (pop i)) in
    (step-events r s m c (answers_of one (step one s c).state l) (events_shown (replies_of (step_ranges r c) l)) t.0, t.1)

-- ---- the start

-- the queues' length is asked where the list has room for 1 to 32 views
asked : (t u : Bool) → t ≡ true → (not t || u) ≡ true → u ≡ true
asked true u e h = h
asked false u e h = let z : ◌≡◌ {A = ℕ} 0 1 = cc in absurd (omega arith)

-- what ranges of their lengths say
record Long (r : Ranges) : Type 0 where
  whole : length r.list % view_size ≡ 0
  books : length r.books ≡ books_size
  queues : within 1 (room_of r.list) max_views ≡ true → length r.queues ≡ queues_size (room_of r.list)

long-says : (r : Ranges) → ranges_long r ≡ true → Long r
unfolding ranges_long
long-says r h =
    let (whole, (books, (queues, _))) = conditions-say _ h in
    record { whole = eqb-true _ _ whole; books = eqb-true _ _ books; queues = λ t. eqb-true _ _ (asked _ _ t queues) }

pub start-holds : (n S : ℕ) (r : Ranges)
    → Holds (λ (s : Group). Startable n S r × (start n S (room_of r.list) ≡ accepted s) × (s ≡ started n S (room_of r.list))) (start_result n S r)
unfolding start_result start need
start-holds n S r =
    need-holds (ranges_long r) _ _ (λ l.
    need-holds (within 1 n max_members) _ _ (λ m.
    need-holds (fits n S) _ _ (λ f.
    need-holds (within 1 (room_of r.list) max_views) _ _ (λ o.
    let g = long-says r l in
    gives (
      record {
        whole = g.whole;
        room = within-says _ _ _ o;
        books = g.books;
        queues = g.queues o;
        members = within-says _ _ _ m;
        set = f;
      },
      rw (m, f, o),
      refl,
    )))))

-- what an accepted start says
pub start-says : (n S : ℕ) (r : Ranges) (s : Group) → start_result n S r ≡ accepted s
    → Startable n S r × (start n S (room_of r.list) ≡ accepted s) × (s ≡ started n S (room_of r.list))
start-says n S r s e = gave (start_result n S r) s (start-holds n S r) e

pub begun : (n S : ℕ) (r : Ranges) (s : Group) → start_result n S r ≡ accepted s → MeansGroup (start_ranges n S r) s
begun n S r s e = let t = start-says n S r s e in rw t.2 (start-group n S r t.0)

-- ---- the promises

pub demand3-ranges : Demand3
demand3-ranges n S r s e steps w =
    let t = start-says n S r s e in
    rw (runs (start_ranges n S r) s (begun n S r s e) steps w).0 (demand3 one n S (room_of r.list) s t.1 steps)

pub never-wedged-ranges : NeverWedged
unfolding ranges_sound
never-wedged-ranges n S r s e steps w =
    let t = start-says n S r s e in
    let m = (runs (start_ranges n S r) s (begun n S r s e) steps w).1 in
    rw (ranges-from _ m.fits, m.group) (W.never-wedged one n S (room_of r.list) s t.1 steps)
