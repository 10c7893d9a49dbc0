-- The chain from a host's calls to Figure 1, lowest link first: each link is a theorem, named by one line.
-- 1. Of the membership machine: two attempted views with no totally registered one between them share a member (the report's 4.18).
pub use Rattle.membership.proofs.Intersection.{inv-4-18}
-- 2. Every move of the flat group is followed by the membership machine, and by acts of Figure 1 with the same events.
pub use Rattle.rules.proofs.Run.Trace.{one-step}
-- 3. Every list of steps put to a started group of the rules is moves of the flat group with the same events.
pub use Rattle.rules.proofs.Flat.RunMoves.{runs}
-- 4. Demand 3 of the rules, by 1, 2 and 3.
pub use Rattle.rules.proofs.Demand3.{demand3}
-- 5. The ranges that a step leaves are the group that the rules give.
pub use Rattle.group_bytes.proofs.StepGroup.{step-means}
-- 6. Demand 3 of the three ranges, by 4 and 5; and that no steps lead to ranges that 4 refuses.
pub use Rattle.group_bytes.proofs.GroupRuns.{demand3-ranges, never-wedged-ranges}
-- 7. What a call of the driver takes are steps that can be given: all that it sets out to take, or none.
pub use Rattle.group_bytes.proofs.GroupForms.{taken-given, all-or-none}
-- 8. The contracts of `dvs_group_start`, `dvs_group_step`, `dvs_group_steps` and `dvs_group_form` say `Begins`, `Steps`, `GoesOn` and `Forms` of the
-- ranges: the checker holds their code to that.
-- 9. Demand 3 and never wedged of a host's calls, by 6, 7 and 8: `demand3-calls` and `never-wedged-calls` below.
-- 10. In whatever demand 3 promises, what is reported safe is final if members register last; so it is in a host's calls: `finality-calls` below.
pub use Rattle.rules.proofs.Final.{finality-promised}
-- 11. The marks in the ranges agree with the replies, by 5; so the crossing queries tell what a host's calls showed: `crossings-calls` below.
pub use Rattle.group_bytes.proofs.MarkRuns.{crossed-ranges, newest-ranges}
use mathlib.Core.Path.{◌≡◌, refl, sym, ap, ◌∙◌, subst}
use mathlib.Core.Bool.{Bool, true, false}
use mathlib.Core.List.{List, [], ◌∷◌, ◌++◌, append-nil}
use Prim.Native.Nat.{ℕ, zero, suc, ◌+◌, ◌*◌, ◌/◌, ◌^◌, ◌<◌, ◌≤◌}
use native.Mathlib.Omega.{arith}
use borrow.Author.Tests.{eqb-true, eqb-false}
use lib.Dec.{eqb}
use lib.ListN.{length}
use Rattle.views.specs.declared.View.{View}
use Rattle.views.specs.declared.refusal.Refusal.TheVariants.{RecordsUnsound}
use Rattle.views.specs.Refusals.{Verdict, number_of, code_of, left}
use Rattle.std.specs.Prelude.{Ok, Err}
use Rattle.views.specs.Limits.{max_views}
use Rattle.views.specs.Sets.{one}
use Rattle.views.proofs.Numbers.{never-0}
use Rattle.wire.proofs.TripViews.{AreBytes, get-fits}
use Rattle.rules.specs.Data.{Identifier, Step, Event as Outward, Group, Result, refused, accepted}
use Rattle.rules.specs.Promise.{Promised}
use Rattle.rules.specs.Crossing.{Crossed, NewestBefore}
use Rattle.group_bytes.specs.Groups.{Ranges, made_of, marks_of, ranges_sound}
use Rattle.group_bytes.specs.Starts.{start_ranges}
use Rattle.group_bytes.specs.Steps.{start_result, step_ranges, step_reply, last_ranges, replies_of}
use Rattle.group_bytes.specs.Forming.{form_verdict, form_taken}
use Rattle.group_bytes.specs.Crossing.{picked_in, newest_in}
use Rattle.events.specs.Shown.{shown_by, events_shown}
use Rattle.group_bytes.specs.Promises.{Given, AllGiven}
use Rattle.group_bytes.proofs.RangesLaws.{same-ranges}
use Rattle.group_bytes.proofs.GivenSteps.{last-append, replies-append, none-given, given-first, one-given, given-append}
use Rattle.group_bytes.proofs.GroupForms.{refused_none}
use Rattle.events.proofs.ShownLaws.{shown-append}
use Rattle.c_answers.specs.Answers.{event_size, length_size, length_bytes, found_bytes}
use Rattle.c_answers.proofs.AnswerLaws.{sized-met, sized-unmet}
use Rattle.group_crossing.specs.Queries.{is_wanted, ids_of, found_in, store_ids}
use Rattle.group_crossing.specs.QueryParts.{pick_at}
use Rattle.group_crossing.proofs.QueryLaws.{found_below, few-below}
use Rattle.group_crossing.proofs.QueryCases.{ranged}
use Rattle.group_run.specs.Records.{step_size, step_at, steps_from, steps_in, events_in}
use Rattle.group_run.specs.Runs.{go_on_verdict}
use Rattle.dvs.specs.GroupCalls.{Begins, Steps, stepping, GoesOn, Forms, forming}
use Rattle.dvs.specs.CrossingCalls.{crossing, seeking}
use Rattle.dvs.specs.Promises.{Called, none, call, list, form, Demand3, Finality, NeverWedged, Crossings}
use Rattle.dvs.proofs.GroupLaws.{step_left}
use Rattle.dvs.proofs.FormLaws.{form-left}

-- steps that lead from the ranges r to f and show the events l
abbrev Led : Ranges → List (Outward ℕ) → Ranges → Type 0
Led r l f = (steps : List Step) × AllGiven steps × (events_shown (replies_of r steps) ≡ l) × (last_ranges r steps ≡ f)

-- ---- a call in front of others

module _ (r : Ranges) {d f : Ranges} {l : List (Outward ℕ)} (t : Led d l f) where
  -- it takes these steps
  taking : (steps : List Step) → AllGiven steps → d ≡ last_ranges r steps → Led r (events_shown (replies_of r steps) ++ l) f
  taking steps g same =
      let m = t.0 in
      let rest : events_shown (replies_of (last_ranges r steps) m) ≡ l = subst (λ (z : Ranges). events_shown (replies_of z m) ≡ l) same t.2 in
      let last : last_ranges (last_ranges r steps) m ≡ f = subst (λ (z : Ranges). last_ranges z m ≡ f) same t.3 in (
        steps ++ m,
        given-append steps m g t.1,
        ap events_shown (replies-append r steps m) ∙ shown-append (replies_of r steps) (replies_of (last_ranges r steps) m)
            ∙ ap (λ (k : List (Outward ℕ)). events_shown (replies_of r steps) ++ k) rest,
        last-append r steps m ∙ last,
      )

  -- it is refused
  leaving : d ≡ r → Led r l f
  leaving same = subst (λ (z : Ranges). Led z l f) same t

-- ---- a call of step is its step, or none if the event range is not of its length

module _ (r d f : Ranges) (c : Step) (e e' : List ℕ) (x : ℕ) (l : List (Outward ℕ)) (g : Given c) (s : Steps r c d e e' x) where
  abbrev shown : List (Outward ℕ)
  shown = shown_by (stepping r c e)

  call-led : Led d l f → Led r (shown ++ l) f
  unfolding left events_shown replies_of last_ranges
  call-led t = go (eqb (length e) event_size) refl
    where
      go : (b : Bool) → eqb (length e) event_size ≡ b → Led r (shown ++ l) f
      go true h =
          let v : stepping r c e ≡ step_reply r c = sized-met e event_size (step_reply r c) (eqb-true _ _ h) in
          let list : d.list ≡ (step_ranges r c).list = rw v at s.list ∙ sym (step_left r c (λ (z : Ranges). z.list)) in
          let books : d.books ≡ (step_ranges r c).books = rw v at s.books ∙ sym (step_left r c (λ (z : Ranges). z.books)) in
          let queues : d.queues ≡ (step_ranges r c).queues = rw v at s.queues ∙ sym (step_left r c (λ (z : Ranges). z.queues)) in
          let one = taking r t (c ∷ []) (one-given c g) (same-ranges d (step_ranges r c) list books queues) in
          let events : shown_by (step_reply r c) ++ [] ≡ shown = append-nil _ ∙ ap shown_by (sym v) in
          subst (λ (k : List (Outward ℕ)). Led r (k ++ l) f) events one
      go false h =
          let v : stepping r c e ≡ Err RecordsUnsound = sized-unmet e event_size (step_reply r c) (eqb-false _ _ h) in
          rw v (leaving r t (same-ranges d r (rw v at s.list) (rw v at s.books) (rw v at s.queues)))

-- ---- a call of a list is its steps, or none if it is refused

-- bytes hold operands within their widths
listed-given : (b : List ℕ) → AreBytes b → (n i : ℕ) → AllGiven (steps_from b n i)
unfolding steps_from step_at
listed-given b w zero i = none-given
listed-given b w (suc n) i = given-first (step_at b (step_size * i)) (steps_from b n (i + 1))
    (record { first = get-fits b (step_size * i + 1) 4 w; second = get-fits b (step_size * i + 5) 8 w }) (listed-given b w n (i + 1))

module _ (r d f : Ranges) (b a a' : List ℕ) (x : ℕ) (l : List (Outward ℕ)) (w : AreBytes b) (s : GoesOn r b a d a' x) where
  abbrev listed : List (Outward ℕ)
  listed = left (go_on_verdict r b a) (events_in a') []

  list-led : Led d l f → Led r (listed ++ l) f
  unfolding left steps_in
  list-led t = go (go_on_verdict r b a) refl
    where
      steps : List Step
      steps = steps_in b

      go : (v : Verdict) → go_on_verdict r b a ≡ v → Led r (listed ++ l) f
      go (Ok u) v =
          let same : d ≡ last_ranges r steps = same-ranges d (last_ranges r steps) (rw v at s.went.list) (rw v at s.went.books) (rw v at s.went.queues) in
          let all = taking r t steps (listed-given b w (length b / step_size) 0) same in
          rw v (subst (λ (k : List (Outward ℕ)). Led r (k ++ l) f) (sym (s.went.shown v)) all)
      go (Err q) v = rw v (leaving r t (same-ranges d r (rw v at s.went.list) (rw v at s.went.books) (rw v at s.went.queues)))

-- ---- a call of form is its steps, or none if it is refused or the count range is not of its length

module _ (r d f : Ranges) (g : Identifier) (c c' : List ℕ) (x : ℕ) (l : List (Outward ℕ)) (w : g < 256 ^ 4) (s : Forms r g d c c' x) where
  abbrev formed : List (Outward ℕ)
  formed = left (forming r g c) (events_shown (replies_of r (form_taken r g))) []

  form-led : Led d l f → Led r (formed ++ l) f
  unfolding left events_shown replies_of
  form-led t = go (eqb (length c) length_size) refl
    where
      steps : List Step
      steps = form_taken r g

      -- a refused call has no step to show
      shown-left : (v : Verdict) → form_verdict r g ≡ v → left v (events_shown (replies_of r steps)) [] ≡ events_shown (replies_of r steps)
      shown-left (Ok u) h = refl
      shown-left (Err q) h = ap (λ (k : List Step). events_shown (replies_of r k)) (sym (refused_none r g q h))

      go : (b : Bool) → eqb (length c) length_size ≡ b → Led r (formed ++ l) f
      go true h =
          let v : forming r g c ≡ form_verdict r g = sized-met c length_size (form_verdict r g) (eqb-true _ _ h) in
          let list : d.list ≡ (last_ranges r steps).list = rw v at s.list ∙ sym (form-left r g (λ (z : Ranges). z.list)) in
          let books : d.books ≡ (last_ranges r steps).books = rw v at s.books ∙ sym (form-left r g (λ (z : Ranges). z.books)) in
          let queues : d.queues ≡ (last_ranges r steps).queues = rw v at s.queues ∙ sym (form-left r g (λ (z : Ranges). z.queues)) in
          let all = taking r t steps (taken-given r g w) (same-ranges d (last_ranges r steps) list books queues) in
          rw (v, shown-left (form_verdict r g) refl) all
      go false h =
          let v : forming r g c ≡ Err RecordsUnsound = sized-unmet c length_size (form_verdict r g) (eqb-false _ _ h) in
          rw v (leaving r t (same-ranges d r (rw v at s.list) (rw v at s.books) (rw v at s.queues)))

-- ---- any calls

called-led : {r f : Ranges} {l : List (Outward ℕ)} → Called r l f → Led r l f
unfolding events_shown replies_of last_ranges
called-led none = ([], none-given, refl, refl)
called-led (call {r} {d} {f} {l} c e e' x g s k) = call-led r d f c e e' x l g s (called-led k)
called-led (list {r} {d} {f} {l} b a a' x w s k) = list-led r d f b a a' x l w s (called-led k)
called-led (form {r} {d} {f} {l} g c c' x w s k) = form-led r d f g c c' x l w s (called-led k)

-- ---- a start that gave 0 was accepted

begun : (n S : ℕ) (r d : Ranges) → Begins r n S d 0 → (s : Group) × (start_result n S r ≡ accepted s) × (d ≡ start_ranges n S r)
unfolding left
begun n S r d b = go (start_result n S r) refl
  where
    go : (x : Result Group) → start_result n S r ≡ x → (s : Group) × (start_result n S r ≡ accepted s) × (d ≡ start_ranges n S r)
    go (refused q) h = absurd (eqb-false (number_of q) 0 (never-0 q) (sym (rw h at b.number)))
    go (accepted s) h = (s, h, same-ranges d (start_ranges n S r) (rw h at b.list) (rw h at b.books) (rw h at b.queues))

-- what the calls show and lead to is what steps from the start do
from_start : (n S : ℕ) (r d f : Ranges) (l : List (Outward ℕ)) → Begins r n S d 0 → Called d l f
    → (s : Group) × (start_result n S r ≡ accepted s) × Led (start_ranges n S r) l f
from_start n S r d f l b k = let t = begun n S r d b in (t.0, t.1, leaving (start_ranges n S r) (called-led k) t.2)

pub demand3-calls : Demand3
demand3-calls n S r d f l b k =
    let (s, e, (steps, given, shown, _)) = from_start n S r d f l b k in
    subst (λ (m : List (Outward ℕ)). Promised one S m) shown (demand3-ranges n S r s e steps given)

pub finality-calls : Finality
finality-calls n S r d f l b k = finality-promised one S l (demand3-calls n S r d f l b k)

pub never-wedged-calls : NeverWedged
never-wedged-calls n S r d f l b k =
    let (s, e, (steps, given, _, last)) = from_start n S r d f l b k in
    subst (λ (z : Ranges). ranges_sound z ≡ true) last (never-wedged-ranges n S r s e steps given)

-- ---- the crossing queries

-- 0 is the number of no refusal, so what a call that gave 0 has left is what was accepted
zero_left : {A : Type 0} (v : Verdict) (x y : A) → 0 ≡ code_of v → left v x y ≡ x
unfolding left
zero_left (Ok u) x y e = refl
zero_left (Err q) x y e = absurd (eqb-false (number_of q) 0 (never-0 q) (sym e))

ids-length : (l : List View) → length (ids_of l) ≡ length l
ids-length [] = refl
ids-length (v ∷ l) = ap suc (ids-length l)

found-few : (r : Ranges) → ranges_sound r ≡ true → (hold : Bool) (T : ℕ) → length (found_in r hold T) ≤ max_views
found-few r s hold T =
    let t = pick_at r.list (marks_of r) hold T in
    let fits = ranged r s in
    rw (found_below r s hold T) (omega (arith, few-below r.list t (made_of r), fits.made.1, fits.room.1))

pub crossings-calls : Crossings
unfolding found_in
crossings-calls n S r d f l b k =
    let (s, e, (steps, given, shown, last)) = from_start n S r d f l b k in
    record {
      queried = λ hold T o o' c c' q.
          let found = picked_in f (is_wanted hold T) in
          let z = start_ranges n S r in
          let told : Crossed S (events_shown (replies_of z steps)) (is_wanted hold T) (picked_in (last_ranges z steps) (is_wanted hold T))
          = crossed-ranges n S r s e steps given (is_wanted hold T) in (
            found,
            subst (λ (y : Ranges). Crossed S l (is_wanted hold T) (picked_in y (is_wanted hold T))) last
                (subst (λ (m : List (Outward ℕ)). Crossed S m (is_wanted hold T) (picked_in (last_ranges z steps) (is_wanted hold T))) shown told),
            q.buffer ∙ zero_left (crossing f hold T o c) (store_ids o 0 (found_in f hold T)) o q.number,
            q.count ∙ zero_left (crossing f hold T o c) (length_bytes (length (found_in f hold T))) c q.number ∙ ap length_bytes (ids-length found),
          );
      few = λ hold T. found-few f (never-wedged-calls n S r d f l b k) hold T;
      sought = λ g o o' q.
          let z = start_ranges n S r in
          let told : NewestBefore S (events_shown (replies_of z steps)) g (newest_in (last_ranges z steps) g) = newest-ranges n S r s e steps given g in (
            newest_in f g,
            subst (λ (y : Ranges). NewestBefore S l g (newest_in y g)) last
                (subst (λ (m : List (Outward ℕ)). NewestBefore S m g (newest_in (last_ranges z steps) g)) shown told),
            q.found ∙ zero_left (seeking f o) (found_bytes (newest_in f g)) o q.number,
          );
    }
