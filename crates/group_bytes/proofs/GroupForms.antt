-- The driver put to the three ranges. Its calls and steps, mixed in any order, are steps; so what is promised of steps is promised of them. And on
-- ranges that steps lead to a call forms its view wherever 10, 44 and 45 do not apply, as the rules' does.
use mathlib.Core.Path.{◌≡◌, refl, sym, ap, ◌∙◌}
use mathlib.Core.Bool.{true, true≢false}
use mathlib.Core.List.{List, [], ◌∷◌, ◌++◌}
use Prim.Native.Nat.{◌^◌, ◌<◌}
use native.Mathlib.Omega.{arith}
use Rattle.views.specs.declared.refusal.Refusal.{Refusal}
use Rattle.views.specs.declared.refusal.Refusal.TheVariants.{RecordsUnsound}
use Rattle.views.specs.Refusals.{Verdict, and_then, left}
use Rattle.std.specs.Prelude.{Ok, Err}
use Rattle.views.specs.Sets.{both, one}
use Rattle.views.specs.Lists.{find_of}
use Rattle.views.proofs.Members.{top, pop}
use Rattle.views.proofs.ListLaws.{find-in}
use Rattle.views.proofs.VerdictLaws.{never}
use Rattle.rules.specs.Data.{Identifier, Group, Step, Answer, ok, event, refusal, Result, refused, accepted, need}
use Rattle.rules.specs.Sound.{sound}
use Rattle.rules.specs.Group.{Next, with_listed, settles, step_of, step}
use Rattle.rules.specs.Runs.{last_of, answers_of}
use Rattle.rules.specs.Forming.{is_newest, none_joined, passes_held, form_of, all_accepted, Forms}
use Rattle.rules.proofs.Forming.{driver-forms}
use Rattle.rules.proofs.Holding.{Holds, gives, need-holds, listed-holds}
use Rattle.events.specs.Replies.{Reply}
use Rattle.book_steps.proofs.Means.{gave}
use Rattle.group_bytes.specs.Places.{room_of}
use Rattle.group_bytes.specs.Groups.{Ranges, group_in, ranges_sound}
use Rattle.group_bytes.specs.Answers.{next_reply}
use Rattle.group_bytes.specs.Starts.{start_ranges}
use Rattle.group_bytes.specs.Steps.{last_ranges, replies_of}
use Rattle.group_bytes.specs.Promises.{AllGiven}
use Rattle.group_bytes.specs.Forming.{first_refusal, form_result, verdict_by, form_verdict, taken_by, form_taken, Call, form, call_steps, calls_ranges}
use Rattle.group_bytes.specs.Forming.{calls_replies, CallGiven, AllCallsGiven, FormsView, AllOrNone, DriverPromise}
use Rattle.group_bytes.proofs.RangesLaws.{MeansGroup}
use Rattle.group_bytes.proofs.GroupRuns.{runs, start-says, begun, demand3-ranges, never-wedged-ranges}
use Rattle.group_bytes.proofs.GroupReplies.{rule_replies, means-replies}
use Rattle.group_bytes.proofs.GivenSteps.{last-append, replies-append, none-given, one-given, given-append, steps-given}

-- ---- one call

-- all of its steps, or none
pub taken-leaves : (r : Ranges) (l : List Step) → last_ranges r (taken_by r (accepted l)) ≡ left (first_refusal (replies_of r l)) (last_ranges r l) r
unfolding last_ranges left
taken-leaves r l = by (first_refusal (replies_of r l))
  where
    by : (v : Verdict) → last_ranges r (left v l []) ≡ left v (last_ranges r l) r
    by (Ok u) = refl
    by (Err f) = refl

-- an accepted call takes all that it sets out to take
pub form-accepted : (r : Ranges) (g : Identifier) → form_verdict r g ≡ Ok tt → form_result r g ≡ accepted (form_taken r g)
unfolding form_verdict form_taken left
form-accepted r g e = by (form_result r g) e
  where
    by : (x : Result (List Step)) → verdict_by r x ≡ Ok tt → x ≡ accepted (taken_by r x)
    by (refused f) e = absurd (never f e)
    by (accepted l) e = rw e

-- a refused one takes none, and leaves every byte as it was
pub refused_none : (r : Ranges) (g : Identifier) (f : Refusal) → form_verdict r g ≡ Err f → form_taken r g ≡ []
unfolding form_verdict form_taken left
refused_none r g f e = by (form_result r g) e
  where
    by : (x : Result (List Step)) → verdict_by r x ≡ Err f → taken_by r x ≡ []
    by (refused h) e = refl
    by (accepted l) e = rw e

pub form-refused : (r : Ranges) (g : Identifier) (f : Refusal) → form_verdict r g ≡ Err f → last_ranges r (form_taken r g) ≡ r
unfolding last_ranges
form-refused r g f e = ap (last_ranges r) (refused_none r g f e)

pub all-or-none : AllOrNone
all-or-none = record { all = form-accepted; none = form-refused }

-- ---- its steps can be given

-- what a group's driver gives are steps that can be given
module _ (s : Group) (g : Identifier) (width : g < 256 ^ 4) where
  abbrev Sets : List Step → Type 0
  Sets l = (form_of one s g ≡ accepted l) × AllGiven l

  form-holds : Holds Sets (form_of one s g)
  unfolding form_of with_listed need
  form-holds =
      listed-holds (find_of g s.views) _ (λ v f.
      need-holds (both (is_newest g s.views) (none_joined s g)) _ _ (λ a.
      need-holds (passes_held one s v) _ _ (λ b.
      gives (rw (f, a, b), steps-given v (omega (arith, (find-in g s.views v f).1))))))

-- and what it sets out to take, put to ranges, is what it gives of the group in them
result-holds : (r : Ranges) (g : Identifier) (w : g < 256 ^ 4) → Holds (Sets (group_in r) g w) (form_result r g)
unfolding form_result
result-holds r g w = need-holds (ranges_sound r) _ _ (λ _. form-holds (group_in r) g w)

pub taken-given : (r : Ranges) (g : Identifier) → g < 256 ^ 4 → AllGiven (form_taken r g)
unfolding form_taken left
taken-given r g w = by (form_result r g) (result-holds r g w)
  where
    taken : (v : Verdict) (l : List Step) → AllGiven l → AllGiven (left v l [])
    taken (Ok u) l h = h
    taken (Err f) l h = none-given

    by : (x : Result (List Step)) → Holds (Sets (group_in r) g w) x → AllGiven (taken_by r x)
    by (refused f) h = none-given
    by (accepted l) (gives h) = taken (first_refusal (replies_of r l)) l h.1

-- ---- calls are steps

-- those that the calls take, first to last
unfoldable pub steps_of : Ranges → List Call → List Step
steps_of r [] = []
steps_of r (x ∷ l) = call_steps r x ++ steps_of (last_ranges r (call_steps r x)) l

call-given : (r : Ranges) (x : Call) → CallGiven x → AllGiven (call_steps r x)
unfolding call_steps
call-given r (Call.step c) h = one-given c h
call-given r (form g) h = taken-given r g h

pub calls-given : (r : Ranges) (calls : List Call) → AllCallsGiven calls → AllGiven (steps_of r calls)
unfolding steps_of
calls-given r [] w = none-given
calls-given r (x ∷ l) w = given-append _ _ (call-given r x (w x top)) (calls-given (last_ranges r (call_steps r x)) l (λ y i. w y (pop i)))

pub calls_last : (r : Ranges) (calls : List Call) → calls_ranges r calls ≡ last_ranges r (steps_of r calls)
unfolding calls_ranges steps_of last_ranges
calls_last r [] = refl
calls_last r (x ∷ l) = let d = last_ranges r (call_steps r x) in calls_last d l ∙ sym (last-append r (call_steps r x) (steps_of d l))

pub calls-replies : (r : Ranges) (calls : List Call) → calls_replies r calls ≡ replies_of r (steps_of r calls)
unfolding calls_replies steps_of replies_of
calls-replies r [] = refl
calls-replies r (x ∷ l) =
    let d = last_ranges r (call_steps r x) in
    ap (λ (k : List Reply). replies_of r (call_steps r x) ++ k) (calls-replies d l) ∙ sym (replies-append r (call_steps r x) (steps_of d l))

-- ---- the view formed

tail-accepted : (a : Answer) (l : List Answer) → all_accepted (a ∷ l) ≡ true → all_accepted l ≡ true
unfolding all_accepted
tail-accepted ok l t = t
tail-accepted (event e) l t = t
tail-accepted (refusal f) l t = absurd (true≢false (sym t))

next-accepted : (x : Result Next) (s : Group) (l : List Answer) (k : List Reply) → (all_accepted l ≡ true → first_refusal k ≡ Ok tt)
    → all_accepted ((settles s x).answer ∷ l) ≡ true → first_refusal (next_reply x ∷ k) ≡ Ok tt
unfolding all_accepted first_refusal and_then
next-accepted (refused f) s l k h t = absurd (true≢false (sym t))
next-accepted (accepted y) s l k h t = h (tail-accepted y.answer l t)

rules-accept : (s : Group) (l : List Step) → all_accepted (answers_of one s l) ≡ true → first_refusal (rule_replies s l) ≡ Ok tt
unfolding rule_replies answers_of first_refusal step
rules-accept s [] t = refl
rules-accept s (c ∷ l) t =
    let d = (step one s c).state in
    next-accepted (need (sound s) RecordsUnsound (step_of one s c)) s (answers_of one d l) (rule_replies d l) (rules-accept d l) t

-- ranges reply with no refusal to steps that their group accepts
pub accepted-all : (r : Ranges) (s : Group) → MeansGroup r s → (l : List Step) → AllGiven l → all_accepted (answers_of one s l) ≡ true
    → first_refusal (replies_of r l) ≡ Ok tt
accepted-all r s m l w t = rw (means-replies r s m l w) (rules-accept s l t)

pub forms-view : (r : Ranges) (s : Group) → MeansGroup r s → (g : Identifier) (l : List Step) → AllGiven l → form_result r g ≡ accepted l → Forms one s g l
    → FormsView r g
unfolding form_verdict form_taken left group_in
forms-view r s m g l w e f =
    let a : first_refusal (replies_of r l) ≡ Ok tt = accepted-all r s m l w f.accepts in
    let t : form_taken r g ≡ l = rw (e, a) in
    let (h, n) = runs r s m l w in
    record {
      view = f.view;
      listed = ap (λ (z : Group). find_of g z.views) m.group ∙ f.listed;
      accepts = rw e a;
      count = rw t f.count;
      events = rw t (h ∙ f.events);
      settled = λ p i. rw t (ap (λ (z : Group). (z.books p).held) n.group ∙ f.settled p i);
    }

-- ---- the promise

pub driver-promise : DriverPromise
driver-promise n S r s e calls w =
    let d = start_ranges n S r in
    let steps = steps_of d calls in
    let given = calls-given d calls w in
    let m : MeansGroup (calls_ranges d calls) (last_of one s steps) = rw (calls_last d calls) (runs d s (begun n S r s e) steps given).1 in
    record {
      promised = rw (calls-replies d calls) (demand3-ranges n S r s e steps given);
      sound = rw (calls_last d calls) (never-wedged-ranges n S r s e steps given);
      forms = λ g h l t.
          let (o, a) = gave (form_result (calls_ranges d calls) g) l (result-holds (calls_ranges d calls) g h) t in
          let k : form_of one (last_of one s steps) g ≡ accepted l = rw (← m.group) o in
          forms-view (calls_ranges d calls) (last_of one s steps) m g l a t (driver-forms one n S (room_of r.list) s (start-says n S r s e).1 steps g l k);
    }
