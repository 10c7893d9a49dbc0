-- Demand 2 of the three ranges: a start and each step are the rules', on ranges of any content.
use mathlib.Core.Path.{◌≡◌, refl, ap}
use mathlib.Core.Bool.{true, false}
use Prim.Native.Nat.{ℕ}
use native.Mathlib.Omega.{arith}
use Rattle.views.specs.declared.refusal.Refusal.{Refusal}
use Rattle.views.specs.declared.refusal.Refusal.TheVariants.{RecordsUnsound}
use Rattle.std.specs.Prelude.{Ok, Err}
use Rattle.views.specs.Sets.{one}
use Rattle.views.specs.Refusals.{left}
use Rattle.rules.specs.Data.{Group, Step, Answer, ok, event, refusal, Result, refused, accepted, need}
use Rattle.rules.specs.Sound.{sound}
use Rattle.rules.specs.Group.{Next, start, step_of, settles, step}
use Rattle.rules.proofs.Holding.{Holds, gives, need-holds}
use Rattle.rules.proofs.Refused.{Says, Next-says, step-says}
use Rattle.events.specs.Replies.{verdict_of, event_of}
use Rattle.group_bytes.specs.Places.{room_of}
use Rattle.group_bytes.specs.Groups.{Ranges, group_in, ranges_fit, ranges_sound}
use Rattle.group_bytes.specs.Answers.{answer_reply, next_reply}
use Rattle.group_bytes.specs.Steps.{ranges_long, start_result, step_result, moved, step_ranges, step_reply}
use Rattle.group_bytes.specs.Promises.{AreGroup, Demand2}
use Rattle.group_bytes.specs.Starts.{start_ranges}
use Rattle.group_bytes.proofs.RangesLaws.{MeansGroup, ranges-says, ranges-from}
use Rattle.group_bytes.proofs.StepGroup as S
use Rattle.group_bytes.proofs.GroupRuns.{begun}

means : (r : Ranges) (s : Group) → MeansGroup r s → AreGroup r s
means r s m = record { group = m.group; fits = ranges-from r m.fits; bytes = m.bytes }

-- ---- the start

long : (n S : ℕ) (r : Ranges) → ranges_long r ≡ true → start_result n S r ≡ start n S (room_of r.list)
unfolding start_result need
long n S r e = rw e

short : (n S : ℕ) (r : Ranges) → ranges_long r ≡ false → start_result n S r ≡ refused RecordsUnsound
unfolding start_result need
short n S r e = rw e

-- ---- the reply

-- no accepted step answers with a refusal
said : (a : Answer) → Says a → Ok (event_of a) ≡ answer_reply a
said ok h = refl
said (event e) h = refl
said (refusal f) h = absurd h

result-reply : (x : Result Next) (s : Group) → Holds Next-says x → next_reply x ≡ answer_reply (settles s x).answer
result-reply (refused f) s h = refl
result-reply (accepted y) s (gives h) = said y.answer h

step-reply : (r : Ranges) → ranges_fit r ≡ true → (c : Step) → step_reply r c ≡ answer_reply (step one (group_in r) c).answer
unfolding step_reply step_result step ranges_sound
step-reply r e c =
    rw e (result-reply (need (sound (group_in r)) RecordsUnsound (step_of one (group_in r) c)) (group_in r) (need-holds _ _ _ (λ _. step-says one (group_in r) c)))

-- ---- a refusal

kept : (x : Result Next) (m r : Ranges) (f : Refusal) → next_reply x ≡ Err f → left (verdict_of x) m r ≡ r
unfolding left
kept (refused g) m r f e = refl
kept (accepted y) m r f e = let z : ◌≡◌ {A = ℕ} 0 1 = cc in absurd (omega arith)

pub step-refused : (r : Ranges) (c : Step) (f : Refusal) → step_reply r c ≡ Err f → step_ranges r c ≡ r
unfolding step_reply step_ranges
step-refused r c f e = kept (step_result r c) (moved r c) r f e

step-unfit : (r : Ranges) → ranges_fit r ≡ false → (c : Step) → (step_reply r c ≡ answer_reply (refusal RecordsUnsound)) × (step_ranges r c ≡ r)
unfolding step_reply
step-unfit r e c = let u = S.step-unfit r e c in (ap (λ (x : Result Next). next_reply x) u.0, u.1)

-- ---- all of it

pub demand2-ranges : Demand2
demand2-ranges = record {
  start-unfit = short;
  start-result = long;
  start-group = λ n S r s e. means (start_ranges n S r) s (begun n S r s e);
  step-unfit = step-unfit;
  step-reply = step-reply;
  step-group = λ r e bytes c w. means (step_ranges r c) _ (S.step-means r (ranges-says r e) bytes c w);
  step-refused = step-refused;
}
