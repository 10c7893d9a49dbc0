-- A run with stand-ins for numbers that do not fit into a byte is the run with the numbers themselves.
use mathlib.Core.Path.{◌≡◌, refl, sym, ◌∙◌}
use mathlib.Core.Bool.{Bool, true, false}
use mathlib.Core.List.{List}
use Prim.Native.Nat.{ℕ, ◌≤◌}
use lib.ListN.{length}
use Rattle.views.specs.declared.refusal.Refusal.{Refusal}
use Rattle.views.specs.declared.refusal.Refusal.TheVariants.{RecordsUnsound}
use Rattle.views.specs.Refusals.{Verdict, code_of, require, left}
use Rattle.std.specs.Prelude.{Err}
use Rattle.views.specs.Limits.{max_members}
use Rattle.views.specs.Sets.{fits}
use Rattle.views.proofs.VerdictLaws.{never}
use Rattle.rules.specs.Sound.{within}
use Rattle.rules.specs.Group.{start}
use Rattle.rules.proofs.TestLaws.{within-says}
use Rattle.group_bytes.specs.Groups.{Ranges}
use Rattle.group_bytes.specs.Steps.{start_result}
use Rattle.group_run.specs.Runs.{paired, run_verdict, Ran, WentOn}
use Rattle.c_answers.specs.Answers.{narrowed}
use Rattle.c_answers.proofs.StandIns.{RefusedAlike, need-alike, unmet-alike, by_width, within-large, fits-none, fits-large}
use Rattle.dvs.specs.GroupCalls.{Runs, GoesOn}

-- the refusal of a run whose start is refused
stops : (t : Bool) (x : Refusal) → (y : Refusal) × (◌≡◌ {A = Verdict} (require t RecordsUnsound (Err x)) (Err y))
unfolding require
stops true x = (x, refl)
stops false x = (RecordsUnsound, refl)

module _ (r d : Ranges) (steps a a' : List ℕ) (x : ℕ) where
  abbrev Gone : ℕ → ℕ → Type 0
  Gone n S = Runs n S r steps a d a' x

  gone-alike : (n n' S S' : ℕ) → RefusedAlike (start_result n S r) (start_result n' S' r) → Gone n S → Gone n' S'
  unfolding run_verdict left
  gone-alike n n' S S' (z, p, q) h =
      let (y, e) = stops (paired (length steps) (length a)) z in
      let old : run_verdict n S r steps a ≡ Err y = rw p e in
      let new : run_verdict n' S' r steps a ≡ Err y = rw q e in
      let number : x ≡ code_of {A = Unit {0}} (Err y) = rw old at h.number in
      let list : d.list ≡ r.list = rw old at h.ran.list in
      let books : d.books ≡ r.books = rw old at h.ran.books in
      let queues : d.queues ≡ r.queues = rw old at h.ran.queues in
      let answers : a' ≡ a = rw old at h.ran.answers in
      record {
        number = rw new number;
        ran = record {
          verdict = refl;
          list = rw new list;
          books = rw new books;
          queues = rw new queues;
          answers = rw new answers;
          promise = λ k. absurd (never y (sym new ∙ k));
          sound = λ k. absurd (never y (sym new ∙ k));
        };
      }

  gone-members : (n S : ℕ) → 256 ≤ n → Gone 0 S → Gone n S
  unfolding start_result start
  gone-members n S h =
      gone-alike 0 n S S
      (need-alike _ _ _ _ (λ _. unmet-alike (within 1 0 max_members) (within 1 n max_members) _ _ _ refl (within-large n h)))

  gone-set : (n S : ℕ) → 256 ≤ S → Gone n 0 → Gone n S
  unfolding start_result start
  gone-set n S h =
      gone-alike n n 0 S
      (need-alike _ _ _ _ (λ _. need-alike _ _ _ _ (λ w. let (_, few) = within-says 1 n max_members w in
      unmet-alike (fits n 0) (fits n S) _ _ _ (fits-none n) (fits-large n S few h))))

  pub run-narrowed : (n S : ℕ) → Gone (narrowed 0 n) (narrowed 0 S) → Gone n S
  run-narrowed n S h =
      by_width (λ k. Gone k S) 0 n (gone-members n S)
      (by_width (λ k. Gone (narrowed 0 n) k) 0 S (gone-set (narrowed 0 n) S) h)

-- what the run gave, as what the call gives
pub runs_call : (n S : ℕ) (r : Ranges) (steps a : List ℕ) (d : Ranges) (a' : List ℕ) (v : Verdict) (x : ℕ)
    → Ran n S r steps a d a' v → x ≡ code_of v → Runs n S r steps a d a' x
runs_call n S r steps a d a' v x h e =
    record {
      number = rw h.verdict at e;
      ran = record {
        verdict = refl;
        list = h.list;
        books = h.books;
        queues = h.queues;
        answers = h.answers;
        promise = λ k. h.promise (h.verdict ∙ k);
        sound = λ k. h.sound (h.verdict ∙ k);
      };
    }

-- the same of a list of steps
pub goes-call : (r : Ranges) (steps a : List ℕ) (d : Ranges) (a' : List ℕ) (v : Verdict) (x : ℕ) → WentOn r steps a d a' v → x ≡ code_of v → GoesOn r steps a d a' x
goes-call r steps a d a' v x h e =
    record {
      number = rw h.verdict at e;
      went = record { verdict = refl; list = h.list; books = h.books; queues = h.queues; answers = h.answers; shown = λ k. h.shown (h.verdict ∙ k) };
    }
