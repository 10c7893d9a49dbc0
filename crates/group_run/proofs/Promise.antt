-- The verdict of a run and of a list of steps by its tests in order, and the promises of an accepted run.
use mathlib.Core.Path.{◌≡◌, sym, ap, ◌∙◌}
use mathlib.Core.Bool.{Bool, true, false}
use mathlib.Core.List.{List}
use Prim.Native.Nat.{ℕ, ◌*◌, ◌/◌, ◌%◌}
use native.Mathlib.Omega.{arith}
use borrow.Author.Tests.{eqb-true, eq-eqb, ne_eqb}
use lib.Dec.{eqb}
use lib.ListN.{length}
use Rattle.views.specs.declared.refusal.Refusal.{Refusal}
use Rattle.views.specs.declared.refusal.Refusal.TheVariants.{RecordsUnsound}
use Rattle.views.specs.Refusals.{Verdict, require, left}
use Rattle.std.specs.Prelude.{Ok, Err}
use Rattle.views.proofs.VerdictLaws.{never}
use Rattle.rules.specs.Sound.{conditions}
use Rattle.rules.proofs.TestLaws.{conditions-say}
use Rattle.rules.proofs.Truth.{both-unit}
use Rattle.events.specs.Replies.{verdict_of}
use Rattle.events.proofs.ReplyLaws.{accepts}
use Rattle.group_bytes.specs.Groups.{Ranges, ranges_sound}
use Rattle.group_bytes.specs.Starts.{start_ranges}
use Rattle.group_bytes.specs.Steps.{start_result, last_ranges, replies_of}
use Rattle.group_bytes.proofs.RangesLaws.{same-ranges}
use Rattle.group_bytes.proofs.GroupRuns.{demand3-ranges, never-wedged-ranges}
use Rattle.group.specs.StartCalls.{Began}
use Rattle.group_run.specs.Records.{step_size, steps_in, answer_size, events_in}
use Rattle.group_run.specs.Runs.{paired, run_verdict, Ran, go_on_verdict, WentOn}
use Rattle.group_run.specs.Parts.{Turns}
use Rattle.group_run.proofs.Shown.{events-back}

-- ---- the lengths

module _ (s a : ℕ) where
  pub steps-broken : eqb (s % step_size) 0 ≡ false → false ≡ paired s a
  unfolding paired conditions
  steps-broken h = rw h

  module _ (whole : eqb (s % step_size) 0 ≡ true) where
    pub answers-broken : eqb (a % answer_size) 0 ≡ false → false ≡ paired s a
    unfolding paired conditions
    answers-broken h = rw (whole, h)

    pub answers-counted : eqb (a % answer_size) 0 ≡ true → eqb (a / answer_size) (s / step_size) ≡ paired s a
    unfolding paired conditions
    answers-counted h = rw (whole, h) (sym (both-unit (eqb (a / answer_size) (s / step_size))))

-- records that pair have an answer to each step
pub paired_long : (s a : ℕ) → paired s a ≡ true → a ≡ answer_size * (s / step_size)
unfolding paired
paired_long s a h =
    let (_, (whole, (same, _))) = conditions-say _ h in
    omega (arith, eqb-true (a % answer_size) 0 whole, eqb-true (a / answer_size) (s / step_size) same)

-- ---- the verdict

module _ (n S : ℕ) (r : Ranges) (steps a : List ℕ) where
  refused-ran : (x : Refusal) → run_verdict n S r steps a ≡ Err x → Ran n S r steps a r a (Err x)
  unfolding left
  refused-ran x e = record {
    verdict = sym e;
    list = rw e;
    books = rw e;
    queues = rw e;
    answers = rw e;
    promise = λ k. absurd (never x k);
    sound = λ k. absurd (never x k);
  }

  pub unpaired-ran : paired (length steps) (length a) ≡ false → Ran n S r steps a r a (Err RecordsUnsound)
  unfolding run_verdict require
  unpaired-ran e = refused-ran RecordsUnsound (rw e)

  module _ (pair : paired (length steps) (length a) ≡ true) (b : Ranges) (v : Verdict) (began : Began r n S b v) where
    pub unstarted-ran : (x : Refusal) → v ≡ Err x → Ran n S r steps a b a (Err x)
    unfolding run_verdict require left
    unstarted-ran x e =
        let vo : verdict_of (start_result n S r) ≡ Err x = sym began.verdict ∙ e in
        let same : b ≡ r = same-ranges b r (rw vo at began.list) (rw vo at began.books) (rw vo at began.queues) in
        rw same (refused-ran x (rw (pair, vo)))

    pub all-ran : v ≡ Ok tt → (d : Ranges) (e : List ℕ) → Turns b steps d e → Ran n S r steps a d e (Ok tt)
    unfolding run_verdict require left
    all-ran w d e turns =
        let vo : verdict_of (start_result n S r) ≡ Ok tt = sym began.verdict ∙ w in
        let same : b ≡ start_ranges n S r = same-ranges b (start_ranges n S r) (rw vo at began.list) (rw vo at began.books) (rw vo at began.queues) in
        let t : Turns (start_ranges n S r) steps d e = rw same at turns in
        let s = accepts (start_result n S r) vo in
        record {
          verdict = rw (pair, vo);
          list = rw (pair, vo) t.list;
          books = rw (pair, vo) t.books;
          queues = rw (pair, vo) t.queues;
          answers = rw (pair, vo) t.answers;
          promise = λ _. rw (t.answers, events-back (replies_of (start_ranges n S r) (steps_in steps)) t.fits)
              (demand3-ranges n S r s.0 s.1 (steps_in steps) t.given);
          sound = λ _. rw (same-ranges d (last_ranges (start_ranges n S r) (steps_in steps)) t.list t.books t.queues)
              (never-wedged-ranges n S r s.0 s.1 (steps_in steps) t.given);
        }

-- ---- steps applied to a group that exists

module _ (r : Ranges) (steps a : List ℕ) where
  pub refused-on : go_on_verdict r steps a ≡ Err RecordsUnsound → WentOn r steps a r a (Err RecordsUnsound)
  unfolding left
  refused-on e = record { verdict = sym e; list = rw e; books = rw e; queues = rw e; answers = rw e; shown = λ k. absurd (never RecordsUnsound k) }

  pub unpaired-on : paired (length steps) (length a) ≡ false → WentOn r steps a r a (Err RecordsUnsound)
  unfolding go_on_verdict require
  unpaired-on e = refused-on (rw e)

  module _ (pair : paired (length steps) (length a) ≡ true) where
    pub unsound-on : ranges_sound r ≡ false → WentOn r steps a r a (Err RecordsUnsound)
    unfolding go_on_verdict require
    unsound-on e = refused-on (rw (pair, e))

    pub all-on : ranges_sound r ≡ true → (d : Ranges) (e : List ℕ) → Turns r steps d e → WentOn r steps a d e (Ok tt)
    unfolding go_on_verdict require left
    all-on h d e t = record {
      verdict = rw (pair, h);
      list = rw (pair, h) t.list;
      books = rw (pair, h) t.books;
      queues = rw (pair, h) t.queues;
      answers = rw (pair, h) t.answers;
      shown = λ _. ap events_in t.answers ∙ events-back (replies_of r (steps_in steps)) t.fits;
    }
