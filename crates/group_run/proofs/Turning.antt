-- The steps of a list, one turn after another: what is done so far, and what it leaves to do.
use mathlib.Core.Path.{◌≡◌, sym, ap, ◌∙◌}
use mathlib.Core.Bool.{Bool, true}
use mathlib.Core.List.{List, ◌∷◌, ◌++◌, append_assoc, append-nil}
use Prim.Native.Nat.{ℕ, suc, ◌+◌, ◌-◌, ◌*◌, ◌/◌, ◌^◌, ◌<◌, ◌≤◌}
use native.Mathlib.Omega.{arith}
use lib.ListN.{length, get_or, take, drop, length-append}
use lib.Seq.{length-take-le, take_at, take_all}
use Rattle.numbers.specs.Number.{get}
use Rattle.views.proofs.Members.{in-nil, top, pop}
use Rattle.rules.specs.Data.{Step}
use Rattle.events.specs.Replies.{Reply}
use Rattle.group_bytes.specs.Groups.{Ranges}
use Rattle.group_bytes.specs.Steps.{step_ranges, step_reply, last_ranges, replies_of}
use Rattle.group_bytes.specs.Promises.{AllGiven}
use Rattle.group_bytes.proofs.RangesLaws.{same-ranges}
use Rattle.group_bytes.proofs.GivenSteps.{given-first}
use Rattle.group.specs.StepCalls.{asked, Went}
use Rattle.group.specs.StaysSoundParts.{StaysSound}
use Rattle.group.proofs.StaysSoundLaws.{stays_after}
use Rattle.group_run.specs.Records.{step_size, step_at, steps_from, steps_in, answer_size, answer_bytes, answers_bytes}
use Rattle.group_run.specs.Parts.{answered, Fits, AllFit, Wrote, Asked, Turned, Turns}
use Rattle.group_run.proofs.Answers.{length-answer, length-answered}

-- ---- one step

-- a step was put whose operands are those that its record holds
pub asked-as-held : (b : List ℕ) (at first second : ℕ) → first ≡ get b (at + 1) 4 → second ≡ get b (at + 5) 8 → first < 256 ^ 4 → second < 256 ^ 8
    → (r d : Ranges) (x : Reply) → Went r (asked (get_or b at 0) first second) d x → Asked r (step_at b at) d x
unfolding step_at
asked-as-held b at first second e f m n r d x w = rw (← e, ← f) (record { went = w; given = record { first = m; second = n } })

pub turned : (r : Ranges) (c : Step) (d : Ranges) (x : Reply) (a : List ℕ) (at : ℕ) (e : List ℕ) → Asked r c d x → Wrote a at x e → Turned r c a at d e
turned r c d x a at e s w = record {
  list = s.went.list;
  books = s.went.books;
  queues = s.went.queues;
  answers = w.bytes ∙ ap (λ (y : Reply). answered a at y) s.went.reply;
  given = s.given;
  fits = rw s.went.reply at w.fits;
}

-- ---- what one turn does to what is left

module _ (d e : Ranges) (c : Step) (l : List Step) (same : e ≡ step_ranges d c) where
  next-ranges : last_ranges d (c ∷ l) ≡ last_ranges e l
  unfolding last_ranges
  next-ranges = rw same

  next_fits : Fits (step_reply d c) → AllFit (replies_of e l) → AllFit (replies_of d (c ∷ l))
  unfolding replies_of
  next_fits f g = go (rw same at g)
    where
      go : AllFit (replies_of (step_ranges d c) l) → AllFit (step_reply d c ∷ replies_of (step_ranges d c) l)
      go k y top = f
      go k y (pop i) = k y i

  next-answers : (a b : List ℕ) (i : ℕ) → answer_size * i + answer_size ≤ length a → b ≡ answered a (answer_size * i) (step_reply d c)
      → take (answer_size * i) a ++ answers_bytes (replies_of d (c ∷ l)) ≡ take (answer_size * (i + 1)) b ++ answers_bytes (replies_of e l)
  unfolding replies_of answers_bytes
  next-answers a b i h w =
      let x = answer_bytes (step_reply d c) in
      let p = take (answer_size * i) a in
      let rest = drop (answer_size * i + answer_size) a in
      let n : length (p ++ x) ≡ answer_size * (i + 1) =
      length-append p x ∙ omega (arith, length-take-le (answer_size * i) a (omega arith), length-answer (step_reply d c))
      in
      let t : take (answer_size * (i + 1)) b ≡ p ++ x =
      ap (λ (z : List ℕ). take (answer_size * (i + 1)) z) (w ∙ sym (append_assoc p x rest)) ∙ take_at (p ++ x) rest (answer_size * (i + 1)) n
      in
      rw (t, same) (sym (append_assoc p x (answers_bytes (replies_of (step_ranges d c) l))))

-- ---- all of them

-- the steps s applied to the ranges r: i of them are done, which left the ranges d and the answers a; what is known to stay sound does so
pub record Under (known : Bool) (r : Ranges) (s : List ℕ) (d : Ranges) (a : List ℕ) (i : ℕ) : Type 0 where
  pub within : i ≤ length s / step_size
  pub room : length a ≡ answer_size * (length s / step_size)
  pub ranges : last_ranges r (steps_in s) ≡ last_ranges d (steps_from s (length s / step_size - i) i)
  pub answers : answers_bytes (replies_of r (steps_in s)) ≡ take (answer_size * i) a ++ answers_bytes (replies_of d (steps_from s (length s / step_size - i) i))
  pub given : AllGiven (steps_from s (length s / step_size - i) i) → AllGiven (steps_in s)
  pub fits : AllFit (replies_of d (steps_from s (length s / step_size - i) i)) → AllFit (replies_of r (steps_in s))
  pub stays : known ≡ true → StaysSound d

module _ (known : Bool) (r : Ranges) (s : List ℕ) where
  abbrev count : ℕ
  count = length s / step_size

  pub under-begins : (a : List ℕ) → (known ≡ true → StaysSound r) → length a ≡ answer_size * count → Under known r s r a 0
  unfolding steps_in
  under-begins a h n =
      let z : count - 0 ≡ count = omega arith in
      record { within = omega arith; room = n; ranges = rw z; answers = rw z; given = rw z (λ k. k); fits = rw z (λ k. k); stays = h }

  module _ (d : Ranges) (a : List ℕ) (i : ℕ) (u : Under known r s d a i) where
    pub under-turns : (e : Ranges) (b : List ℕ) → i < count → Turned d (step_at s (step_size * i)) a (answer_size * i) e b → Under known r s e b (i + 1)
    unfolding steps_from
    under-turns e b h t =
        let c = step_at s (step_size * i) in
        let l = steps_from s (count - (i + 1)) (i + 1) in
        let k : count - i ≡ suc (count - (i + 1)) = omega arith in
        let same : e ≡ step_ranges d c = same-ranges e (step_ranges d c) t.list t.books t.queues in
        let fit : answer_size * i + answer_size ≤ length a = omega (arith, u.room) in
        record {
          within = omega arith;
          room = ap length t.answers ∙ length-answered a (answer_size * i) (step_reply d c) fit ∙ u.room;
          ranges = rw k at u.ranges ∙ next-ranges d e c l same;
          answers = rw k at u.answers ∙ next-answers d e c l same a b i fit t.answers;
          given = λ g. (rw k at u.given) (given-first c l t.given g);
          fits = λ f. (rw k at u.fits) (next_fits d e c l same t.fits f);
          stays = λ k. stays_after d c e same t.given (u.stays k);
        }

    pub under-ends : count ≤ i → Turns r s d a
    unfolding steps_from last_ranges replies_of answers_bytes
    under-ends h =
        let z : count - i ≡ 0 = omega arith in
        let e : last_ranges r (steps_in s) ≡ d = rw z at u.ranges in
        let n : length a ≤ answer_size * i = omega (arith, u.room) in
        record {
          list = ap (λ (x : Ranges). x.list) (sym e);
          books = ap (λ (x : Ranges). x.books) (sym e);
          queues = ap (λ (x : Ranges). x.queues) (sym e);
          answers = sym ((rw z at u.answers) ∙ append-nil (take (answer_size * i) a) ∙ take_all (answer_size * i) a n);
          given = (rw z at u.given) (λ c k. absurd (in-nil k));
          fits = (rw z at u.fits) (λ x k. absurd (in-nil k));
        }
