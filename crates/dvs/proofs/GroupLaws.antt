-- From what the group's start or step gave, and the event stored, to what the calls give here.
use mathlib.Core.Path.{◌≡◌, refl, ap, ◌∙◌}
use mathlib.Core.List.{List}
use Prim.Native.Nat.{ℕ}
use lib.ListN.{length}
use Rattle.views.specs.Refusals.{Verdict, code_of, left}
use Rattle.std.specs.Prelude.{Ok, Err}
use Rattle.rules.specs.Data.{Step, Result, refused, accepted}
use Rattle.rules.specs.Group.{Next}
use Rattle.events.specs.Replies.{Reply, verdict_of, event_in}
use Rattle.group_bytes.specs.Groups.{Ranges}
use Rattle.group_bytes.specs.Answers.{next_reply}
use Rattle.group_bytes.specs.Steps.{step_result, moved, step_ranges, step_reply}
use Rattle.group.specs.StartCalls.{Began}
use Rattle.group.specs.StepCalls.{Went}
use Rattle.c_answers.specs.Answers.{event_size, event_bytes, given_bytes}
use Rattle.c_answers.proofs.AnswerLaws.{sized-met, sized-unmet}
use Rattle.dvs.specs.GroupCalls.{Begins, Steps}

pub begins-call : (r d : Ranges) (n S : ℕ) (v : Verdict) (x : ℕ) → Began r n S d v → x ≡ code_of v → Begins r n S d x
begins-call r d n S v x h e = record { number = e ∙ ap code_of h.verdict; list = h.list; books = h.books; queues = h.queues }

pub steps-unsized : (r : Ranges) (c : Step) (e : List ℕ) (x : ℕ) → (length e ≡ event_size → ⊥) → x ≡ 4 → Steps r c r e e x
unfolding left
steps-unsized r c e x h k =
    let v = sized-unmet e event_size (step_reply r c) h in
    record { number = rw v k; list = rw v; books = rw v; queues = rw v; event = rw v }

-- a refused step leaves the ranges
ranges-left : (x : Result Next) (new old : Ranges) (f : Ranges → List ℕ)
    → f (left (verdict_of x) new old) ≡ left (next_reply x) (f (left (verdict_of x) new old)) (f old)
unfolding left
ranges-left (refused y) new old f = refl
ranges-left (accepted y) new old f = refl

pub step_left : (r : Ranges) (c : Step) (f : Ranges → List ℕ) → f (step_ranges r c) ≡ left (step_reply r c) (f (step_ranges r c)) (f r)
unfolding step_ranges step_reply
step_left r c f = ranges-left (step_result r c) (moved r c) r f

-- an accepted step leaves its event
shown-left : (y : Reply) (e : List ℕ) → given_bytes event_bytes y e ≡ left y (event_bytes (event_in y)) e
unfolding left
shown-left (Ok u) e = refl
shown-left (Err f) e = refl

pub steps-call : (r d : Ranges) (c : Step) (e e' : List ℕ) (y : Reply) (x : ℕ) → length e ≡ event_size → Went r c d y
    → (x ≡ code_of y) × (e' ≡ given_bytes event_bytes y e) → Steps r c d e e' x
steps-call r d c e e' y x n h k =
    let v = sized-met e event_size (step_reply r c) n in
    let number : x ≡ code_of (step_reply r c) = k.0 ∙ ap code_of h.reply in
    let event : e' ≡ left (step_reply r c) (event_bytes (event_in (step_reply r c))) e
    = k.1 ∙ ap (λ (z : Reply). given_bytes event_bytes z e) h.reply ∙ shown-left (step_reply r c) e in
    record {
      number = rw v number;
      list = rw v (h.list ∙ step_left r c (λ (z : Ranges). z.list));
      books = rw v (h.books ∙ step_left r c (λ (z : Ranges). z.books));
      queues = rw v (h.queues ∙ step_left r c (λ (z : Ranges). z.queues));
      event = rw v event;
    }
