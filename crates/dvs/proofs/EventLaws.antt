-- From what the member's call gave, and the event stored, to what the call gives here.
use mathlib.Core.Path.{◌≡◌, refl, ap, ◌∙◌}
use mathlib.Core.List.{List}
use Prim.Native.Nat.{ℕ}
use lib.ListN.{length}
use Rattle.views.specs.Refusals.{code_of, left}
use Rattle.rules.specs.Data.{Result, refused, accepted}
use Rattle.rules.specs.Member.{Done}
use Rattle.events.specs.Replies.{Reply, reply_of, verdict_of, event_in}
use Rattle.member.specs.Calls.{Gave}
use Rattle.c_answers.specs.Answers.{event_size, event_bytes, given_bytes}
use Rattle.c_answers.proofs.AnswerLaws.{sized-met, sized-unmet}
use Rattle.dvs.specs.EventCalls.{Shows}
use Rattle.dvs.proofs.BookLaws.{reply-number}

-- an accepted call leaves its event
shown-left : (result : Result Done) (e : List ℕ)
    → given_bytes event_bytes (reply_of result) e ≡ left (verdict_of result) (event_bytes (event_in (reply_of result))) e
unfolding left
shown-left (refused r) e = refl
shown-left (accepted d) e = refl

pub shows-unsized : (result : Result Done) (new b e : List ℕ) (x : ℕ) → (length e ≡ event_size → ⊥) → x ≡ 4 → Shows result new b b e e x
unfolding left
shows-unsized result new b e x h k =
    let v = sized-unmet e event_size (verdict_of result) h in
    record { number = rw v k; book = rw v; event = rw v }

pub shows-call : (result : Result Done) (new b b' e e' : List ℕ) (r : Reply) (x : ℕ) → length e ≡ event_size → Gave result new b b' r
    → (x ≡ code_of r) × (e' ≡ given_bytes event_bytes r e) → Shows result new b b' e e' x
shows-call result new b b' e e' r x n h k =
    let v = sized-met e event_size (verdict_of result) n in
    let number : x ≡ code_of (verdict_of result) = k.0 ∙ ap code_of h.reply ∙ reply-number result in
    let event : e' ≡ left (verdict_of result) (event_bytes (event_in (reply_of result))) e
    = k.1 ∙ ap (λ (y : Reply). given_bytes event_bytes y e) h.reply ∙ shown-left result e in
    record { number = rw v number; book = rw v h.book; event = rw v event }
