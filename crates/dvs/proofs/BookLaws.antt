-- From what the member's call gave to what the call gives here.
use mathlib.Core.Path.{◌≡◌, refl, ap, ◌∙◌}
use mathlib.Core.List.{List}
use Prim.Native.Nat.{ℕ}
use Rattle.views.specs.Refusals.{code_of, left}
use Rattle.rules.specs.Data.{Book as Ruled, Result, refused, accepted}
use Rattle.rules.specs.Member.{Done}
use Rattle.events.specs.Replies.{Reply, reply_of, verdict_of}
use Rattle.member.specs.Calls.{Gave, start_reply}
use Rattle.dvs.specs.BookCalls.{Gives}

-- a reply has the number of its result
pub reply-number : (result : Result Done) → code_of (reply_of result) ≡ code_of (verdict_of result)
reply-number (refused r) = refl
reply-number (accepted d) = refl

start-number : (result : Result Ruled) → code_of (start_reply result) ≡ code_of (verdict_of result)
start-number (refused r) = refl
start-number (accepted d) = refl

pub gives-call : (result : Result Done) (new b b' : List ℕ) (r : Reply) (x : ℕ) → Gave result new b b' r → x ≡ code_of r
    → Gives (verdict_of result) new b b' x
gives-call result new b b' r x h e =
    record { number = e ∙ ap code_of h.reply ∙ reply-number result; book = h.book }

pub gives-start : (result : Result Ruled) (new b b' : List ℕ) (r : Reply) (x : ℕ) → (r ≡ start_reply result) × (b' ≡ left (verdict_of result) new b) → x ≡ code_of r
    → Gives (verdict_of result) new b b' x
gives-start result new b b' r x h e =
    record { number = e ∙ ap code_of h.0 ∙ start-number result; book = h.1 }
