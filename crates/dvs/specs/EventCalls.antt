-- What a call that lends a book and an event gives and leaves: x is the number given, b and e the book and the event
-- before it, b' and e' after it.
use Rattle.std.specs.Prelude.{◌≡◌, List, ℕ}
use Rattle.views.specs.Refusals.{Verdict, code_of, left}
use Rattle.rules.specs.Data.{Result}
use Rattle.rules.specs.Member.{Done}
use Rattle.events.specs.Replies.{reply_of, verdict_of, event_in}
use Rattle.c_answers.specs.Answers.{event_size, event_bytes, sized}

-- 4 for an event range of another length, then the call's own verdict
abbrev pub showing : Result Done → List ℕ → Verdict
showing result e = sized e event_size (verdict_of result)

-- `new` is what an accepted call leaves in the book
pub record Shows (result : Result Done) (new b b' e e' : List ℕ) (x : ℕ) : Type 0 where
  pub number : x ≡ code_of (showing result e)
  pub book : b' ≡ left (showing result e) new b
  pub event : e' ≡ left (showing result e) (event_bytes (event_in (reply_of result))) e
