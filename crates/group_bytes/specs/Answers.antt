-- The answer of a group's step, as the code gives it.
use Rattle.std.specs.Prelude.{None, Ok, Err, Some}
use Rattle.rules.specs.Data.{Answer, ok, event, refusal, Result, refused, accepted}
use Rattle.rules.specs.Group.{Next}
use Rattle.events.specs.Replies.{Reply, outward_of, event_of}

-- a refusal gives its number only
abbrev pub answer_reply : Answer → Reply
answer_reply ok = Ok None
answer_reply (event e) = Ok (Some (outward_of e))
answer_reply (refusal r) = Err r

abbrev pub next_reply : Result Next → Reply
next_reply (refused r) = Err r
next_reply (accepted x) = Ok (event_of x.answer)
