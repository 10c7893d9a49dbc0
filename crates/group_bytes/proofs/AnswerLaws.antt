-- A step of the member alone answers in the group what it answers of the book.
use mathlib.Core.Path.{◌≡◌, refl}
use Rattle.rules.specs.Data.{Member, Group, Result, refused, accepted, after}
use Rattle.rules.specs.Member.{Done}
use Rattle.rules.specs.Group.{own}
use Rattle.events.specs.Replies.{reply_of, verdict_of}
use Rattle.group_bytes.specs.Answers.{next_reply}

pub own-reply : (s : Group) (p : Member) (x : Result Done) → next_reply (own s p x) ≡ reply_of x
unfolding own after
own-reply s p (refused f) = refl
own-reply s p (accepted d) = refl

pub own-verdict : (s : Group) (p : Member) (x : Result Done) → verdict_of (own s p x) ≡ verdict_of x
unfolding own after
own-verdict s p (refused f) = refl
own-verdict s p (accepted d) = refl
