-- What comes to a member of a group: the view it joins, the message it takes. What each gives is the group's rule of
-- the group that the ranges are.
use Rattle.std.specs.Prelude.{◌≡◌, List, ℕ, ltb}
use Rattle.views.specs.declared.refusal.Refusal.TheVariants.{NoSuchMember}
use Rattle.views.specs.Refusals.{left}
use Rattle.rules.specs.Data.{Identifier, Member, Result, need}
use Rattle.rules.specs.Group.{Next, join_step, deliver_step}
use Rattle.events.specs.Replies.{Reply, verdict_of}
use Rattle.group_bytes.specs.Groups.{Ranges, members_of, group_in}
use Rattle.group_bytes.specs.Moves.{view_at, join_ranges, deliver_ranges}
use Rattle.group_bytes.specs.Answers.{next_reply}

-- 6, then the rule
unfoldable pub joining : Ranges → Member → Identifier → Result Next
joining r p g = need (ltb p (members_of r)) NoSuchMember (join_step (group_in r) p g)

unfoldable pub delivering : Ranges → Member → Result Next
delivering r p = need (ltb p (members_of r)) NoSuchMember (deliver_step (group_in r) p)

-- ---- the reply x, and the books at exit

pub record Joined (r : Ranges) (p : Member) (g : Identifier) (books : List ℕ) (x : Reply) : Type 0 where
  pub reply : x ≡ next_reply (joining r p g)
  pub entered : books ≡ left (verdict_of (joining r p g)) (join_ranges r p (view_at r g)).books r.books

pub record Delivered (r : Ranges) (p : Member) (books : List ℕ) (x : Reply) : Type 0 where
  pub reply : x ≡ next_reply (delivering r p)
  pub taken : books ≡ left (verdict_of (delivering r p)) (deliver_ranges r p).books r.books
