-- The carrier's steps on the three ranges: create, pass, order. What each gives is the group's rule of the group that
-- the ranges are.
use Rattle.std.specs.Prelude.{◌≡◌, Bool, List, ℕ, ltb}
use Rattle.views.specs.declared.View.{View}
use Rattle.views.specs.declared.refusal.Refusal.TheVariants.{NoSuchMember}
use Rattle.views.specs.Refusals.{Verdict, left}
use Rattle.views.specs.Lists.{id_of}
use Rattle.rules.specs.Data.{Identifier, Member, Result, need}
use Rattle.rules.specs.Member.{all}
use Rattle.rules.specs.Group.{Next, creates, pass_step, order_step}
use Rattle.events.specs.Replies.{verdict_of}
use Rattle.group_bytes.specs.Groups.{Ranges, members_of, group_in}
use Rattle.group_bytes.specs.Moves.{create_ranges, pass_ranges, order_ranges}

-- 6, then the rule
unfoldable pub by_member : Ranges → Member → Result Next → Result Next
by_member r p x = need (ltb p (members_of r)) NoSuchMember x

-- the identifier g is above that of every view
abbrev pub all_below : Identifier → List View → Bool
all_below g l = all (λ v. ltb (id_of v) g) l

abbrev pub creating : Ranges → Identifier → ℕ → Result Next
creating r g S = creates (group_in r) g S

abbrev pub passing : Ranges → Member → Result Next
passing r p = by_member r p (pass_step (group_in r) p)

abbrev pub ordering : Ranges → Member → Identifier → Result Next
ordering r p g = by_member r p (order_step (group_in r) p g)

-- ---- the verdict v, and the ranges at exit

pub record Created (r : Ranges) (g : Identifier) (S : ℕ) (list queues : List ℕ) (v : Verdict) : Type 0 where
  pub verdict : v ≡ verdict_of (creating r g S)
  pub made : list ≡ left (verdict_of (creating r g S)) (create_ranges r g S).list r.list
  pub cleared : queues ≡ left (verdict_of (creating r g S)) (create_ranges r g S).queues r.queues

pub record Passed (r : Ranges) (p : Member) (books queues : List ℕ) (v : Verdict) : Type 0 where
  pub verdict : v ≡ verdict_of (passing r p)
  pub gone : books ≡ left (verdict_of (passing r p)) (pass_ranges r p).books r.books
  pub added : queues ≡ left (verdict_of (passing r p)) (pass_ranges r p).queues r.queues

pub record Ordered (r : Ranges) (p : Member) (g : Identifier) (queues : List ℕ) (v : Verdict) : Type 0 where
  pub verdict : v ≡ verdict_of (ordering r p g)
  pub moved : queues ≡ left (verdict_of (ordering r p g)) (order_ranges r p g).queues r.queues
