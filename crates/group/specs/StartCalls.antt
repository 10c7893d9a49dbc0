-- What start gives, and what it leaves in the three lent ranges: every byte of them.
use Rattle.std.specs.Prelude.{◌≡◌, ℕ}
use Rattle.views.specs.Refusals.{Verdict, left}
use Rattle.events.specs.Replies.{verdict_of}
use Rattle.group_bytes.specs.Groups.{Ranges}
use Rattle.group_bytes.specs.Starts.{start_ranges}
use Rattle.group_bytes.specs.Steps.{start_result}

-- a start of the ranges r with n members and the first set S gave the verdict v and left the ranges d
pub record Began (r : Ranges) (n S : ℕ) (d : Ranges) (v : Verdict) : Type 0 where
  pub verdict : v ≡ verdict_of (start_result n S r)
  pub list : d.list ≡ (left (verdict_of (start_result n S r)) (start_ranges n S r) r).list
  pub books : d.books ≡ (left (verdict_of (start_result n S r)) (start_ranges n S r) r).books
  pub queues : d.queues ≡ (left (verdict_of (start_result n S r)) (start_ranges n S r) r).queues
