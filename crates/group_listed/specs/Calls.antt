-- What the calls with a list of view records give and leave: as those with the list's bytes, of which the records are
-- the views.
use Rattle.std.specs.Prelude.{◌≡◌, List, ℕ, length}
use Rattle.views.specs.declared.View.{View}
use Rattle.views.specs.Refusals.{Verdict, left}
use Rattle.wire.specs.Format.{views_bytes}
use Rattle.wire.specs.Reader.{views_in}
use Rattle.rules.specs.Data.{Step}
use Rattle.events.specs.Replies.{Reply, verdict_of}
use Rattle.group_bytes.specs.Groups.{Ranges, ranges}
use Rattle.group_bytes.specs.Starts.{start_ranges}
use Rattle.group_bytes.specs.Steps.{start_result, step_ranges, step_reply}

-- the ranges that a list of records, the books and the queues are
abbrev pub ranges_of : List View → List ℕ → List ℕ → Ranges
ranges_of l books queues = ranges (views_bytes l) books queues

-- a start of the list l, the books b and the queues q with n members and the first set S gave the verdict v and left
-- the list k, the books d and the queues e
pub record Began (l : List View) (b q : List ℕ) (n S : ℕ) (k : List View) (d e : List ℕ) (v : Verdict) : Type 0 where
  pub verdict : v ≡ verdict_of (start_result n S (ranges_of l b q))
  pub list : k ≡ left v (views_in (start_ranges n S (ranges_of l b q)).list 0 (length l)) l
  pub books : d ≡ (left v (start_ranges n S (ranges_of l b q)) (ranges_of l b q)).books
  pub queues : e ≡ (left v (start_ranges n S (ranges_of l b q)) (ranges_of l b q)).queues

-- the step c put to them gave the reply x and left the list k, the books d and the queues e
pub record Went (l : List View) (b q : List ℕ) (c : Step) (k : List View) (d e : List ℕ) (x : Reply) : Type 0 where
  pub reply : x ≡ step_reply (ranges_of l b q) c
  pub list : k ≡ left x (views_in (step_ranges (ranges_of l b q) c).list 0 (length l)) l
  pub books : d ≡ (step_ranges (ranges_of l b q) c).books
  pub queues : e ≡ (step_ranges (ranges_of l b q) c).queues
