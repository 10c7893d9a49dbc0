-- What step gives, and what it leaves in the three lent ranges: every byte of them.
use Rattle.std.specs.Prelude.{◌≡◌, ℕ}
use Rattle.rules.specs.Data.{Step}
use Rattle.events.specs.Replies.{Reply}
use Rattle.group_bytes.specs.Groups.{Ranges}
use Rattle.group_bytes.specs.Steps.{step_ranges, step_reply}

abbrev pub asked : ℕ → ℕ → ℕ → Step
asked kind first second = record { kind = kind; first = first; second = second }

-- the step c put to the ranges r gave the reply x and left the ranges d
pub record Went (r : Ranges) (c : Step) (d : Ranges) (x : Reply) : Type 0 where
  pub reply : x ≡ step_reply r c
  pub list : d.list ≡ (step_ranges r c).list
  pub books : d.books ≡ (step_ranges r c).books
  pub queues : d.queues ≡ (step_ranges r c).queues
