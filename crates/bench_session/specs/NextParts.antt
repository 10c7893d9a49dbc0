-- Lines given to a bench one after another, on ranges that nothing else changes between them: 4 is never checked again.
use Rattle.std.specs.Prelude.{◌≡◌, true, List, ℕ}
use Rattle.group_bytes.specs.Groups.{Ranges}
use Rattle.group.specs.StaysSoundParts.{StaysSound}
use Rattle.bench_session.specs.Showing.{Hears}
use Rattle.bench_session.specs.declared.showing.Bench.{Bench}
use Rattle.bench_session.specs.declared.showing.Heard.{Heard}

-- the group that is running, if there is one, stays sound whatever steps are applied to it: so it is before the first
-- line, since no group is running
abbrev pub BenchStaysSound : Bench → Ranges → Type 0
BenchStaysSound b r = b.running ≡ true → StaysSound r

-- the line s, given to the bench b with the ranges r, gave x and left the ranges d; and so it is after the line
pub record HearsNext (b : Bench) (r : Ranges) (s : List ℕ) (d : Ranges) (x : Heard) : Type 0 where
  pub hears : Hears b r s d x
  pub stays : BenchStaysSound x.bench d
