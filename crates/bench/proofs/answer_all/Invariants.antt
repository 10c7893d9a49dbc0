-- Each line ends at or behind its start, and the next starts behind its end.
use mathlib.Core.Path.{◌≡◌}
use Prim.Native.Nat.{◌-◌, ◌≤◌}
use lib.ListN.{length}
use Rattle.group_bytes.specs.Groups.{ranges}
use Rattle.bench_session.specs.NextParts.{BenchStaysSound}
use Rattle.bench.proofs.answer_all.Given as goal

abbrev pub invariant-loop-at : goal.invariant-loop-at
invariant-loop-at g l =
    BenchStaysSound l.bench (ranges l.list l.all l.queues)
    × ((l.at ≤ length l.input) × (l.filled ≤ length l.out) × (length l.list ≡ length l.initial.list) × (length l.all ≡ length l.initial.all) × (length l.queues ≡ length l.initial.queues) × (length l.out ≡ length l.initial.out))

abbrev pub decreases-loop-at : goal.decreases-loop-at
decreases-loop-at g l =
    length l.input - l.at
