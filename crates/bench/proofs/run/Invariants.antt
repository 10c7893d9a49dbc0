-- What is held lies within the input, round after round.
use mathlib.Core.Path.{◌≡◌}
use Prim.Native.Nat.{◌≤◌}
use lib.ListN.{length}
use Rattle.group_bytes.specs.Groups.{ranges}
use Rattle.bench_session.specs.NextParts.{BenchStaysSound}
use Rattle.bench.proofs.run.Given as goal

abbrev pub invariant-loop : goal.invariant-loop
invariant-loop g l =
    BenchStaysSound l.bench (ranges l.list l.all l.queues)
    × ((l.held ≤ length l.input) × (length l.list ≡ length l.initial.list) × (length l.all ≡ length l.initial.all) × (length l.queues ≡ length l.initial.queues) × (length l.input ≡ length l.initial.input) × (length l.out ≡ length l.initial.out))
