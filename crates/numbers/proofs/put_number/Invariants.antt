-- `numbers::put_number` meets its contract: the bytes from i on are stored, and a store of the rest below them is the whole store.
use Rattle.std.proofs.Common.{◌≡◌}
use Rattle.numbers.specs.Number.{put}
use Rattle.numbers.proofs.put_number.Given as goal

abbrev pub invariant-loop-i : goal.invariant-loop-i
invariant-loop-i l = put l.initial.b l.at l.width l.x ≡ put l.b l.at l.i l.rest
