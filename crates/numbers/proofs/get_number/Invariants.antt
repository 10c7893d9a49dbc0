-- `numbers::get_number` meets its contract: x is the number in the bytes read so far.
use Rattle.std.proofs.Common.{◌≡◌, ◌^◌, ◌<◌}
use Rattle.numbers.specs.Number.{get}
use Rattle.numbers.proofs.get_number.Given as goal

abbrev pub invariant-loop-byte : goal.invariant-loop-byte
invariant-loop-byte l = (l.x ≡ get l.b l.at l.byte-index) × (l.x < 256 ^ l.byte-index)
