-- `slots::move_bytes` meets its contract: after i turns i bytes have gone, and what a turn reads no turn has overwritten.
use Rattle.std.proofs.Common.{◌≡◌}
use Rattle.slots.specs.Changes.{moved}
use Rattle.slots.proofs.move_bytes.Given as goal

abbrev pub invariant-loop-i : goal.invariant-loop-i
invariant-loop-i l = l.b ≡ moved l.initial.b l.from l.to l.i
