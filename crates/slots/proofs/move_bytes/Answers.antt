-- `slots::move_bytes` meets its contract: after i turns i bytes have gone, and what a turn reads no turn has overwritten.
use Rattle.std.proofs.Common.{arith, drop}
use lib.Seq.{paste-zero}
use Rattle.slots.proofs.CodeLaws.{move-turn}
use Rattle.slots.proofs.move_bytes.Goals as goal

pub loop-i-init : goal.loop-i-init
loop-i-init c = let a = c.args in paste-zero a.b.now a.to (drop a.from a.b.now)

pub loop-i-preserved : goal.loop-i-preserved
loop-i-preserved c =
    let a = c.args in
    let r = c.requires in
    rw c.loop-i.invariant (move-turn a.b.now a.from a.to a.n c.loop-i.i r.0 r.1 r.2 (omega arith))
