-- `slots::copy_info` meets its contract: sender, kind and count are stored, then the views are copied behind them.
use Rattle.std.proofs.Common.{arith, rules}
use Rattle.wire.specs.Widths.{AreBytes}
use Rattle.slots.proofs.CodeLaws.{info-copied}
use Rattle.slots.proofs.copy_info.Goals as goal

pub returns : goal.returns
returns c =
    let a = c.args in
    let r = c.requires in
    let bytes : AreBytes a.b.now = search rules in
    info-copied a.b.now a.at a.q.0 a.settled a.opens a.n bytes (omega arith) r.0 r.1 r.2 r.3 _ _
    c.move_bytes.ensures c.move_bytes-2.ensures
