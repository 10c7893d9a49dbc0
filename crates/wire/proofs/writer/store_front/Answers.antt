-- Each store stands just behind the bytes so far.
use native.Mathlib.Omega.{arith}
use Rattle.wire.proofs.WriterLaws.{front-stored}
use Rattle.wire.proofs.writer.store_front.Goals as goal

pub returns : goal.returns
returns c =
    let a = c.args in
    front-stored a.kind a.view.0 a.n _ a.b.now _ (omega arith) c.put_number.ensures (omega arith)
