-- `wire::record::put_head` meets its contract: each part is stored just behind the bytes so far.
use native.Mathlib.Omega.{arith}
use Rattle.wire.proofs.RecordLaws.{head-stored}
use Rattle.wire.proofs.record.put_head.Goals as goal

pub returns : goal.returns
returns c = head-stored _ _ _ _ _ _ _ _ (omega arith) c.put_number.ensures c.put_number-2.ensures c.put_number-3.ensures
