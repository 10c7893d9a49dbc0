-- `dvs::messages::dvs_read_front` meets its contract: 4 for a record or a length of another length, else what reading at the front gave.
use Rattle.dvs.proofs.MessageLaws.{front-unsized, front-unmeasured, front-call}
use Rattle.dvs.proofs.messages.dvs_read_front.Goals as goal

pub returns-then-message-ne-RECORD : goal.returns-then-message-ne-RECORD
returns-then-message-ne-RECORD c = let a = c.args in front-unsized a.bytes.now a.message.now a.length.now _ c.if-message-ne-RECORD.true c.refused.ensures

pub returns-then-length-ne-LENGTH : goal.returns-then-length-ne-LENGTH
returns-then-length-ne-LENGTH c =
    let a = c.args in front-unmeasured a.bytes.now a.message.now a.length.now c.if-message-ne-RECORD.false _ c.if-length-ne-LENGTH.true c.refused-then-length-ne-LENGTH.ensures

pub returns : goal.returns
returns c =
    let a = c.args in
    front-call a.bytes.now a.message.now a.length.now c.if-message-ne-RECORD.false _ _ _ _ c.if-length-ne-LENGTH.false c.read_front.ensures c.measure.ensures
