-- `dvs::messages::dvs_read` meets its contract: 4 for a record of another length, else what reading into it gave.
use Rattle.dvs.proofs.MessageLaws.{reads-unsized, reads-call}
use Rattle.dvs.proofs.messages.dvs_read.Goals as goal

pub returns-then-message-ne-RECORD : goal.returns-then-message-ne-RECORD
returns-then-message-ne-RECORD c = reads-unsized _ _ _ c.if-message-ne-RECORD.true c.refused.ensures

pub returns : goal.returns
returns c = reads-call _ _ _ _ _ c.if-message-ne-RECORD.false c.read.ensures c.code.ensures
