-- `dvs::messages::dvs_write` meets its contract: 4, 33, else what the writer gave.
use mathlib.Core.Path.{sym, ◌∙◌}
use borrow.Author.Tests.{not-true, not-false}
use Rattle.dvs.proofs.MessageLaws.{writes-unsized, writes-unmeasured, writes-unknown, writes-call}
use Rattle.dvs.proofs.messages.dvs_write.Goals as goal

pub returns-then-message-ne-RECORD : goal.returns-then-message-ne-RECORD
returns-then-message-ne-RECORD c = writes-unsized _ _ _ _ c.if-message-ne-RECORD.true c.refused.ensures

pub returns-then-length-ne-LENGTH : goal.returns-then-length-ne-LENGTH
returns-then-length-ne-LENGTH c = writes-unmeasured _ _ _ c.if-message-ne-RECORD.false _ c.if-length-ne-LENGTH.true c.refused-then-length-ne-LENGTH.ensures

pub returns-then-not-known : goal.returns-then-not-known
returns-then-not-known c =
    let early = c in
    writes-unknown _ _ _ early.if-message-ne-RECORD.false early.if-length-ne-LENGTH.false _ (sym c.known.ensures ∙ not-true _ c.if-not-known.true-raw) c.refused-then-not-known.ensures

pub write-requires : goal.write-requires
write-requires c = (c.if-message-ne-RECORD.false, sym c.known.ensures ∙ not-false _ c.if-not-known.false-raw)

pub returns : goal.returns
returns c =
    let early = c in
    writes-call _ _ _ early.if-message-ne-RECORD.false early.if-length-ne-LENGTH.false _ _ _ _ (sym early.known.ensures ∙ not-false _ early.if-not-known.false-raw) early.write.ensures c.measure.ensures
