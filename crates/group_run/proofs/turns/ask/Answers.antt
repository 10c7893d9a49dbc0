-- `group_run::turns::ask` meets its contract: what is read is the step in the record, with operands within their widths.
use Rattle.group_run.proofs.Turning.{asked-as-held}
use Rattle.group_run.proofs.turns.ask.Goals as goal

pub next-requires : goal.next-requires
next-requires c = c.requires.0

pub returns : goal.returns
returns c =
    let a = c.args in
    let first = c.get_number-first.ensures in
    let second = c.get_number-second.ensures in
    asked-as-held a.steps.now a.at _ _ first.0 second.0 first.1 second.1 _ _ _ c.next.ensures
