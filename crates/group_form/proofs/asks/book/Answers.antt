-- `group_form::asks::book` meets its contract.
use Rattle.group_form.proofs.AskLaws.{part-is}
use Rattle.group_form.proofs.asks.book.Goals as goal

pub returns-clause-is : goal.returns-clause-is
returns-clause-is c = part-is c.args.all.now c.args.p
