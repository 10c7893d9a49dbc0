-- The line's operand says how many records are lent.
use Rattle.test_group.proofs.desk.lend.Goals as goal

pub returns : goal.returns
returns c = rw c.upto.ensures
