-- The line's operands fill a record.
use Rattle.test_group.proofs.desk.put.Goals as goal

pub returns : goal.returns
returns c = rw (c.upto-i.ensures, c.identifier.ensures, c.byte.ensures)
