-- `group::step::set` meets its contract.
use mathlib.Core.Path.{sym}
use Rattle.c_answers.proofs.AnswerLaws.{narrowed-large, narrowed-small}
use Rattle.group.proofs.step.set.Goals as goal

pub returns-then-x-ge-BYTES : goal.returns-then-x-ge-BYTES
returns-then-x-ge-BYTES c = sym (narrowed-large 0 c.args.x c.if-x-ge-BYTES.true)

pub returns-else-x-ge-BYTES : goal.returns-else-x-ge-BYTES
returns-else-x-ge-BYTES c = sym (narrowed-small 0 c.args.x c.if-x-ge-BYTES.false)
