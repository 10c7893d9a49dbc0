-- `group_sound::tables::table_sound` meets its contract: it asks the two parts in their order.
use native.Mathlib.Omega.{arith}
use Rattle.std.proofs.lemmas.Grind.{common_steps}
use Rattle.group_sound.specs.Parts.{table_sound}
use Rattle.group_sound.proofs.tables.table_sound.Goals as goal

pub returns-then-order_sound : goal.returns-then-order_sound
unfolding table_sound
returns-then-order_sound c = grind (arith, common_steps)

pub returns-else-order_sound : goal.returns-else-order_sound
unfolding table_sound
returns-else-order_sound c = grind (arith, common_steps)
