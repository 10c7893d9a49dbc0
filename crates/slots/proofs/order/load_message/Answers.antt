-- `slots::order::load_message` meets its contract: a told has its count, any other message its number where the definition reads it.
use Rattle.std.proofs.Common.{◌+◌, arith}
use Rattle.slots.proofs.OrderCode.{told-loaded}
use Rattle.slots.proofs.order.load_message.Goals as goal

pub returns-then-kind-eq-TOLD : goal.returns-then-kind-eq-TOLD
returns-then-kind-eq-TOLD c = let a = c.args in told-loaded a.q.now a.c a.k c.if-kind-eq-TOLD.true (omega (arith, c.type_inv.q (a.c + 257 + a.k)))
