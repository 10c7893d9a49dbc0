-- The reply goes to the front of the buffer.
use native.Mathlib.Omega.{arith}
use Rattle.bench.proofs.PieceLaws.{said-within}
use Rattle.bench.proofs.finish.Goals as goal

pub send-requires : goal.send-requires
send-requires g c = said-within _ c.args.out.now _ 0 _ (omega arith) c.say-said.ensures
