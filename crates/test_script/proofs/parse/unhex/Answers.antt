-- The bytes that are stored, and those of the digits that are left, are the bytes of all digits.
use native.Mathlib.Omega.{arith}
use Rattle.test_script.proofs.ParseLaws.{pair-first, half-turn, half-end, half-full, unhexed-short}
use Rattle.test_script.proofs.parse.unhex.Goals as goal

pub returns-in_default-clause-fronted : goal.returns-in_default-clause-fronted
returns-in_default-clause-fronted c = half-end _ c.args.bytes.now c.loop-n.bytes c.loop-n.rest.now c.loop-n.n (omega arith) c.loop-n.invariant (unhexed-short _ _ (omega arith))

pub loop-n-preserved : goal.loop-n-preserved
loop-n-preserved c = half-turn _ c.args.bytes.now c.loop-n.bytes c.loop-n.rest.now _ c.loop-n.n _ _ c.nibble.result c.nibble-in-loop-n.result c.loop-n.invariant (omega arith) (pair-first c.loop-n.rest.now (omega arith)) c.nibble.ensures.1 c.nibble-in-loop-n.ensures.1

pub returns-clause-fronted : goal.returns-clause-fronted
returns-clause-fronted c = half-full _ c.args.bytes.now c.loop-n.bytes c.loop-n.rest.now c.loop-n.n _ (omega arith) (omega arith) (omega arith) c.loop-n.invariant
