-- The bytes that are stored, and those of the digits that are left, are the bytes of all digits.
use lib.ListN.{length, drop}
use Rattle.test_script.specs.ParseParts.{unhexed}
use Rattle.test_script.proofs.ParseLaws.{Halfway}
use Rattle.test_script.proofs.parse.unhex.Given as goal

abbrev pub invariant-loop-n : goal.invariant-loop-n
invariant-loop-n l = Halfway (unhexed (length l.initial.bytes) (drop l.from l.line)) l.initial.bytes l.bytes l.n l.rest
