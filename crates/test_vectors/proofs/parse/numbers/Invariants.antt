-- The numbers read so far, with those of the bytes that are left, are the numbers of all bytes.
use lib.ListN.{drop}
use Rattle.test_vectors.proofs.LineLaws.{Halfway}
use Rattle.test_vectors.proofs.parse.numbers.Given as goal

abbrev pub invariant-loop-i : goal.invariant-loop-i
invariant-loop-i l = Halfway (drop l.from l.line) l.line l.initial.xs l.xs l.n l.i
