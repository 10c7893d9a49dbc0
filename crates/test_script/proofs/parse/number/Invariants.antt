-- The number so far, with the digits that are left behind it, is the number of the word.
use mathlib.Core.Path.{◌≡◌}
use lib.ListN.{drop}
use Rattle.test_script.specs.ParseParts.{word_number, number_from}
use Rattle.test_script.proofs.parse.number.Given as goal

abbrev pub invariant-loop-c : goal.invariant-loop-c
invariant-loop-c l = word_number l.line l.n ≡ number_from l.x (drop l.c-index l.c-items)
