-- The place so far, and what is left to pass, are the place of the word.
use mathlib.Core.Path.{◌≡◌}
use Prim.Native.Nat.{◌+◌}
use lib.ListN.{drop}
use Rattle.test_script.specs.ParseParts.{word_start}
use Rattle.test_script.proofs.parse.word.Given as goal

abbrev pub invariant-loop-i : goal.invariant-loop-i
invariant-loop-i l = word_start l.n l.line ≡ l.i + word_start l.left (drop l.i l.line)
