-- The word and the numbers so far stand at the front.
use mathlib.Core.Path.{◌≡◌}
use Prim.Native.Nat.{◌+◌, ◌*◌, ◌≤◌}
use lib.ListN.{length}
use Rattle.wire.specs.Writer.{overwritten}
use Rattle.bench_lines.proofs.SpokenLaws.{said_so_far}
use Rattle.bench_lines.proofs.replies.text.put_spoken.Given as goal

abbrev pub invariant-loop-x : goal.invariant-loop-x
invariant-loop-x l = (l.at ≤ 8 + 21 * l.x-index) × (l.at ≡ length (said_so_far l.word l.numbers l.x-index)) × (l.text ≡ overwritten (said_so_far l.word l.numbers l.x-index) l.initial.text)
