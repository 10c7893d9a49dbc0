-- The buffer holds the first i views behind what stood before them, and its old bytes behind those.
use mathlib.Core.Path.{◌≡◌}
use Rattle.wire.proofs.SeamLaws.{stored}
use Rattle.wire.proofs.writer.store_views.Given as goal

abbrev pub invariant-loop-i : goal.invariant-loop-i
invariant-loop-i l = l.b ≡ stored l.initial.b l.from l.v-items l.i
