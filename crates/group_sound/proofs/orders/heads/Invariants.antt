-- `group_sound::orders::heads` meets its contract: of the entries before the i-th it knows whether all fit, and where the last info stands.
use mathlib.Core.Path.{◌≡◌}
use Rattle.rules.specs.Member.{every}
use Rattle.group_sound.specs.OrderParts.{heads_fit, infos_within}
use Rattle.group_sound.proofs.OrderLaws.{fault_of}
use Rattle.group_sound.proofs.orders.heads.Given as goal

abbrev pub invariant-loop-i : goal.invariant-loop-i
invariant-loop-i l = (l.worst ≡ fault_of (every l.i (heads_fit l.n l.q l.c))) × (l.infos ≡ infos_within l.q l.c l.i)
