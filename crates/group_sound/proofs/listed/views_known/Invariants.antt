-- `group_sound::listed::views_known` meets its contract: the views before the i-th stand before place j of the list, so the answer is that of the rest of
-- both.
use mathlib.Core.Path.{◌≡◌}
use Prim.Native.Nat.{◌-◌, ◌≤◌}
use Rattle.wire.specs.Reader.{views_in}
use Rattle.group_sound.specs.Parts.{views_known}
use Rattle.group_sound.proofs.ListedLaws.{all_known_from}
use Rattle.group_sound.proofs.listed.views_known.Given as goal

abbrev pub invariant-loop-i : goal.invariant-loop-i
invariant-loop-i l = (l.i ≤ l.count) × (views_known (views_in l.list 0 l.made) (views_in l.b l.from l.count) ≡ all_known_from l.list l.made l.b l.from l.count l.j l.i)

abbrev pub decreases-loop-i : goal.decreases-loop-i
decreases-loop-i l = l.made - l.j
