-- `member::messages::packet::deliver` meets its contract. The invariant: what is done of the packet, and what is left of the book, lead to where the
-- whole packet leads.
use mathlib.Core.Path.{◌≡◌}
use Prim.Native.Nat.{◌-◌}
use lib.ListN.{length}
use Rattle.member.proofs.PacketLaws.{Underway}
use Rattle.member.proofs.messages.packet.deliver.Given as goal

abbrev pub invariant-loop-at : goal.invariant-loop-at
invariant-loop-at l = Underway l.initial.b l.bytes l.q.0 l.b l.at l.count × (length l.b ≡ length l.initial.b)

abbrev pub decreases-loop-at : goal.decreases-loop-at
decreases-loop-at l = length l.bytes - l.at
