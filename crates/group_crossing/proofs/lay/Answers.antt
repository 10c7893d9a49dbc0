-- `group_crossing::lay` meets its contract: storing what is left to store gives what storing all from the start gives.
use mathlib.Core.Path.{◌≡◌, sym, ◌∙◌}
use native.Mathlib.Omega.{arith}
use lib.ListN.{length}
use Rattle.numbers.specs.Number.{put}
use Rattle.group_crossing.specs.QueryParts.{pick_at}
use Rattle.group_crossing.proofs.QueryLaws.{ids_on, room_here, store_turn, store_end}
use Rattle.group_crossing.proofs.lay.Goals as goal

pub put_number-requires : goal.put_number-requires
put_number-requires c =
    omega (arith, room_here c.args.list.now _ c.loop-i.i c.loop-i.at (length c.loop-i.out) (omega arith) (sym c.picks.ensures ∙ c.if-picks.true) c.loop-i.invariant.room)

pub loop-i-preserved-then-picks : goal.loop-i-preserved-then-picks
loop-i-preserved-then-picks c =
    let picked = sym c.picks.ensures ∙ c.if-picks.true in
    let stored : c.put_number.new.b ≡ put c.loop-i.out c.loop-i.at 4 c.get_number-id.result = c.put_number.ensures in
    record {
      room = room_here c.args.list.now _ c.loop-i.i c.loop-i.at (length c.put_number.new.b) (omega arith) picked (omega (arith, c.loop-i.invariant.room));
      stored = rw (stored, c.get_number-id.ensures.0) (store_turn c.args.list.now _ c.loop-i.i c.loop-i.at c.loop-i.out _ (omega arith) picked c.loop-i.invariant.stored);
    }

pub loop-i-preserved : goal.loop-i-preserved
loop-i-preserved c = rw (← ids_on c.args.list.now _ c.loop-i.i (omega arith) (sym c.picks.ensures ∙ c.if-picks.false)) c.loop-i.invariant

pub returns : goal.returns
returns c =
    let t = pick_at c.args.list.now c.args.marks c.args.hold c.args.set in
    let end : c.loop-i.i ≡ 0 = omega arith in
    sym (store_end c.args.list.now t c.loop-i.at c.loop-i.out) ∙ rw end at c.loop-i.invariant.stored
