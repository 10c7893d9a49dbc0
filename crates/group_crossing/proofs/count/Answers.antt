-- `group_crossing::count` meets its contract: as many so far as the test picks below i.
use mathlib.Core.Path.{refl, sym, ap, ◌∙◌}
use native.Mathlib.Omega.{arith}
use lib.ListN.{length}
use Rattle.group_crossing.specs.QueryParts.{pick_at, ids_below}
use Rattle.group_crossing.proofs.QueryLaws.{count_few, ids-more, ids-same}
use Rattle.group_crossing.proofs.count.Goals as goal
use Rattle.group_crossing.proofs.count.Goals.{then-picks, else-picks}

pub loop-i-init : goal.loop-i-init
unfolding ids_below
loop-i-init c = refl

pub overflow_add-k : goal.overflow_add-k
overflow_add-k c = omega (arith, count_few c.args.list.now _ c.loop-i.i _ c.loop-i.invariant)

pub loop-i-preserved : goal.loop-i-preserved
loop-i-preserved c =
    let t = pick_at c.args.list.now c.args.marks c.args.hold c.args.set in
    elim c.if-picks.branch [
      | then-picks w ↦ omega (arith, w.k-is, c.loop-i.invariant, ap length (ids-more c.args.list.now t c.loop-i.i (sym c.picks.ensures ∙ w.if-picks.true)))
      | else-picks w ↦ omega (arith, w.k-is, c.loop-i.invariant, ap length (ids-same c.args.list.now t c.loop-i.i (sym c.picks.ensures ∙ w.if-picks.false)))
    ]
