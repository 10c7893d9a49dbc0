-- `views::list::prune` meets its contract: the places hold what is above the identifier of the views gone through, and what is left comes after.
use Rattle.std.proofs.Common.{◌≡◌, ◌<◌, [], length, get_or, take, drop, drop_of_length-le, ap, arith}
use Rattle.std.proofs.lemmas.List.{length-take}
use Rattle.views.specs.declared.View.{View}
use Rattle.views.specs.Lists.{above_of, list_of, no_view}
use Rattle.views.proofs.OrderLaws.{lt-holds, lt-fails}
use Rattle.views.proofs.PlaceLaws.{filling-start, filling-more, filling_skip, filling-end, take-used}
use Rattle.views.proofs.WalkLaws.{above-here, above_on}
use Rattle.views.proofs.list.prune.Goals.{then-lt, else-lt}
use Rattle.views.proofs.list.prune.Goals as goal

pub loop-v-init : goal.loop-v-init
loop-v-init c = (omega arith, filling-start (above_of c.args.floor.0 (take c.used.result c.args.list.at)))

pub loop-v-preserved : goal.loop-v-preserved
loop-v-preserved c =
    let l = c.loop-v in
    let i = l.v-index in
    let g = c.args.floor.0 in
    let views = take c.used.result c.args.list.at in
    let more : i < length views = omega arith in
    let v = get_or views i no_view in
    elim c.if-lt.branch [
      | then-lt w ↦
          rw (w.at-is, w.k-is) (
            omega arith,
            filling-more (above_of g views) _ l.at l.k v
                (filling_skip _ _ _ l.at l.k (above-here views i more g (lt-holds _ _ c.lt.ensures w.if-lt.true)) l.invariant.1)
                (omega (arith, length-take {A = View})),
          )
      | else-lt w ↦
          rw (w.at-is, w.k-is) (omega arith, filling_skip _ _ _ l.at l.k (above_on views i more g (lt-fails _ _ c.lt.ensures w.if-lt.false)) l.invariant.1)
    ]

pub returns : goal.returns
unfolding above_of
returns c =
    let l = c.loop-v in
    let list = c.args.list in
    let g = c.args.floor.0 in
    let views = take c.used.result list.at in
    let whole : views ≡ list_of list = rw c.used.ensures (take-used list.count list.at (omega arith)) in
    let none : above_of g (drop l.v-index views) ≡ [] = ap (above_of g) (drop_of_length-le views {i = l.v-index} (omega arith)) in
    rw (← whole) (filling-end (above_of g views) l.at l.k (filling_skip _ _ _ l.at l.k none l.invariant.1))
