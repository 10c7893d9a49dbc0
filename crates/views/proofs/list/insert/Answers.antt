-- `views::list::insert` meets its contract: the places hold what is put together of the views gone through and, once a view that is not below v was
-- met, of v; what is left comes after.
use Rattle.std.proofs.Common.{◌≡◌, ◌+◌, ◌<◌, ◌≤◌, true, cond, [], ◌∷◌, get_or, take, drop, drop_of_length-le, sym, arith}
use Rattle.std.proofs.lemmas.List.{length-take}
use mathlib.Core.Bool.{true≢false}
use Rattle.views.specs.declared.View.{View}
use Rattle.views.specs.Lists.{insert_of, list_of, no_view}
use Rattle.views.proofs.OrderLaws.{lt-holds, lt-fails, le-holds, le-fails}
use Rattle.views.proofs.PlaceLaws.{Filling, filling-start, filling-more, filling-full, filling_skip, filling-end, take-used, drop_here}
use Rattle.views.proofs.WalkLaws.{insert-on, insert-same, insert-here}
use Rattle.views.proofs.list.insert.Goals.{then-ahead+then-le+then-lt, then-ahead+then-le+else-lt, else-ahead}
use Rattle.views.proofs.list.insert.Goals.{else-ahead-via-then-ahead+else-le, else-ahead-via-else-ahead}
use Rattle.views.proofs.list.insert.Goals.{then-k-lt-VIEWS, else-k-lt-VIEWS, then-k-lt-VIEWS-2, else-k-lt-VIEWS-2}
use Rattle.views.proofs.list.insert.Goals as goal

pub loop-w-init : goal.loop-w-init
loop-w-init c = (omega arith, λ e. omega arith, filling-start (insert_of c.args.v (take c.used.result c.args.list.at)))

pub loop-w-preserved : goal.loop-w-preserved
loop-w-preserved c =
    let l = c.loop-w in
    let i = l.w-index in
    let v = c.args.v in
    let views = take c.used.result c.args.list.at in
    let whole = insert_of v views in
    let w = get_or views i no_view in
    let rest = drop (i + 1) views in
    let front : drop i views ≡ w ∷ rest = drop_here views i (omega arith) in
    let few : i < 32 = omega (arith, length-take {A = View}) in
    -- before w is put in its place, v is in its own where w is the first that is not below it
    let ahead = c.if-ahead.ahead in
    let k = c.if-ahead.k in
    let at = c.if-ahead.at in
    let behind = cond ahead (insert_of v rest) rest in
    let ready : (k ≤ i + 1) × (ahead ≡ true → k ≤ i) × Filling whole (w ∷ behind) at k = elim c.if-ahead.branch [
      | then-ahead+then-le+then-lt u ↦
          let e : cond l.ahead (insert_of v (drop i views)) (drop i views) ≡ v ∷ w ∷ rest =
          rw (u.if-ahead.true, front, insert-here v w rest (lt-holds _ _ u.lt.ensures u.if-lt.true)) in
          rw (u.at-is, u.k-is, u.ahead-is) (
            omega (arith, l.invariant.1 u.if-ahead.true),
            λ x. absurd (true≢false (sym x)),
            filling-more whole (w ∷ rest) l.at l.k v (filling_skip whole _ _ l.at l.k e l.invariant.2) (omega (arith, l.invariant.1 u.if-ahead.true)),
          )
      | then-ahead+then-le+else-lt u ↦
          let e : cond l.ahead (insert_of v (drop i views)) (drop i views) ≡ w ∷ rest =
          rw (
            u.if-ahead.true,
            front,
            insert-same v w rest
                (omega (arith, le-holds v.id.0 w.id.0 u.le.ensures u.if-le.true, lt-fails v.id.0 w.id.0 u.lt.ensures u.if-lt.false)),
          ) in
          rw (u.at-is, u.k-is, u.ahead-is) (omega arith, λ x. absurd (true≢false (sym x)), filling_skip whole _ _ l.at l.k e l.invariant.2)
      | else-ahead t ↦ elim t.else-ahead.branch [
        | else-ahead-via-then-ahead+else-le u ↦
            let e : cond l.ahead (insert_of v (drop i views)) (drop i views) ≡ w ∷ insert_of v rest =
            rw (u.if-ahead.true, front, insert-on v w rest (le-fails _ _ u.le.ensures u.if-le.false)) in
            rw (t.at-is, t.k-is, t.ahead-is) (omega arith, l.invariant.1, rw u.if-ahead.true (filling_skip whole _ _ l.at l.k e l.invariant.2))
        | else-ahead-via-else-ahead u ↦
            let e : cond l.ahead (insert_of v (drop i views)) (drop i views) ≡ w ∷ rest = rw (u.if-ahead.false, front) in
            rw (t.at-is, t.k-is, t.ahead-is) (omega arith, l.invariant.1, rw u.if-ahead.false (filling_skip whole _ _ l.at l.k e l.invariant.2))
      ]
    ] in (
      omega (arith, ready.0),
      λ x. omega (arith, ready.1 x),
      elim c.if-k-lt-VIEWS.branch [
        | then-k-lt-VIEWS u ↦ rw u.at-is (filling-more whole behind at k w ready.2 u.if-k-lt-VIEWS.true)
        | else-k-lt-VIEWS u ↦ rw u.at-is (filling-full whole behind at k w ready.2 u.if-k-lt-VIEWS.false)
      ],
    )

pub returns-after-k-lt-VIEWS-2 : goal.returns-after-k-lt-VIEWS-2
unfolding insert_of
returns-after-k-lt-VIEWS-2 c =
    let l = c.loop-w in
    let v = c.args.v in
    let list = c.args.list in
    let views = take c.used.result list.at in
    let whole = insert_of v views in
    let same : views ≡ list_of list = rw c.used.ensures (take-used list.count list.at (omega arith)) in
    let none : drop l.w-index views ≡ [] = drop_of_length-le views {i = l.w-index} (omega arith) in
    let e : cond l.ahead (insert_of v (drop l.w-index views)) (drop l.w-index views) ≡ v ∷ [] = rw (c.if-ahead-2.true, none) in
    let f = filling_skip whole _ (v ∷ []) l.at l.k e l.invariant.2 in
    rw (← same)
    (elim c.if-k-lt-VIEWS-2.branch [
      | then-k-lt-VIEWS-2 u ↦ rw u.at-is (filling-end whole _ (l.k + 1) (filling-more whole [] l.at l.k v f u.if-k-lt-VIEWS-2.true))
      | else-k-lt-VIEWS-2 u ↦ rw u.at-is (filling-end whole _ (l.k + 1) (filling-full whole [] l.at l.k v f u.if-k-lt-VIEWS-2.false))
    ])

pub returns-else-ahead-2 : goal.returns-else-ahead-2
returns-else-ahead-2 c =
    let l = c.loop-w in
    let v = c.args.v in
    let list = c.args.list in
    let views = take c.used.result list.at in
    let same : views ≡ list_of list = rw c.used.ensures (take-used list.count list.at (omega arith)) in
    let none : drop l.w-index views ≡ [] = drop_of_length-le views {i = l.w-index} (omega arith) in
    let e : cond l.ahead (insert_of v (drop l.w-index views)) (drop l.w-index views) ≡ [] = rw (c.if-ahead-2.false, none) in
    rw (← same) (filling-end (insert_of v views) l.at l.k (filling_skip _ _ _ l.at l.k e l.invariant.2))
