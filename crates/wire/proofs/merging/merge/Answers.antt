-- `merging::merge` meets its contract: the places hold what is above the identifier of both lists up to i and j, and that of what is left comes behind;
-- turns and the views left are as many as there are in both lists together.
use mathlib.Core.Path.{◌≡◌, ap, ap₂, ◌∙◌}
use mathlib.Core.List.{List, [], ◌∷◌}
use Prim.Native.Nat.{ℕ, ◌+◌, ◌≤◌}
use native.Mathlib.Omega.{arith}
use lib.ListN.{length, drop, drop_of_length-le}
use Rattle.std.proofs.Common.{Option, Some, None, slice_get}
use Rattle.views.specs.declared.View.{View}
use Rattle.views.specs.declared.list.Choice.{Choice}
use Rattle.views.specs.ChoiceParts.{choice_of}
use Rattle.views.specs.Lists.{union_of, above_of}
use Rattle.views.proofs.ListLaws.{length_union}
use Rattle.views.proofs.OrderLaws.{lt-holds, lt-fails}
use Rattle.views.proofs.PlaceLaws.{filling-start, filling-more, filling-full, filling_skip, filling-end}
use Rattle.views.proofs.WalkLaws.{above-cons, above-skip, Chosen, chosen}
use Rattle.wire.specs.Reader.{views_in}
use Rattle.wire.proofs.DifferentLaws.{union-different}
use Rattle.wire.proofs.ReaderLaws.{length-views_in}
use Rattle.wire.proofs.merging.merge.Goals.{then-lt, then-k-lt-VIEWS, else-k-lt-VIEWS, else-lt}
use Rattle.wire.proofs.merging.merge.Goals.{In-Some}
use Rattle.wire.proofs.merging.merge.Goals as goal

-- no more views are in both lists together than in one and the other
few-views : (b : List ℕ) (from n : ℕ) (c : List ℕ) (on m : ℕ) → length (union_of (views_in b from n) (views_in c on m)) ≤ n + m
few-views b from n c on m =
    omega (arith, length_union (views_in b from n) (views_in c on m), length-views_in b from n, length-views_in c on m)

-- what `choose` says of what the lists stand at: of a view that comes next, and of none
module _ (b : List ℕ) (from n : ℕ) (d : List ℕ) (on m i j : ℕ) (x y : Option View)
    (ex : x ≡ slice_get (views_in b from n) i) (ey : y ≡ slice_get (views_in d on m) j) (hi : i ≤ n) (hj : j ≤ m) where
  next : (r : Choice) → Some r ≡ choice_of x y → Chosen (views_in b from n) (views_in d on m) i j r
  next r e =
      chosen (views_in b from n) (views_in d on m) i j (Some r) (e ∙ ap₂ choice_of ex ey)
      (omega (arith, length-views_in b from n)) (omega (arith, length-views_in d on m))

  ends : None ≡ choice_of x y → (length (views_in b from n) ≤ i) × (length (views_in d on m) ≤ j)
  ends e =
      chosen (views_in b from n) (views_in d on m) i j None (e ∙ ap₂ choice_of ex ey)
      (omega (arith, length-views_in b from n)) (omega (arith, length-views_in d on m))

turn : (c : In-Some) → Chosen (views_in c.args.b.now c.args.from c.args.n) (views_in c.args.c.now c.args.on c.args.m) c.loop-next.i c.loop-next.j c.in-Some.next
turn c =
    next c.args.b.now c.args.from c.args.n c.args.c.now c.args.on c.args.m c.loop-next.i c.loop-next.j c.standing.result c.standing-in-loop-next.result
    c.standing.ensures c.standing-in-loop-next.ensures c.loop-next.invariant.0 c.loop-next.invariant.1 c.in-Some.next c.in-Some.ensures

pub loop-next-init : goal.loop-next-init
loop-next-init c = (omega arith, omega arith, omega arith, omega arith, filling-start _)

pub overflow_add-k : goal.overflow_add-k
overflow_add-k c =
    let a = c.args in
    let l = c.loop-next in
    omega (arith, l.invariant.2, l.invariant.3, few-views a.b.now a.from a.n a.c.now a.on a.m)

pub overflow_add-turns : goal.overflow_add-turns
overflow_add-turns c =
    let a = c.args in
    let l = c.loop-next in
    omega (arith, l.invariant.3, few-views a.b.now a.from a.n a.c.now a.on a.m)

pub overflow_add-i : goal.overflow_add-i
overflow_add-i c =
    let t = c in
    let h = turn (goal.at.overflow_add-i c).In-Some in
    omega (arith, h.0, length-views_in t.args.b.now t.args.from t.args.n)

pub overflow_add-j : goal.overflow_add-j
overflow_add-j c =
    let t = c in
    let h = turn (goal.at.overflow_add-j c).In-Some in
    omega (arith, h.1, t.requires.3, length-views_in t.args.c.now t.args.on t.args.m)

pub loop-next-smaller : goal.loop-next-smaller
loop-next-smaller c =
    let h = turn (goal.at.loop-next-smaller c).In-Some in
    omega (arith, h.0, h.1, h.2, length-views_in c.args.b.now c.args.from c.args.n, length-views_in c.args.c.now c.args.on c.args.m)

pub loop-next-preserved : goal.loop-next-preserved
loop-next-preserved c =
    let t = c in
    let a = t.args in
    let l = t.loop-next in
    let h = turn (goal.at.loop-next-preserved c).In-Some in
    let g = a.floor.0 in
    let v = t.in-Some.next.view in
    let whole = above_of g (union_of (views_in a.b.now a.from a.n) (views_in a.c.now a.on a.m)) in
    let rest = union_of (drop (l.i + t.in-Some.next.left) (views_in a.b.now a.from a.n)) (drop (l.j + t.in-Some.next.right) (views_in a.c.now a.on a.m)) in
    let turns : l.turns + 1 + length rest ≡ length (union_of (views_in a.b.now a.from a.n) (views_in a.c.now a.on a.m)) =
    omega (arith, l.invariant.3, ap length h.3) in
    let f = filling_skip whole _ (above_of g (v ∷ rest)) l.at l.k (ap (above_of g) h.3) l.invariant.4 in
    elim c.if-lt.branch [
      | then-lt w ↦ (
        omega (arith, h.0, length-views_in a.b.now a.from a.n),
        omega (arith, h.1, length-views_in a.c.now a.on a.m),
        omega (arith, w.k-is, l.invariant.2),
        turns,
        elim w.if-k-lt-VIEWS.branch [
          | then-k-lt-VIEWS u ↦
              rw (w.at-is, w.k-is, u.at-is)
              (filling-more whole _ l.at l.k v
              (filling_skip whole _ _ l.at l.k (above-cons g v rest (lt-holds _ _ c.lt.ensures w.if-lt.true)) f) u.if-k-lt-VIEWS.true)
          | else-k-lt-VIEWS u ↦
              rw (w.at-is, w.k-is, u.at-is)
              (filling-full whole _ l.at l.k v
              (filling_skip whole _ _ l.at l.k (above-cons g v rest (lt-holds _ _ c.lt.ensures w.if-lt.true)) f) u.if-k-lt-VIEWS.false)
        ],
      )
      | else-lt w ↦ (
        omega (arith, h.0, length-views_in a.b.now a.from a.n),
        omega (arith, h.1, length-views_in a.c.now a.on a.m),
        omega (arith, w.k-is, l.invariant.2),
        turns,
        rw (w.at-is, w.k-is) (filling_skip whole _ _ l.at l.k (above-skip g v rest (lt-fails _ _ c.lt.ensures w.if-lt.false)) f),
      )
    ]

pub returns : goal.returns
unfolding union_of above_of
returns c =
    let a = c.args in
    let l = c.loop-next in
    let first = views_in a.b.now a.from a.n in
    let second = views_in a.c.now a.on a.m in
    let here = ends a.b.now a.from a.n a.c.now a.on a.m l.i l.j c.standing.result c.standing-in-loop-next.result
    c.standing.ensures c.standing-in-loop-next.ensures l.invariant.0 l.invariant.1 c.in_default.ensures in
    let none : union_of (drop l.i first) (drop l.j second) ≡ [] =
    ap₂ union_of (drop_of_length-le first {i = l.i} here.0)
    (drop_of_length-le second {i = l.j} here.1) in
    let turns : l.turns ≡ length (union_of first second) = omega (arith, l.invariant.3, ap length none) in
    record {
      views = filling-end (above_of a.floor.0 (union_of first second)) l.at l.k (filling_skip _ _ _ l.at l.k (ap (above_of a.floor.0) none) l.invariant.4);
      turns = turns;
      different = λ p q. turns ∙ union-different first second p q;
    }
