-- `group_sound::listed::views_known` meets its contract: the views before the i-th stand before place j of the list, so the answer is that of the rest of
-- both.
use mathlib.Core.Path.{◌≡◌, sym, ap, ◌∙◌}
use mathlib.Core.Logic.{⊎_elim}
use Prim.Native.Nat.{◌+◌, ◌<◌}
use native.Mathlib.Omega.{arith}
use Rattle.views.specs.declared.View.{View}
use Rattle.views.specs.Lists.{id_of}
use Rattle.group_sound.proofs.ListedLaws.{one-view, all_known_from, walk_end, walk-past, walk_start, walk-skip, walk-stop, walk-on}
use Rattle.group_sound.proofs.listed.views_known.Goals as goal
use Rattle.group_sound.proofs.listed.views_known.Goals.{then-v-w+else-v-w-2+else-v-w-3, else-v-w}

pub load_view-first-requires : goal.load_view-first-requires
load_view-first-requires c = omega (arith, c.requires.1, c.requires.3)

pub place-j-requires : goal.place-j-requires
place-j-requires c = (c.requires.0, c.requires.2)

pub loop-i-init : goal.loop-i-init
loop-i-init c =
    let e = c in
    (omega arith, walk_start e.args.list.now e.args.made e.args.b.now e.args.from e.args.count e.requires.2 e.requires.3 _ c.load_view-first.ensures _ c.place-j.ensures)

pub returns-then-made-j : goal.returns-then-made-j
returns-then-made-j c =
    let e = c in
    let l = c.loop-i in
    sym (l.invariant.1 ∙ walk-past e.args.list.now e.args.made e.args.b.now e.args.from e.args.count l.j l.i (omega arith) (omega arith))

pub overflow_mul-i : goal.overflow_mul-i
overflow_mul-i c = omega (arith, c.requires.1)

pub overflow_add-from : goal.overflow_add-from
overflow_add-from c = omega (arith, c.requires.1)

pub load_view-v-requires : goal.load_view-v-requires
load_view-v-requires c = omega (arith, c.requires.1)

pub load_view-w-requires : goal.load_view-w-requires
load_view-w-requires c = omega (arith, c.requires.0)

pub returns-then-v-w-2 : goal.returns-then-v-w-2
returns-then-v-w-2 c =
    let a = c.args in
    let l = c.loop-i in
    let v = c.load_view-v in
    let w = c.load_view-w in
    let other : v.result ≡ w.result → ⊥ = λ e. ⊎_elim (λ h. h (ap id_of e)) (λ h. h.1 (ap (λ (x : View). x.set) e)) c.then-v-w-2.either in
    sym (l.invariant.1 ∙ walk-stop a.list.now a.made a.b.now a.from a.count l.j l.i (omega arith) (omega arith) c.requires.2 _ _ v.ensures w.ensures c.if-v-w.true other)

pub overflow_add-i : goal.overflow_add-i
overflow_add-i c = omega (arith, c.loop-i-test.true, c.ranges.count)

pub loop-i-preserved : goal.loop-i-preserved
loop-i-preserved c =
    let e = c in
    let l = c.loop-i in
    let known = all_known_from e.args.list.now e.args.made e.args.b.now e.args.from e.args.count (l.j + 1) in
    let room : l.j < e.args.made = c.if-made-j.false in
    let more : l.i < e.args.count = c.loop-i-test.true in
    let v = c.load_view-v in
    let w = c.load_view-w in
    elim c.if-v-w.branch [
      | then-v-w+else-v-w-2+else-v-w-3 x ↦
          (let next : c.if-v-w.i ≡ l.i + 1 = x.i-is in
          (omega (arith, next, more), l.invariant.1 ∙ walk-on e.args.list.now e.args.made e.args.b.now e.args.from e.args.count l.j l.i room more e.requires.2 _ _ v.ensures w.ensures (one-view _ _ x.if-v-w-2.false x.if-v-w-3.false) ∙ ap known (sym next)))
      | else-v-w x ↦
          (let same : c.if-v-w.i ≡ l.i = x.i-is in
          (omega (arith, same, more), l.invariant.1 ∙ walk-skip e.args.list.now e.args.made e.args.b.now e.args.from e.args.count l.j l.i room more e.requires.2 _ _ v.ensures w.ensures x.if-v-w.false ∙ ap known (sym same)))
    ]

pub returns : goal.returns
returns c =
    let e = c in
    let l = c.loop-i in
    sym (l.invariant.1 ∙ walk_end e.args.list.now e.args.made e.args.b.now e.args.from e.args.count l.j l.i (omega arith))
