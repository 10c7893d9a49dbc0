-- `group_sound::orders::heads` meets its contract: of the entries before the i-th it knows whether all fit, and where the last info stands.
use mathlib.Core.Path.{◌≡◌, refl, ap, ◌∙◌}
use native.Mathlib.Omega.{arith}
use Rattle.rules.specs.Member.{every}
use Rattle.group_sound.specs.OrderParts.{heads_fit, infos_within}
use Rattle.group_sound.proofs.OrderLaws.{every_more, faultless, worse, infos-info, infos-other, infos-few}
use Rattle.group_sound.proofs.orders.heads.Goals as goal
use Rattle.group_sound.proofs.orders.heads.Goals.{then-kind-eq-INFO, else-kind-eq-INFO}

pub loop-i-init : goal.loop-i-init
unfolding every infos_within
loop-i-init c = (refl, refl)

pub loop-i-preserved : goal.loop-i-preserved
loop-i-preserved c =
    let a = c.args in
    let l = c.loop-i in
    let fit = heads_fit a.n a.q.now a.c in
    let few = infos-few a.q.now a.c l.i in (
      c.max-worst.ensures ∙ rw (every_more fit l.i) (worse (every l.i fit) (fit l.i) _ _ l.invariant.0 c.fault-wrong.ensures),
      elim c.if-kind-eq-INFO.branch [
        | then-kind-eq-INFO w ↦ omega (arith, few, w.info-is, infos-info a.q.now a.c l.i w.if-kind-eq-INFO.true)
        | else-kind-eq-INFO w ↦ omega (arith, w.info-is, infos-other a.q.now a.c l.i w.if-kind-eq-INFO.false)
      ],
    )

pub returns : goal.returns
returns c =
    let a = c.args in
    let l = c.loop-i in
    let e : l.i ≡ a.count = omega arith in
    (faultless _ _ l.invariant.0 ∙ ap (λ k. every k (heads_fit a.n a.q.now a.c)) e, l.invariant.1 ∙ ap (infos_within a.q.now a.c) e)
