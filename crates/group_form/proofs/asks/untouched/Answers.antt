-- `group_form::asks::untouched` meets its contract: the three questions in turn.
use mathlib.Core.Path.{◌≡◌, sym, ap, ◌∙◌}
use mathlib.Core.Bool.{true, true≢false}
use Prim.Native.Nat.{ℕ}
use borrow.Author.Tests.{eq-eqb, ne_eqb}
use lib.Dec.{eqb}
use lib.ListN.{get_or}
use Rattle.group_bytes.specs.Places.{order_at}
use Rattle.group_form.specs.Parts.{untouched_at}
use Rattle.group_form.proofs.asks.untouched.Goals as goal
use Rattle.group_form.proofs.asks.untouched.Goals.{then-queues-order_at-eq0, else-queues-order_at-eq0}

pub returns-then-none_wait : goal.returns-then-none_wait
unfolding untouched_at
returns-then-none_wait c =
    let q = c.args.queues.now in
    elim c.if-queues-order_at-eq0.branch [
      | then-queues-order_at-eq0 w ↦
          let empty : eqb (get_or q (order_at c.args.i) 0) 0 ≡ true = eq-eqb _ 0 (ap (λ (k : ℕ). get_or q k 0) (sym c.order_at.ensures) ∙ w.if-queues-order_at-eq0.true) in
          rw (empty, sym w.none_wait.ensures ∙ sym w.value-is ∙ c.if-none_wait.true) c.none_hold.ensures
      | else-queues-order_at-eq0 w ↦ absurd (true≢false (sym c.if-none_wait.true ∙ w.value-is ∙ ne_eqb _ _ w.if-queues-order_at-eq0.false))
    ]

pub returns-else-none_wait : goal.returns-else-none_wait
unfolding untouched_at
returns-else-none_wait c =
    let q = c.args.queues.now in
    elim c.if-queues-order_at-eq0.branch [
      | then-queues-order_at-eq0 w ↦
          let empty : eqb (get_or q (order_at c.args.i) 0) 0 ≡ true = eq-eqb _ 0 (ap (λ (k : ℕ). get_or q k 0) (sym c.order_at.ensures) ∙ w.if-queues-order_at-eq0.true) in
          rw (empty, sym w.none_wait.ensures ∙ sym w.value-is ∙ c.if-none_wait.false) c.if-none_wait.false
      | else-queues-order_at-eq0 w ↦
          rw (ne_eqb _ 0 (λ e. w.if-queues-order_at-eq0.false (ap (λ (k : ℕ). get_or q k 0) c.order_at.ensures ∙ e))) c.if-none_wait.false
    ]
