-- `group_form::undo::keeping_queues` meets its contract: after a refusal the queues' head and the view's queues are put back, and nothing else of them
-- changed.
use mathlib.Core.Path.{sym, ap, ◌∙◌}
use mathlib.Core.Bool.{true≢false}
use Prim.Native.Nat.{ℕ}
use native.Mathlib.Omega.{arith}
use lib.ListN.{length, length-replicate}
use Rattle.views.proofs.VerdictLaws.{is-refused, not-refused}
use Rattle.group_bytes.specs.Groups.{ranges}
use Rattle.group_bytes.proofs.RangesLaws.{RangesBytes}
use Rattle.group_form.proofs.Restored.{queues-size}
use Rattle.group_form.proofs.Keeping.{stands-low, stands-inside, queues-taken, queues-put-back}
use Rattle.group_form.proofs.undo.keeping_queues.Goals as goal

pub save-requires : goal.save-requires
save-requires c =
    let s = c.requires in
    (length-replicate {A = ℕ} 32905 0, omega (arith, stands-low s), omega (arith, stands-inside s))

pub steps-taken-requires : goal.steps-taken-requires
steps-taken-requires c e = absurd (true≢false (sym e))

pub restore-requires : goal.restore-requires
restore-requires c =
    let s = c.requires in
    (ap length c.save.ensures ∙ queues-size _ _ (stands-inside s), omega (arith, stands-low s), omega (arith, stands-inside s))

pub returns-then-is_err : goal.returns-then-is_err
returns-then-is_err c =
    let a = c.args in
    let bytes : RangesBytes (ranges a.list.now a.all.now a.queues.now) = record {
      list = λ j. omega (arith, c.slice_known-1.given j);
      books = λ j. omega (arith, c.slice_known-2-1.given j);
      queues = λ j. omega (arith, c.slice_known-3-1.given j);
    } in
    let (_, refused) = is-refused _ (sym c.is_err.ensures.value ∙ c.if-is_err.true) in
    queues-put-back c.requires bytes c.steps-taken.ensures refused _ _ c.save.ensures c.restore.ensures

pub returns-else-is_err : goal.returns-else-is_err
returns-else-is_err c = queues-taken c.requires c.steps-taken.ensures (not-refused _ (sym c.is_err.ensures.value ∙ c.if-is_err.false))
