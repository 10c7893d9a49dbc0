-- `group_form::undo::save` meets its contract: the copy holds the head, then the view's queues.
use mathlib.Core.Path.{◌∙◌}
use native.Mathlib.Omega.{arith}
use Rattle.group_bytes.specs.Places.{head_size, table_size, order_at}
use Rattle.group_form.specs.Parts.{kept_of}
use Rattle.group_form.proofs.Restored.{saved}
use Rattle.group_form.proofs.undo.save.Goals as goal

pub returns : goal.returns
unfolding kept_of
returns c =
    let args = c.args in
    let pre = c.requires in
    (rw (← c.order_at-at.ensures, ← c.copy.ensures) c.copy-2.ensures)
    ∙ saved args.queues.now head_size (order_at args.i) table_size (omega arith) pre.2 args.kept.now pre.0
