-- `group_form::undo::restore` meets its contract: the head and the view's queues are written over by their copies.
use Rattle.group_form.specs.Parts.{put_back}
use Rattle.group_form.proofs.undo.restore.Goals as goal

pub returns : goal.returns
unfolding put_back
returns c = rw (← c.order_at-at.ensures, ← c.copy.ensures) c.copy-2.ensures
