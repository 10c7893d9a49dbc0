-- `group_run::turns::put` meets its contract: the verdict's number is written, and the event into the part behind it; the event's numbers have the widths of
-- their types.
use mathlib.Core.Path.{◌≡◌, refl, ap, ◌∙◌}
use native.Mathlib.Omega.{arith}
use lib.ListN.{length-set}
use Rattle.views.specs.Refusals.{code_of}
use Rattle.events.specs.Replies.{event_in}
use Rattle.c_answers.specs.Answers.{event_bytes}
use Rattle.group_run.proofs.Answers.{answer-put}
use Rattle.group_run.proofs.turns.put.Goals as goal
use Rattle.group_run.proofs.turns.put.Goals.{in-Ok, in-Err}

pub slice_bounds-put_event-end : goal.slice_bounds-put_event-end
slice_bounds-put_event-end c = simp length-set (omega arith)

pub returns : goal.returns
returns c =
    let a = c.args in
    let put = c.put_event.ensures in
    let (number, event) : (c.match-x.number.0 ≡ code_of a.x) × (c.match-x.number.1 ≡ event_in a.x) =
    elim c.match-x.branch [
      | in-Ok w ↦ rw (w.number-is, w.in-Ok.is) (refl, refl)
      | in-Err w ↦ rw (w.number-is, w.in-Err.is) (w.number.ensures, refl)
    ]
    in
    record {
      bytes = answer-put a.b.now a.at a.x _ _ c.requires number (put.bytes ∙ ap event_bytes event);
      fits = record { view = rw event at put.fits.0; entry = rw event at put.fits.1 };
    }
