-- `group_crossing::picks` meets its contract: a view without its mark is not picked.
use mathlib.Core.Path.{◌∙◌}
use borrow.Author.Tests.{eq-eqb, ne_eqb}
use Rattle.views.specs.Sets.{has}
use Rattle.group_crossing.specs.QueryParts.{pick_at}
use Rattle.group_crossing.proofs.picks.Goals as goal

pub returns-then-marks-i-eq1 : goal.returns-then-marks-i-eq1
unfolding pick_at has
returns-then-marks-i-eq1 c = c.wanted.ensures ∙ rw (eq-eqb _ _ c.if-marks-i-eq1.true, c.load_view.ensures)

pub returns-else-marks-i-eq1 : goal.returns-else-marks-i-eq1
unfolding pick_at has
returns-else-marks-i-eq1 c = rw (ne_eqb _ _ c.if-marks-i-eq1.false)
