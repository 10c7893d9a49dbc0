-- `group_crossing::earlier` meets its contract: a view without its mark is passed over.
use borrow.Author.Tests.{eq-eqb, ne_eqb}
use Rattle.views.specs.Sets.{has}
use Rattle.group_crossing.specs.QueryParts.{earlier_at}
use Rattle.group_crossing.proofs.earlier.Goals as goal

pub returns-then-marks-i-eq1 : goal.returns-then-marks-i-eq1
unfolding earlier_at has
returns-then-marks-i-eq1 c = rw (eq-eqb _ _ c.if-marks-i-eq1.true, c.load_view.ensures)

pub returns-else-marks-i-eq1 : goal.returns-else-marks-i-eq1
unfolding earlier_at has
returns-else-marks-i-eq1 c = rw (ne_eqb _ _ c.if-marks-i-eq1.false)
