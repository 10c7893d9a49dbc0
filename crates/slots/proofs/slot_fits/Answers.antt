-- `slots::slot_fits` meets its contract: each way out rewrites the definition with the tests on kind that led to it.
use Rattle.std.proofs.Common.{◌∙◌}
use borrow.Author.Tests.{eq-eqb, ne_eqb}
use Rattle.slots.specs.Slots.{slot_fits}
use Rattle.wire.specs.Format.{views_allowed}
use Rattle.slots.proofs.slot_fits.Goals as goal

pub returns-then-kind-ne-INFO : goal.returns-then-kind-ne-INFO
unfolding slot_fits
returns-then-kind-ne-INFO c = rw (← c.if-known.ensures, ne_eqb _ _ c.if-kind-ne-INFO.true)

pub returns-else-kind-ne-INFO : goal.returns-else-kind-ne-INFO
unfolding slot_fits views_allowed
returns-else-kind-ne-INFO c = c.views_allowed.ensures ∙ rw (c.from.ensures, ← c.if-known.ensures, eq-eqb _ _ c.if-kind-ne-INFO.false)

pub returns-else-known : goal.returns-else-known
unfolding slot_fits
returns-else-known c = rw (c.if-known.false, ← c.if-known.ensures)
