-- `book_sound::layout::layout_fits` meets its contract: the length, the marks and the counts, and then the slots, which lie within the bytes.
use Rattle.std.proofs.Common.{arith, sym, ◌∙◌}
use Rattle.std.proofs.lemmas.Grind.{common_steps}
use Rattle.book_sound.proofs.Layouts.{layout-are, outgoing-few}
use Rattle.book_sound.proofs.layout.layout_fits.Goals as goal
use Rattle.book_sound.proofs.layout.layout_fits.Goals.{then-marks_fit, else-marks_fit}

pub slots_fit-requires : goal.slots_fit-requires
slots_fit-requires c = elim c.if-marks_fit.branch [ then-marks_fit w ↦ omega (arith, outgoing-few c.args.b.now (sym (w.value-is ∙ w.counts_fit.ensures) ∙ c.if-counts_fit.true)) | else-marks_fit w ↦ absurd (grind arith) ]

pub returns-then-counts_fit : goal.returns-then-counts_fit
returns-then-counts_fit c = sym (layout-are c.args.b.now ∙ grind (arith, common_steps))

pub returns-else-counts_fit : goal.returns-else-counts_fit
returns-else-counts_fit c = sym (layout-are c.args.b.now ∙ grind (arith, common_steps))
