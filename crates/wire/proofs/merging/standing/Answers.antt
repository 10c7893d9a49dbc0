-- `merging::standing` meets its contract: the view at a place of the list, or none past its end.
use mathlib.Core.Path.{sym, ap, ◌∙◌}
use native.Mathlib.Omega.{arith}
use Rattle.std.proofs.Common.{Some}
use Rattle.std.proofs.lemmas.Option.{slice_get-get_or, slice_get_past}
use Rattle.views.specs.Lists.{no_view}
use Rattle.wire.specs.Reader.{views_in}
use Rattle.wire.proofs.ReaderLaws.{length-views_in, views-at}
use Rattle.wire.proofs.merging.standing.Goals as goal

pub returns-then-i-n : goal.returns-then-i-n
returns-then-i-n c =
    let a = c.args in
    ap Some (c.load_view.ensures ∙ sym (views-at a.b.now a.from a.n a.i c.if-i-n.true))
    ∙ sym (slice_get-get_or (views_in a.b.now a.from a.n) a.i no_view (omega (arith, c.if-i-n.true, length-views_in a.b.now a.from a.n)))

pub returns-else-i-n : goal.returns-else-i-n
returns-else-i-n c =
    let a = c.args in
    sym (slice_get_past (views_in a.b.now a.from a.n) a.i (omega (arith, c.if-i-n.false, length-views_in a.b.now a.from a.n)))
