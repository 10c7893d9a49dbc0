-- The three parts stand one behind the other, and together they are the frame.
use mathlib.Core.Path.{◌≡◌}
use native.Mathlib.Omega.{arith}
use lib.ListN.{length}
use lib.Seq.{length-take-le}
use Rattle.views.specs.Lists.{list_of}
use Rattle.wire.proofs.WriterLaws.{frame-stored}
use Rattle.wire.proofs.writer.store_frame.Goals as goal

pub returns : goal.returns
returns c =
    let a = c.args in
    let good = c.well_formed in
    let kind = c.kind in
    let store-front = c.store_front in
    let store-views = c.store_views in
    let f = a.f in
    let z : length f.views.at ≡ 32 = good.1.0.1.1.1.1.0.1.1.1.0.1.0.1 in
    frame-stored f.view.0 f.views.count f.message (list_of f.views) a.b.now _ _ _ (length-take-le f.views.count f.views.at (omega arith)) (rw kind.ensures at store-front.ensures) store-views.ensures c.store_numbers.ensures
