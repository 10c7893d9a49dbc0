-- `group_listed::list::asked` meets its contract: each way out with the tests that led to it.
use mathlib.Core.Path.{◌≡◌, sym, ◌∙◌}
use Prim.Native.Nat.{min}
use native.Mathlib.Omega.{arith}
use lib.ListN.{length}
use Rattle.views.specs.Limits.{max_views}
use Rattle.views.specs.Lists.{list_of}
use Rattle.views.proofs.PlaceLaws.{length-used}
use Rattle.group_listed.proofs.CreateLaws.{set-unfit, not-above, list_full, made-next}
use Rattle.group_listed.proofs.list.asked.Goals as goal

pub returns-then-not-fits : goal.returns-then-not-fits
returns-then-not-fits c =
    let a = c.args in
    set-unfit a.members a.room _ a.id.0 a.set (sym c.fits.ensures ∙ c.if-not-fits.true)

pub returns-then-not-above : goal.returns-then-not-above
returns-then-not-above c =
    let a = c.args in
    not-above a.members a.room _ a.id.0 a.set (sym c.fits.ensures ∙ c.if-not-fits.false) (sym c.above.ensures ∙ c.if-not-above.true)

pub returns-then-room-used : goal.returns-then-room-used
returns-then-room-used c =
    let a = c.args in
    let z : length a.l.at ≡ 32 = c.well_formed.0.1.1.1.0.1.0.1 in
    let n : length (list_of a.l) ≡ min a.l.count max_views = length-used a.l.count a.l.at z in
    list_full a.members a.room _ a.id.0 a.set (sym c.fits.ensures ∙ c.if-not-fits.false) (sym c.above.ensures ∙ c.if-not-above.false) (omega (arith, n, c.used.ensures, c.if-room-used.true))

pub returns : goal.returns
returns c =
    let a = c.args in
    let z : length a.l.at ≡ 32 = c.well_formed.0.1.1.1.0.1.0.1 in
    let n : length (list_of a.l) ≡ min a.l.count max_views = length-used a.l.count a.l.at z in
    made-next a.members a.room _ a.id.0 a.set (sym c.fits.ensures ∙ c.if-not-fits.false) (sym c.above.ensures ∙ c.if-not-above.false) (omega (arith, n, c.used.ensures, c.if-room-used.false))
