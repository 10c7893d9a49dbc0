-- `group_steps::carrier_view::create::create` meets its contract: each way out with the tests that led to it, and the view made.
use mathlib.Core.Path.{◌≡◌, sym, ◌∙◌}
use native.Mathlib.Omega.{arith}
use borrow.Author.Tests.{not-true, not-false}
use mathlib.Core.Bool.{true}
use Rattle.views.specs.declared.refusal.Refusal.TheVariants.{SetUnfit, IdentifierNotAbove, ListFull}
use Rattle.group_bytes.specs.Groups.{Ranges, members_of, views_made}
use Rattle.group_steps.specs.CarrierParts.{all_below}
use Rattle.group_steps.proofs.Rows.{ranged}
use Rattle.group_steps.proofs.CreateLaws.{create-refused, create-accepted, unfit, not-above, list_full, made-says}
use Rattle.views.specs.Sets.{fits}
use Rattle.group_steps.proofs.carrier_view.create.create.Goals as goal

pub bounds-all-0 : goal.bounds-all-0
bounds-all-0 c =
    let a = c.args in
    let r : Ranges = record { list = a.list.now; books = a.all.now; queues = a.queues.now } in
    let f = ranged r c.requires in
    omega (arith, f.books)

pub returns-then-not-fits : goal.returns-then-not-fits
returns-then-not-fits c =
    let a = c.args in
    let r : Ranges = record { list = a.list.now; books = a.all.now; queues = a.queues.now } in
    create-refused r a.id.0 a.set SetUnfit (unfit r a.id.0 a.set (sym c.fits.ensures ∙ not-true _ c.if-not-fits.true-raw))

pub bounds-queues-0 : goal.bounds-queues-0
bounds-queues-0 c =
    let a = c.args in
    let r : Ranges = record { list = a.list.now; books = a.all.now; queues = a.queues.now } in
    let f = ranged r c.requires in
    omega (arith, f.queues)

pub above-requires : goal.above-requires
above-requires c =
    let a = c.args in
    let r : Ranges = record { list = a.list.now; books = a.all.now; queues = a.queues.now } in
    let f = ranged r c.requires in
    omega (arith, f.made.1)

pub returns-then-not-above : goal.returns-then-not-above
returns-then-not-above c =
    let l = c in
    let a = l.args in
    let r : Ranges = record { list = a.list.now; books = a.all.now; queues = a.queues.now } in
    let t : fits (members_of r) a.set ≡ true = sym l.fits.ensures ∙ not-false _ l.if-not-fits.false-raw in
    create-refused r a.id.0 a.set IdentifierNotAbove (not-above r a.id.0 a.set t (sym l.above.ensures ∙ not-true _ c.if-not-above.true-raw))

pub overflow_cast-made : goal.overflow_cast-made
overflow_cast-made c =
    let l = c in
    let a = l.args in
    let r : Ranges = record { list = a.list.now; books = a.all.now; queues = a.queues.now } in
    let h = l.requires in
    let f = ranged r h in
    let t : fits (members_of r) a.set ≡ true = sym l.fits.ensures ∙ not-false _ l.if-not-fits.false-raw in
    omega (arith, f.made.1, f.room.1)

pub returns-then-list-made : goal.returns-then-list-made
returns-then-list-made c =
    let l = c in
    let a = l.args in
    let r : Ranges = record { list = a.list.now; books = a.all.now; queues = a.queues.now } in
    let t : fits (members_of r) a.set ≡ true = sym l.fits.ensures ∙ not-false _ l.if-not-fits.false-raw in
    let k : all_below a.id.0 (views_made r) ≡ true = sym l.above.ensures ∙ not-false _ c.if-not-above.false-raw in
    create-refused r a.id.0 a.set ListFull (list_full r a.id.0 a.set t k c.if-list-made.true)

pub make-requires : goal.make-requires
make-requires c =
    let l = c in
    let a = l.args in
    let r : Ranges = record { list = a.list.now; books = a.all.now; queues = a.queues.now } in
    let h = l.requires in
    let f = ranged r h in
    let t : fits (members_of r) a.set ≡ true = sym l.fits.ensures ∙ not-false _ l.if-not-fits.false-raw in
    let k : all_below a.id.0 (views_made r) ≡ true = sym l.above.ensures ∙ not-false _ c.if-not-above.false-raw in
    let x = made-says r a.id.0 a.set t k c.if-list-made.false f in
    (omega (arith, f.room.1, c.if-list-made.false), x.place, x.table)

pub returns : goal.returns
returns c =
    let l = c in
    let a = l.args in
    let r : Ranges = record { list = a.list.now; books = a.all.now; queues = a.queues.now } in
    let t : fits (members_of r) a.set ≡ true = sym l.fits.ensures ∙ not-false _ l.if-not-fits.false-raw in
    let k : all_below a.id.0 (views_made r) ≡ true = sym l.above.ensures ∙ not-false _ c.if-not-above.false-raw in
    create-accepted r a.id.0 a.set t k c.if-list-made.false _ _ c.make.ensures.0 c.make.ensures.1
