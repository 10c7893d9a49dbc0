-- `group_crossing::query` meets its contract: each return is a case of the query.
use mathlib.Core.Path.{sym, ◌∙◌}
use native.Mathlib.Omega.{arith}
use borrow.Author.Tests.{not-true, not-false}
use Rattle.group_bytes.specs.Groups.{ranges, made_of}
use Rattle.group_crossing.proofs.QueryLaws.{few-below}
use Rattle.group_crossing.proofs.QueryCases.{ranged, not-whole, not_sound, not_set, not-room, answered}
use Rattle.group_crossing.specs.QueryParts.{pick_at}
use Rattle.group_crossing.proofs.query.Goals as goal

pub returns-then-out-ne0 : goal.returns-then-out-ne0
returns-then-out-ne0 c =
    let a = c.args in
    let r = ranges a.list.now a.books.now a.queues.now in
    not-whole r a.hold a.set _ c.if-out-ne0.true

pub returns-then-not-sound : goal.returns-then-not-sound
returns-then-not-sound c =
    let c3 = c in
    let c8 = c3 in
    let a = c8.args in
    let r = ranges a.list.now a.books.now a.queues.now in
    not_sound r a.hold a.set _ c3.if-out-ne0.false (sym c.sound.ensures ∙ not-true _ c.if-not-sound.true-raw)

pub bounds-books-0 : goal.bounds-books-0
bounds-books-0 c =
    let a = c.args in
    let r = ranges a.list.now a.books.now a.queues.now in
    omega (arith, (ranged r (sym c.sound.ensures ∙ not-false _ c.if-not-sound.false-raw)).books)

pub returns-then-not-fits : goal.returns-then-not-fits
returns-then-not-fits c =
    let c4 = c in
    let c5 = c4 in
    let c6 = c5 in
    let c11 = c6 in
    let a = c11.args in
    let r = ranges a.list.now a.books.now a.queues.now in
    not_set r a.hold a.set _ c6.if-out-ne0.false (sym c5.sound.ensures ∙ not-false _ c4.if-not-sound.false-raw)
    (sym c.fits.ensures ∙ not-true _ c.if-not-fits.true-raw)

pub bounds-queues-0 : goal.bounds-queues-0
bounds-queues-0 c =
    let c4 = c in
    let c5 = c4 in
    let c11 = c5 in
    let a = c11.args in
    let r = ranges a.list.now a.books.now a.queues.now in
    omega (arith, (ranged r (sym c5.sound.ensures ∙ not-false _ c4.if-not-sound.false-raw)).queues)

pub overflow_cast-n : goal.overflow_cast-n
overflow_cast-n c =
    let a = c.args in
    let r = ranges a.list.now a.books.now a.queues.now in
    let f = ranged r (sym c.sound.ensures ∙ not-false _ c.if-not-sound.false-raw) in
    omega (arith, f.made.1, f.room.1)

pub get_number-marks-requires : goal.get_number-marks-requires
get_number-marks-requires c =
    let c4 = c in
    let c5 = c4 in
    let c11 = c5 in
    let a = c11.args in
    let r = ranges a.list.now a.books.now a.queues.now in
    (omega (arith, (ranged r (sym c5.sound.ensures ∙ not-false _ c4.if-not-sound.false-raw)).queues), omega arith)

pub count-k-requires : goal.count-k-requires
count-k-requires c =
    let c5 = c in
    let c6 = c5 in
    let c12 = c6 in
    let a = c12.args in
    let r = ranges a.list.now a.books.now a.queues.now in
    let f = ranged r (sym c6.sound.ensures ∙ not-false _ c5.if-not-sound.false-raw) in
    (omega (arith, f.made.1), omega (arith, f.made.1, f.room.1))

pub overflow_mul-k : goal.overflow_mul-k
overflow_mul-k c =
    let c6 = c in
    let c7 = c6 in
    let c13 = c7 in
    let a = c13.args in
    let r = ranges a.list.now a.books.now a.queues.now in
    let f = ranged r (sym c7.sound.ensures ∙ not-false _ c6.if-not-sound.false-raw) in
    let t = pick_at a.list.now c.get_number-marks.result a.hold a.set in
    omega (arith, c.count-k.ensures, few-below a.list.now t (made_of r), f.made.1, f.room.1)

pub returns-then-out-k : goal.returns-then-out-k
returns-then-out-k c =
    let c3 = c in
    let c5 = c3 in
    let c6 = c5 in
    let c8 = c6 in
    let c9 = c8 in
    let c10 = c9 in
    let c15 = c10 in
    let a = c15.args in
    let r = ranges a.list.now a.books.now a.queues.now in
    not-room r a.hold a.set _ c10.if-out-ne0.false (sym c9.sound.ensures ∙ not-false _ c8.if-not-sound.false-raw)
    (sym c6.fits.ensures ∙ not-false _ c5.if-not-fits.false-raw) _ c3.get_number-marks.ensures.0 _ c.count-k.ensures c.if-out-k.true

pub lay-requires : goal.lay-requires
lay-requires c =
    let c8 = c in
    let c9 = c8 in
    let c15 = c9 in
    let a = c15.args in
    let r = ranges a.list.now a.books.now a.queues.now in
    let f = ranged r (sym c9.sound.ensures ∙ not-false _ c8.if-not-sound.false-raw) in
    (omega (arith, f.made.1), omega (arith, f.made.1, f.room.1), omega (arith, c.count-k.ensures, c.if-out-k.false))

pub returns : goal.returns
returns c =
    let c4 = c in
    let c5 = c4 in
    let c6 = c5 in
    let c8 = c6 in
    let c9 = c8 in
    let c11 = c9 in
    let c12 = c11 in
    let c13 = c12 in
    let c18 = c13 in
    let a = c18.args in
    let r = ranges a.list.now a.books.now a.queues.now in
    answered r a.hold a.set _ c13.if-out-ne0.false (sym c12.sound.ensures ∙ not-false _ c11.if-not-sound.false-raw)
    (sym c9.fits.ensures ∙ not-false _ c8.if-not-fits.false-raw) _ c6.get_number-marks.ensures.0 _ c5.count-k.ensures _
    c4.if-out-k.false c.lay.ensures
