-- `book_sound::sound` meets its contract: where the layout fits, the book is sound when its record and its queues are.
use Rattle.std.proofs.Common.{sym, ◌∙◌, arith}
use Rattle.rules.proofs.Truth.{stopped}
use Rattle.book_bytes.specs.Books.{bytes_sound}
use Rattle.book_bytes.proofs.LayoutLaws.{layout-says}
use Rattle.book_sound.proofs.Whole.{record-members, record-stops, record-passes}
use Rattle.book_sound.proofs.sound.Goals as goal

pub returns-then-not-layout_fits : goal.returns-then-not-layout_fits
unfolding bytes_sound
returns-then-not-layout_fits c = sym (stopped _ 0 (sym c.layout_fits.ensures ∙ c.if-not-layout_fits.true))

pub bounds-b-0 : goal.bounds-b-0
bounds-b-0 c = let l = layout-says c.args.b.now (sym c.layout_fits.ensures ∙ c.if-not-layout_fits.false) in omega (arith, l.size, l.side)

pub bounds-b-34 : goal.bounds-b-34
bounds-b-34 c = let l = layout-says c.args.b.now (sym c.layout_fits.ensures ∙ c.if-not-layout_fits.false) in omega (arith, l.size, l.side)

pub bounds-b-side : goal.bounds-b-side
bounds-b-side c = let l = layout-says c.args.b.now (sym c.layout_fits.ensures ∙ c.if-not-layout_fits.false) in omega (arith, l.size, l.side)

pub overflow_sub-new : goal.overflow_sub-new
overflow_sub-new c = let l = layout-says c.args.b.now (sym c.layout_fits.ensures ∙ c.if-not-layout_fits.false) in omega (arith, l.size, l.side)

pub bounds-b-side-2 : goal.bounds-b-side-2
bounds-b-side-2 c = let l = layout-says c.args.b.now (sym c.layout_fits.ensures ∙ c.if-not-layout_fits.false) in omega (arith, l.size, l.side)

pub record_sound-requires : goal.record_sound-requires
record_sound-requires c = let l = layout-says c.args.b.now (sym c.layout_fits.ensures ∙ c.if-not-layout_fits.false) in (omega (arith, l.size), l.opens)

pub queues_sound-requires : goal.queues_sound-requires
queues_sound-requires c =
    let fits = sym c.layout_fits.ensures ∙ c.if-not-layout_fits.false in
    (fits, record-members c.args.b.now fits (sym c.record_sound.ensures ∙ c.if-record_sound.true))

pub returns-then-record_sound : goal.returns-then-record_sound
returns-then-record_sound c =
    let fits = sym c.layout_fits.ensures ∙ c.if-not-layout_fits.false in
    c.queues_sound.ensures ∙ sym (record-passes c.args.b.now fits (sym c.record_sound.ensures ∙ c.if-record_sound.true))

pub returns-else-record_sound : goal.returns-else-record_sound
returns-else-record_sound c =
    let fits = sym c.layout_fits.ensures ∙ c.if-not-layout_fits.false in
    c.if-record_sound.false ∙ sym (record-stops c.args.b.now fits (sym c.record_sound.ensures ∙ c.if-record_sound.false))
