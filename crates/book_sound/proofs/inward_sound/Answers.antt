-- `book_sound::inward_sound` meets its contract: a layout that fits has either inward list within the bytes.
use native.Mathlib.Omega.{arith}
use Rattle.book_bytes.proofs.LayoutLaws.{layout-says}
use Rattle.book_sound.proofs.Whole.{inward-few}
use Rattle.book_sound.proofs.inward_sound.Goals as goal

pub items_sound-requires : goal.items_sound-requires
items_sound-requires c =
    let a = c.args in
    let p = c.requires in
    let l = layout-says a.b.now p.0 in
    (omega (arith, l.size, p.1), inward-few a.b.now l a.side p.1, p.2)
