-- `group_sound::sound` meets its contract: sizes and numbers that fit put every part within its range, and the parts answer for the ranges.
use mathlib.Core.Path.{◌≡◌, sym, ap, ◌∙◌}
use mathlib.Core.Bool.{Bool}
use mathlib.Core.List.{List}
use Prim.Native.Nat.{ℕ}
use native.Mathlib.Omega.{arith}
use borrow.Author.Tests.{not-true, not-false}
use Rattle.rules.proofs.Truth.{stopped, three}
use Rattle.group_bytes.specs.Places.{room_of}
use Rattle.group_bytes.specs.Groups.{Ranges, members_of, made_of, marks_of, layout_of}
use Rattle.group_sound.specs.Parts.{numbers_fit, parts_sound}
use Rattle.group_sound.proofs.Tests.{books-long, queues-long, room-few, members-few, list-holds, queues-hold}
use Rattle.group_sound.proofs.Whole.{ranges-parts}
use Rattle.group_sound.proofs.sound.Goals as goal

abbrev lent : List ℕ → List ℕ → List ℕ → Ranges
lent list books queues = record { list = list; books = books; queues = queues }

-- the marks read are those of the ranges
numbers-said : (r : Ranges) (x : ℕ) (t : Bool) → x ≡ marks_of r → t ≡ numbers_fit (layout_of r) (members_of r) (made_of r) (room_of r.list) x
    → t ≡ numbers_fit (layout_of r) (members_of r) (made_of r) (room_of r.list) (marks_of r)
numbers-said r x t e h = h ∙ ap (numbers_fit (layout_of r) (members_of r) (made_of r) (room_of r.list)) e

pub returns-then-not-sizes_fit : goal.returns-then-not-sizes_fit
unfolding parts_sound
returns-then-not-sizes_fit c = sym (ranges-parts _ ∙ stopped _ 0 (sym c.sizes_fit.ensures ∙ not-true _ c.if-not-sizes_fit.true-raw))

pub bounds-books-0 : goal.bounds-books-0
bounds-books-0 c = let a = c.args in let r = lent a.list.now a.books.now a.queues.now in omega (arith, books-long r (sym c.sizes_fit.ensures ∙ not-false _ c.if-not-sizes_fit.false-raw))

pub bounds-queues-0 : goal.bounds-queues-0
bounds-queues-0 c = let a = c.args in let r = lent a.list.now a.books.now a.queues.now in omega (arith, queues-long r (sym c.sizes_fit.ensures ∙ not-false _ c.if-not-sizes_fit.false-raw))

pub get_number-marks-requires : goal.get_number-marks-requires
get_number-marks-requires c =
    let t = c in
    let a = t.args in
    let r = lent a.list.now a.books.now a.queues.now in
    (omega (arith, queues-long r (sym t.sizes_fit.ensures ∙ not-false _ t.if-not-sizes_fit.false-raw)), omega arith)

pub bounds-queues-5 : goal.bounds-queues-5
bounds-queues-5 c =
    let t = c in
    let a = t.args in
    let r = lent a.list.now a.books.now a.queues.now in
    omega (arith, queues-long r (sym t.sizes_fit.ensures ∙ not-false _ t.if-not-sizes_fit.false-raw))

pub numbers_fit-requires : goal.numbers_fit-requires
numbers_fit-requires c =
    let t = c in
    let a = t.args in
    let r = lent a.list.now a.books.now a.queues.now in
    room-few r (sym t.sizes_fit.ensures ∙ not-false _ t.if-not-sizes_fit.false-raw)

pub returns-else-numbers_fit : goal.returns-else-numbers_fit
unfolding parts_sound
returns-else-numbers_fit c =
    let g = c in
    let a = g.args in
    let r = lent a.list.now a.books.now a.queues.now in
    let said = numbers-said r _ _ g.get_number-marks.ensures.0 c.numbers_fit.ensures in
    c.if-numbers_fit.false ∙ sym (ranges-parts r ∙ stopped _ 1 (sym said ∙ c.if-numbers_fit.false))

pub records_sound-requires : goal.records_sound-requires
records_sound-requires c =
    let g = c in
    let t = g in
    let a = t.args in
    let r = lent a.list.now a.books.now a.queues.now in
    let z = sym t.sizes_fit.ensures ∙ not-false _ t.if-not-sizes_fit.false-raw in
    let m = sym (numbers-said r _ _ g.get_number-marks.ensures.0 c.numbers_fit.ensures) ∙ c.if-numbers_fit.true in
    (list-holds r z m, books-long r z, queues-hold r z m, members-few r z m)

pub returns-then-numbers_fit : goal.returns-then-numbers_fit
unfolding parts_sound
returns-then-numbers_fit c =
    let c2 = c in
    let g = c2 in
    let t = g in
    let a = t.args in
    let r = lent a.list.now a.books.now a.queues.now in
    let z = sym t.sizes_fit.ensures ∙ not-false _ t.if-not-sizes_fit.false-raw in
    let m = sym (numbers-said r _ _ g.get_number-marks.ensures.0 c2.numbers_fit.ensures) ∙ c.if-numbers_fit.true in
    c.records_sound.ensures ∙ sym (ranges-parts r ∙ three _ _ _ ∙ rw (z, m))
