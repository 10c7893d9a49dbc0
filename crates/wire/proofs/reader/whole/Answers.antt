-- `reader::whole` meets its contract: it asks in the definition's order; a told has no views, so its number stands at 7.
use mathlib.Core.Path.{sym, ◌∙◌}
use native.Mathlib.Omega.{arith}
use borrow.Author.Tests.{not-true, not-false}
use Rattle.wire.specs.Reader.{kind_in, views_in, view_count, number_in}
use Rattle.wire.proofs.ReaderLaws.{shaped}
use Rattle.wire.proofs.FrontLaws.{content-empty, content-falling, content-told, content-fine, other_fits, no-views, one_number, told_here}
use Rattle.wire.proofs.reader.whole.Goals as goal

pub bounds-b-5 : goal.bounds-b-5
bounds-b-5 c = let s = shaped c.args.b.now c.requires in omega arith

pub some_empty-requires : goal.some_empty-requires
some_empty-requires c = let s = shaped c.args.b.now c.requires in omega arith

pub returns-then-some_empty : goal.returns-then-some_empty
returns-then-some_empty c =
    let b = c.args.b.now in
    sym (content-empty (kind_in b) (views_in b 6 (view_count b)) (number_in b) (sym c.some_empty.ensures ∙ c.if-some_empty.true))

pub rising-requires : goal.rising-requires
rising-requires c =
    let s = shaped c.args.b.now c.requires in
    omega arith

pub returns-then-not-rising : goal.returns-then-not-rising
returns-then-not-rising c =
    let b = c.args.b.now in
    sym (content-falling (kind_in b) (views_in b 6 (view_count b)) (number_in b) (sym c.some_empty.ensures ∙ c.if-some_empty.false) (sym c.rising.ensures ∙ not-true _ c.if-not-rising.true-raw))

pub bounds-b-0 : goal.bounds-b-0
bounds-b-0 c =
    let s = shaped c.args.b.now c.requires in
    omega arith

pub returns-then-b-ne-TOLD : goal.returns-then-b-ne-TOLD
returns-then-b-ne-TOLD c =
    let b = c.args.b.now in
    sym (content-fine (kind_in b) (views_in b 6 (view_count b)) (number_in b) (sym c.some_empty.ensures ∙ c.if-some_empty.false) (sym c.rising.ensures ∙ not-false _ c.if-not-rising.false-raw) (other_fits (kind_in b) (number_in b) c.if-b-ne-TOLD.true))

pub told_fits-requires : goal.told_fits-requires
told_fits-requires c =
    let b = c.args.b.now in
    let s = shaped b c.requires in
    omega (arith, s.whole, no-views b c.requires c.if-b-ne-TOLD.false, one_number b c.requires c.if-b-ne-TOLD.false)

pub returns-then-not-told_fits : goal.returns-then-not-told_fits
returns-then-not-told_fits c =
    let b = c.args.b.now in
    sym (content-told (kind_in b) (views_in b 6 (view_count b)) (number_in b) (sym c.some_empty.ensures ∙ c.if-some_empty.false) (sym c.rising.ensures ∙ not-false _ c.if-not-rising.false-raw) (told_here b c.requires c.if-b-ne-TOLD.false ∙ sym c.told_fits.ensures ∙ not-true _ c.if-not-told_fits.true-raw))

pub returns : goal.returns
returns c =
    let b = c.args.b.now in
    sym (content-fine (kind_in b) (views_in b 6 (view_count b)) (number_in b) (sym c.some_empty.ensures ∙ c.if-some_empty.false) (sym c.rising.ensures ∙ not-false _ c.if-not-rising.false-raw) (told_here b c.requires c.if-b-ne-TOLD.false ∙ sym c.told_fits.ensures ∙ not-false _ c.if-not-told_fits.false-raw))
