-- `record::check` meets its contract: it asks in the definition's order.
use mathlib.Core.Path.{sym, ◌∙◌}
use native.Mathlib.Omega.{arith}
use borrow.Author.Tests.{not-true, not-false}
use lib.ListN.{get_or}
use Rattle.wire.specs.Reader.{views_in}
use Rattle.numbers.specs.Number.{get}
use Rattle.wire.proofs.RecordAskedLaws.{record-crowded, record-content}
use Rattle.wire.proofs.FrontLaws.{content-empty, content-falling, content-told, content-fine, told-asked, other_fits}
use Rattle.wire.proofs.FormatLaws.{views-few}
use Rattle.wire.proofs.record.check.Goals as goal

pub returns-then-not-views_allowed : goal.returns-then-not-views_allowed
returns-then-not-views_allowed c =
    let r = c.args.message.now in
    sym (record-crowded r c.requires.1 (sym c.views_allowed.ensures ∙ not-true _ c.if-not-views_allowed.true-raw))

pub some_empty-requires : goal.some_empty-requires
some_empty-requires c =
    let few = views-few _ _ (sym c.views_allowed.ensures ∙ not-false _ c.if-not-views_allowed.false-raw) in
    omega arith

pub returns-then-some_empty : goal.returns-then-some_empty
returns-then-some_empty c =
    let r = c.args.message.now in
    sym (record-content r c.requires.1 (sym c.views_allowed.ensures ∙ not-false _ c.if-not-views_allowed.false-raw) ∙ content-empty (get_or r 0 0) (views_in r 14 (get_or r 13 0)) (get r 5 8) (sym c.some_empty.ensures ∙ c.if-some_empty.true))

pub rising-requires : goal.rising-requires
rising-requires c =
    let few = views-few _ _ (sym c.views_allowed.ensures ∙ not-false _ c.if-not-views_allowed.false-raw) in
    omega arith

pub returns-then-not-rising : goal.returns-then-not-rising
returns-then-not-rising c =
    let r = c.args.message.now in
    sym (record-content r c.requires.1 (sym c.views_allowed.ensures ∙ not-false _ c.if-not-views_allowed.false-raw) ∙ content-falling (get_or r 0 0) (views_in r 14 (get_or r 13 0)) (get r 5 8) (sym c.some_empty.ensures ∙ c.if-some_empty.false) (sym c.rising.ensures ∙ not-true _ c.if-not-rising.true-raw))

pub returns-then-kind-ne-TOLD : goal.returns-then-kind-ne-TOLD
returns-then-kind-ne-TOLD c =
    let r = c.args.message.now in
    sym (record-content r c.requires.1 (sym c.views_allowed.ensures ∙ not-false _ c.if-not-views_allowed.false-raw) ∙ content-fine (get_or r 0 0) (views_in r 14 (get_or r 13 0)) (get r 5 8) (sym c.some_empty.ensures ∙ c.if-some_empty.false) (sym c.rising.ensures ∙ not-false _ c.if-not-rising.false-raw) (other_fits (get_or r 0 0) (get r 5 8) c.if-kind-ne-TOLD.true))

pub returns-then-not-told_fits : goal.returns-then-not-told_fits
returns-then-not-told_fits c =
    let r = c.args.message.now in
    sym (record-content r c.requires.1 (sym c.views_allowed.ensures ∙ not-false _ c.if-not-views_allowed.false-raw) ∙ content-told (get_or r 0 0) (views_in r 14 (get_or r 13 0)) (get r 5 8) (sym c.some_empty.ensures ∙ c.if-some_empty.false) (sym c.rising.ensures ∙ not-false _ c.if-not-rising.false-raw) (told-asked (get_or r 0 0) (get r 5 8) c.if-kind-ne-TOLD.false ∙ sym c.told_fits.ensures ∙ not-true _ c.if-not-told_fits.true-raw))

pub returns : goal.returns
returns c =
    let r = c.args.message.now in
    sym (record-content r c.requires.1 (sym c.views_allowed.ensures ∙ not-false _ c.if-not-views_allowed.false-raw) ∙ content-fine (get_or r 0 0) (views_in r 14 (get_or r 13 0)) (get r 5 8) (sym c.some_empty.ensures ∙ c.if-some_empty.false) (sym c.rising.ensures ∙ not-false _ c.if-not-rising.false-raw) (told-asked (get_or r 0 0) (get r 5 8) c.if-kind-ne-TOLD.false ∙ sym c.told_fits.ensures ∙ not-false _ c.if-not-told_fits.false-raw))
