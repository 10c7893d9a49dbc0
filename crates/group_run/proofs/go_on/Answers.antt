-- `group_run::go_on` meets its contract: the records pair or not, the ranges are sound or not, and then every step in turn.
use mathlib.Core.Path.{◌≡◌, sym, ◌∙◌}
use mathlib.Core.Bool.{true}
use native.Mathlib.Omega.{arith}
use borrow.Author.Tests.{not-true, not-false}
use Rattle.group_bytes.specs.Groups.{Ranges, ranges, ranges_sound}
use Rattle.group_bytes.specs.Promises.{RangesBytes}
use Rattle.group.proofs.StaysSoundLaws.{sound-books, stays-sound}
use Rattle.group_run.proofs.Promise.{paired_long, unpaired-on, unsound-on, all-on}
use Rattle.group_run.proofs.go_on.Goals as goal

pub returns-then-not-pair : goal.returns-then-not-pair
returns-then-not-pair c =
    let a = c.args in
    unpaired-on (ranges a.list.now a.books.now a.queues.now) a.steps.now a.answers.now (sym c.pair.ensures ∙ not-true _ c.if-not-pair.true-raw)

pub returns-then-not-sound : goal.returns-then-not-sound
returns-then-not-sound c =
    let a = c.args in
    unsound-on (ranges a.list.now a.books.now a.queues.now) a.steps.now a.answers.now (sym c.pair.ensures ∙ not-false _ c.if-not-pair.false-raw)
    (sym c.sound.ensures ∙ not-true _ c.if-not-sound.true-raw)

pub none_above-known-requires : goal.none_above-known-requires
none_above-known-requires c =
    let a = c.args in
    sound-books (ranges a.list.now a.books.now a.queues.now) (sym c.sound.ensures ∙ not-false _ c.if-not-sound.false-raw)

pub each-requires : goal.each-requires
each-requires c =
    let a = c.args in
    let r : Ranges = ranges a.list.now a.books.now a.queues.now in
    let h : ranges_sound r ≡ true = sym c.sound.ensures ∙ not-false _ c.if-not-sound.false-raw in
    let bytes : RangesBytes r = record {
      list = λ j. omega (arith, c.slice_known-1.given j);
      books = λ j. omega (arith, c.slice_known-2-1.given j);
      queues = λ j. omega (arith, c.slice_known-3-1.given j);
    } in (
      (λ k. stays-sound r bytes h (sym c.none_above-known.ensures ∙ k)),
      paired_long _ _ (sym c.pair.ensures ∙ not-false _ c.if-not-pair.false-raw),
    )

pub returns : goal.returns
returns c =
    let a = c.args in
    all-on (ranges a.list.now a.books.now a.queues.now) a.steps.now a.answers.now (sym c.pair.ensures ∙ not-false _ c.if-not-pair.false-raw)
    (sym c.sound.ensures ∙ not-false _ c.if-not-sound.false-raw) _ _ c.each.ensures
