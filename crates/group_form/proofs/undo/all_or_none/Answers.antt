-- `group_form::undo::all_or_none` meets its contract: in an untouched view of a group that stays sound no step is refused, and else what the steps change is put
-- back.
use mathlib.Core.Path.{◌≡◌, sym, ◌∙◌}
use mathlib.Core.Bool.{true}
use native.Mathlib.Omega.{arith}
use borrow.Author.Tests.{not-false}
use Rattle.group_bytes.specs.Groups.{Ranges, ranges}
use Rattle.group_bytes.specs.Promises.{RangesBytes}
use Rattle.group.specs.StaysSoundParts.{none_above}
use Rattle.group.proofs.StaysSoundLaws.{sound-books, stays-sound}
use Rattle.group_form.proofs.Keeping.{stands-low, stands-inside, all-taken}
use Rattle.group_form.proofs.Untouched.{none-refused}
use Rattle.group_form.proofs.undo.all_or_none.Goals as goal

pub none_above-requires : goal.none_above-requires
none_above-requires c =
    let o = c in
    sound-books (ranges o.args.list.now o.args.all.now o.args.queues.now) o.requires.0.sound

pub untouched-requires : goal.untouched-requires
untouched-requires c =
    let o = c in
    let r : Ranges = ranges o.args.list.now o.args.all.now o.args.queues.now in
    let b = sound-books r o.requires.0.sound in
    (b.0, b.1, stands-low o.requires.0, stands-inside o.requires.0)

pub steps-requires : goal.steps-requires
steps-requires c =
    let early = c in
    let o = early in
    let r : Ranges = ranges o.args.list.now o.args.all.now o.args.queues.now in
    let bytes : RangesBytes r = record {
      list = λ j. omega (arith, early.slice_known-1.given j);
      books = λ j. omega (arith, early.slice_known-2-1.given j);
      queues = λ j. omega (arith, early.slice_known-3-1.given j);
    } in
    λ _. stays-sound r bytes o.requires.0.sound (sym c.none_above.ensures ∙ not-false _ c.if-not-none_above.false-raw)

pub returns : goal.returns
returns c =
    let at = c in
    let early = at in
    let o = early in
    let r : Ranges = ranges o.args.list.now o.args.all.now o.args.queues.now in
    let bytes : RangesBytes r = record {
      list = λ j. omega (arith, early.slice_known-1.given j);
      books = λ j. omega (arith, early.slice_known-2-1.given j);
      queues = λ j. omega (arith, early.slice_known-3-1.given j);
    } in
    let below : none_above r.books ≡ true = sym at.none_above.ensures ∙ not-false _ at.if-not-none_above.false-raw in
    let calm = sym at.untouched.ensures ∙ not-false _ at.if-not-untouched.false-raw in
    all-taken o.requires.0 c.steps.ensures (none-refused r bytes o.args.v o.args.i o.requires.0 o.requires.1 below o.requires.2 calm)
