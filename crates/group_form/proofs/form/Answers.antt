-- `group_form::form` meets its contract: 4, then 10, 44 and 45, then all the steps or none.
use mathlib.Core.Path.{sym, ◌∙◌}
use Rattle.std.proofs.lemmas.Result.{err_from_is_err_and}
use borrow.Author.Tests.{not-true, not-false}
use Rattle.group_bytes.specs.Groups.{ranges}
use Rattle.group_form.proofs.NewestLaws.{unsound-formed, asked-refused, all-formed}
use Rattle.group_form.proofs.form.Goals as goal

pub returns-then-not-sound : goal.returns-then-not-sound
returns-then-not-sound c =
    let a = c.args in
    unsound-formed (ranges a.list.now a.all.now a.queues.now) a.id.0 (sym c.sound.ensures ∙ not-true _ c.if-not-sound.true-raw)

pub ask-requires : goal.ask-requires
ask-requires c = sym c.sound.ensures ∙ not-false _ c.if-not-sound.false-raw

pub whole-requires : goal.whole-requires
whole-requires c = (sym c.sound.ensures ∙ not-false _ c.if-not-sound.false-raw, c.ask.ensures.fresh c.in_ok-ask.was)

pub returns-in_err-ask : goal.returns-in_err-ask
returns-in_err-ask c =
    let a = c.args in
    let sounds = sym c.sound.ensures ∙ not-false _ c.if-not-sound.false-raw in
    let p = err_from_is_err_and c.from_residual.result c.from_residual.ensures.1 in
    rw (p.1, p.2) (asked-refused (ranges a.list.now a.all.now a.queues.now) a.id.0 sounds _ c.ask.ensures _ c.in_err-ask.was)

pub returns : goal.returns
returns c =
    let a = c.args in
    let sounds = sym c.sound.ensures ∙ not-false _ c.if-not-sound.false-raw in
    all-formed (ranges a.list.now a.all.now a.queues.now) a.id.0 sounds _ c.ask.ensures c.in_ok-ask.was _ _ c.whole.ensures
