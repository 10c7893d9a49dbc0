-- `group_run::run` meets its contract: the records pair or not, the start is accepted or not, and then every step in turn.
use mathlib.Core.Path.{sym, ◌∙◌}
use Rattle.std.proofs.lemmas.Result.{err_from_is_err_and}
use borrow.Author.Tests.{not-true, not-false}
use Rattle.group_bytes.specs.Groups.{ranges}
use Rattle.group.proofs.StaysSoundLaws.{stays-begun}
use Rattle.group_run.proofs.Promise.{paired_long, unpaired-ran, unstarted-ran, all-ran}
use Rattle.group_run.proofs.run.Goals as goal

pub returns-then-not-pair : goal.returns-then-not-pair
returns-then-not-pair c =
    let a = c.args in
    unpaired-ran a.members a.first (ranges a.list.now a.all.now a.queues.now) a.steps.now a.answers.now (sym c.pair.ensures ∙ not-true _ c.if-not-pair.true-raw)

pub each-requires : goal.each-requires
each-requires c = ((λ _. stays-begun _ _ _ _ _ c.start.ensures c.in_ok-start.was), paired_long _ _ (sym c.pair.ensures ∙ not-false _ c.if-not-pair.false-raw))

pub returns-in_err-start : goal.returns-in_err-start
returns-in_err-start c =
    let a = c.args in
    let whole = sym c.pair.ensures ∙ not-false _ c.if-not-pair.false-raw in
    let p = err_from_is_err_and c.from_residual.result c.from_residual.ensures.1 in
    rw (p.1, p.2)
    (unstarted-ran a.members a.first (ranges a.list.now a.all.now a.queues.now) a.steps.now a.answers.now whole _ _ c.start.ensures _ c.in_err-start.was)

pub returns : goal.returns
returns c =
    let a = c.args in
    let whole = sym c.pair.ensures ∙ not-false _ c.if-not-pair.false-raw in
    all-ran a.members a.first (ranges a.list.now a.all.now a.queues.now) a.steps.now a.answers.now whole _ _
    c.start.ensures c.in_ok-start.was _ _ c.each.ensures
