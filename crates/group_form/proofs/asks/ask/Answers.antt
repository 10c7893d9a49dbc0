-- `group_form::asks::ask` meets its contract: each refusal at its place in the row, and the view found is the last of the list.
use mathlib.Core.Path.{sym, ◌∙◌}
use native.Mathlib.Omega.{arith}
use borrow.Author.Tests.{not-true, not-false}
use Rattle.group_bytes.specs.Groups.{ranges}
use Rattle.group_steps.proofs.Rows.{ranged, made-rise}
use Rattle.group_form.proofs.AskLaws.{no-view, not_last, joined, fails, takes}
use Rattle.group_form.proofs.asks.ask.Goals as goal

pub bounds-queues-0 : goal.bounds-queues-0
bounds-queues-0 c =
    let s = c in
    let r = ranges s.args.list.now s.args.all.now s.args.queues.now in
    omega (arith, (ranged r s.requires).queues)

pub place-i-requires : goal.place-i-requires
place-i-requires c =
    let s = c in
    let r = ranges s.args.list.now s.args.all.now s.args.queues.now in
    (omega (arith, (ranged r s.requires).made.1), made-rise r s.requires)

pub returns-then-made-i : goal.returns-then-made-i
returns-then-made-i c =
    let s = c in
    let r = ranges s.args.list.now s.args.all.now s.args.queues.now in
    no-view r s.args.id.0 c.place-i.result c.place-i.ensures c.if-made-i.true

pub overflow_add-i : goal.overflow_add-i
overflow_add-i c =
    let s = c in
    let r = ranges s.args.list.now s.args.all.now s.args.queues.now in
    let fits = ranged r s.requires in
    omega (arith, c.if-made-i.false, fits.made.1, fits.room.1)

pub returns-then-i-made : goal.returns-then-i-made
returns-then-i-made c =
    let s = c in
    let r = ranges s.args.list.now s.args.all.now s.args.queues.now in
    not_last r s.args.id.0 c.place-i.result c.place-i.ensures s.requires c.if-made-i.false c.if-i-made.true

pub none_joined-requires : goal.none_joined-requires
none_joined-requires c =
    let s = c in
    let r = ranges s.args.list.now s.args.all.now s.args.queues.now in
    let fits = ranged r s.requires in
    (fits.books, fits.members.1)

pub returns-then-not-none_joined : goal.returns-then-not-none_joined
returns-then-not-none_joined c =
    let s = c in
    let r = ranges s.args.list.now s.args.all.now s.args.queues.now in
    let i = c.place-i in
    joined r s.args.id.0 i.result i.ensures s.requires c.if-made-i.false c.if-i-made.false
    (sym c.none_joined.ensures ∙ not-true _ c.if-not-none_joined.true-raw)

pub load_view-v-requires : goal.load_view-v-requires
load_view-v-requires c =
    let s = c in
    let r = ranges s.args.list.now s.args.all.now s.args.queues.now in
    omega (arith, c.if-made-i.false, (ranged r s.requires).made.1)

pub passes_held-requires : goal.passes_held-requires
passes_held-requires c =
    let s = c in
    let r = ranges s.args.list.now s.args.all.now s.args.queues.now in
    let fits = ranged r s.requires in
    (fits.books, fits.members.1)

pub returns-then-not-passes_held : goal.returns-then-not-passes_held
returns-then-not-passes_held c =
    let s = c in
    let r = ranges s.args.list.now s.args.all.now s.args.queues.now in
    let i = c.place-i in
    let free = sym c.none_joined.ensures ∙ not-false _ c.if-not-none_joined.false-raw in
    let v = c.load_view-v in
    fails r s.args.id.0 i.result i.ensures s.requires c.if-made-i.false c.if-i-made.false
    free v.result v.ensures
    (sym c.passes_held.ensures ∙ not-true _ c.if-not-passes_held.true-raw)

pub returns : goal.returns
returns c =
    let s = c in
    let r = ranges s.args.list.now s.args.all.now s.args.queues.now in
    let i = c.place-i in
    let free = sym c.none_joined.ensures ∙ not-false _ c.if-not-none_joined.false-raw in
    let v = c.load_view-v in
    takes r s.args.id.0 i.result i.ensures s.requires c.if-made-i.false c.if-i-made.false
    free v.result v.ensures
    (sym c.passes_held.ensures ∙ not-false _ c.if-not-passes_held.false-raw)
