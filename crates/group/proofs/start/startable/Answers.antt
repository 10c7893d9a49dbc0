use mathlib.Core.Path.{sym, ◌∙◌}
use native.Mathlib.Omega.{arith}
use borrow.Author.Tests.{not-true, not-false}
use Rattle.group.proofs.BeginLaws.{begin-short, begin-none, begin-many, begin-unfit, begin-empty, begin-longer, begin-accepted}
use Rattle.group.proofs.start.startable.Goals as goal

pub returns-then-not-long : goal.returns-then-not-long
returns-then-not-long c =
    let a = c.args in
    begin-short a.members a.first (record { list = a.list.now; books = a.all.now; queues = a.queues.now }) (sym c.long.ensures ∙ not-true _ c.if-not-long.true-raw)

pub returns-then-members-lt1 : goal.returns-then-members-lt1
returns-then-members-lt1 c =
    let a = c.args in
    begin-none a.members a.first (record { list = a.list.now; books = a.all.now; queues = a.queues.now }) (sym c.long.ensures ∙ not-false _ c.if-not-long.false-raw) c.if-members-lt1.true

pub returns-then-members-gt-MEMBERS : goal.returns-then-members-gt-MEMBERS
returns-then-members-gt-MEMBERS c = begin-many c.args.members c.args.first (record { list = c.args.list.now; books = c.args.all.now; queues = c.args.queues.now }) (sym c.long.ensures ∙ not-false _ c.if-not-long.false-raw) (omega (arith, c.if-members-lt1.false)) c.if-members-gt-MEMBERS.true

pub returns-then-not-set_fits : goal.returns-then-not-set_fits
returns-then-not-set_fits c = begin-unfit c.args.members c.args.first (record { list = c.args.list.now; books = c.args.all.now; queues = c.args.queues.now }) (sym c.long.ensures ∙ not-false _ c.if-not-long.false-raw) (omega (arith, c.if-members-lt1.false)) (omega (arith, c.if-members-gt-MEMBERS.false)) (sym c.set_fits.ensures ∙ not-true _ c.if-not-set_fits.true-raw)

pub returns-then-room-lt1 : goal.returns-then-room-lt1
returns-then-room-lt1 c = begin-empty c.args.members c.args.first (record { list = c.args.list.now; books = c.args.all.now; queues = c.args.queues.now }) (sym c.long.ensures ∙ not-false _ c.if-not-long.false-raw) (omega (arith, c.if-members-lt1.false)) (omega (arith, c.if-members-gt-MEMBERS.false)) (sym c.set_fits.ensures ∙ not-false _ c.if-not-set_fits.false-raw) c.if-room-lt1.true

pub returns-then-room-gt-VIEWS : goal.returns-then-room-gt-VIEWS
returns-then-room-gt-VIEWS c = begin-longer c.args.members c.args.first (record { list = c.args.list.now; books = c.args.all.now; queues = c.args.queues.now }) (sym c.long.ensures ∙ not-false _ c.if-not-long.false-raw) (omega (arith, c.if-members-lt1.false)) (omega (arith, c.if-members-gt-MEMBERS.false)) (sym c.set_fits.ensures ∙ not-false _ c.if-not-set_fits.false-raw) (omega (arith, c.if-room-lt1.false)) c.if-room-gt-VIEWS.true

pub returns : goal.returns
returns c = begin-accepted c.args.members c.args.first (record { list = c.args.list.now; books = c.args.all.now; queues = c.args.queues.now }) (sym c.long.ensures ∙ not-false _ c.if-not-long.false-raw) (omega (arith, c.if-members-lt1.false)) (omega (arith, c.if-members-gt-MEMBERS.false)) (sym c.set_fits.ensures ∙ not-false _ c.if-not-set_fits.false-raw) (omega (arith, c.if-room-lt1.false)) (omega (arith, c.if-room-gt-VIEWS.false))
