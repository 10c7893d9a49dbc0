-- `member::startable` meets its contract: 4, 1, 2, 6, in this order.
use Rattle.std.proofs.Common.{◌≡◌, sym, ◌∙◌, arith}
use Rattle.std.proofs.lemmas.Grind.{common_steps}
use Rattle.views.specs.Limits.{max_members}
use Rattle.rules.specs.Sound.{within}
use Rattle.rules.proofs.TestLaws.{within-says}
use Rattle.member.proofs.StartLaws.{start-length, start-outside, start-unfit, start-beyond, start-passes}
use Rattle.member.proofs.startable.Goals as goal

pub returns-then-b-ne-SIZE : goal.returns-then-b-ne-SIZE
returns-then-b-ne-SIZE c = start-length c.args.members c.args.set c.args.own.0 c.args.b.now c.if-b-ne-SIZE.true

pub returns-then-not-contains : goal.returns-then-not-contains
returns-then-not-contains c =
    let in-range : c.contains.result ≡ within 1 c.args.members max_members = grind (arith, common_steps) in
    start-outside c.args.members c.args.set c.args.own.0 c.args.b.now (omega arith) (sym in-range ∙ c.if-not-contains.true)

pub returns-then-not-set_fits : goal.returns-then-not-set_fits
returns-then-not-set_fits c =
    let in-range : c.contains.result ≡ within 1 c.args.members max_members = grind (arith, common_steps) in
    let some = within-says 1 c.args.members max_members (sym in-range ∙ c.if-not-contains.false) in
    start-unfit c.args.members c.args.set c.args.own.0 c.args.b.now (omega arith) some.0 some.1 (sym c.set_fits.ensures ∙ c.if-not-set_fits.true)

pub returns-then-members-own : goal.returns-then-members-own
returns-then-members-own c =
    let in-range : c.contains.result ≡ within 1 c.args.members max_members = grind (arith, common_steps) in
    let some = within-says 1 c.args.members max_members (sym in-range ∙ c.if-not-contains.false) in
    start-beyond c.args.members c.args.set c.args.own.0 c.args.b.now (omega arith) some.0 some.1 (sym c.set_fits.ensures ∙ c.if-not-set_fits.false) c.if-members-own.true

pub returns : goal.returns
returns c =
    let in-range : c.contains.result ≡ within 1 c.args.members max_members = grind (arith, common_steps) in
    let some = within-says 1 c.args.members max_members (sym in-range ∙ c.if-not-contains.false) in
    sym (start-passes c.args.members c.args.set c.args.own.0 c.args.b.now (omega arith) some.0 some.1 (sym c.set_fits.ensures ∙ c.if-not-set_fits.false) (omega arith))
