-- `group_listed::list::sound` meets its contract: each way out with the tests that led to it.
use mathlib.Core.Path.{◌≡◌, sym, ◌∙◌}
use lib.ListN.{length}
use Rattle.group_listed.proofs.CreateLaws.{counts-unfit, not-rising, rising-sets}
use Rattle.group_listed.proofs.list.sound.Goals as goal

pub returns-then-not-counts_fit : goal.returns-then-not-counts_fit
returns-then-not-counts_fit c =
    let z : length c.args.l.at ≡ 32 = c.well_formed.0.1.1.1.0.1.0.1 in
    counts-unfit c.args.members c.args.made c.args.l z (sym c.counts_fit.ensures ∙ c.if-not-counts_fit.true)

pub returns-else-rising : goal.returns-else-rising
returns-else-rising c =
    let z : length c.args.l.at ≡ 32 = c.well_formed.0.1.1.1.0.1.0.1 in
    c.if-rising.false ∙ not-rising c.args.members c.args.made c.args.l z (sym c.counts_fit.ensures ∙ c.if-not-counts_fit.false) c.first-views.result c.first-views.ensures (sym c.rising.ensures ∙ c.if-rising.false)

pub returns-then-rising : goal.returns-then-rising
returns-then-rising c =
    let z : length c.args.l.at ≡ 32 = c.well_formed.0.1.1.1.0.1.0.1 in
    c.sets_fit.ensures ∙ rising-sets c.args.members c.args.made c.args.l z (sym c.counts_fit.ensures ∙ c.if-not-counts_fit.false) c.first-views.result c.first-views.ensures (sym c.rising.ensures ∙ c.if-rising.true)
