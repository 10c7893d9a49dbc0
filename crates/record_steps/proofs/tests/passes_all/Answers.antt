-- `record_steps::tests::passes_all` meets its contract: it checks the settled view, then every open one.
use Rattle.std.proofs.Common.{◌≡◌, sym, ◌∙◌, rules, arith, length}
use Prim.Native.Nat.{min}
use Rattle.views.specs.Limits.{max_views}
use borrow.Author.Tests.{tests}
use Rattle.std.proofs.lemmas.List.{take_min}
use Rattle.std.proofs.lemmas.Iterator.{YieldsList-from_slice}
use Rattle.std.proofs.lemmas.Iterator.Search.{all_from_yields_List}
use Rattle.views.specs.Sets.{one, majority_of}
use Rattle.views.specs.Lists.{list_of}
use Rattle.rules.specs.Member.{all, passes}
use Rattle.record_steps.proofs.AskLaws.{all-list, passes-majority}
use Rattle.record_steps.proofs.tests.passes_all.Goals as goal

pub returns-then-majority : goal.returns-then-majority
unfolding all passes majority_of
returns-then-majority c =
    let a = c.args in
    let long : length a.opens.at ≡ max_views = search rules in
    let used : c.used-n.result ≡ min a.opens.count (length a.opens.at) = omega arith in
    let open-views : c.iter.result.rest.now ≡ list_of a.opens = c.iter.ensures.rest ∙ rw used (take_min a.opens.count a.opens.at) in
    let all-pass : c.all.result ≡ all (passes one a.v) (list_of a.opens) =
    all_from_yields_List (passes one a.v) _ _ c.all.result c.all.ensures.ran (YieldsList-from_slice (list_of a.opens) open-views) (λ x b q k. search (rules, tests))
    ∙ all-list (passes one a.v) (list_of a.opens)
    in
    rw (passes-majority a.v a.settled, sym c.majority.ensures ∙ c.if-majority.true) all-pass

pub returns-else-majority : goal.returns-else-majority
unfolding all
returns-else-majority c = rw (passes-majority c.args.v c.args.settled, sym c.majority.ensures ∙ c.if-majority.false) c.if-majority.false
