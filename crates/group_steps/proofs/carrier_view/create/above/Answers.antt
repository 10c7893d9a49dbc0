-- `group_steps::carrier_view::create::above` meets its contract: each view's identifier is asked.
use Rattle.std.proofs.Common.{refl, ◌∙◌, ◌≤◌, ◌+◌, ◌*◌, length, rules, arith}
use borrow.Author.Tests.{tests}
use lib.Dec.{ltb}
use Rattle.std.proofs.lemmas.Iterator.{serves_from_Range, YieldsList-from_range}
use Rattle.std.proofs.lemmas.Iterator.Search.{all_from_yields_List}
use Rattle.numbers.specs.Number.{get}
use Rattle.views.specs.Sizes.{view_size}
use Rattle.group_steps.proofs.CreateLaws.{below_listed}
use Rattle.group_steps.proofs.carrier_view.create.above.Goals as goal

pub all-requires : goal.all-requires
all-requires c = record {
  can = tt;
  finite = tt;
  callable = serves_from_Range (λ x q k. search rules) (λ x lo hi. let h : view_size * x + view_size ≤ length c.args.list.now = omega arith in search rules);
}

pub returns : goal.returns
returns c =
    let a = c.args in
    all_from_yields_List (λ i. ltb (get a.list.now (view_size * i) 4) a.id.0) _ _ _ c.all.ensures.ran (YieldsList-from_range 0 a.n a.n refl (omega arith))
    (λ x b q k. search (rules, tests))
    ∙ below_listed a.list.now a.id.0 a.n
