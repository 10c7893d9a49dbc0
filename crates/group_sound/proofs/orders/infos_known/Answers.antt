-- `group_sound::orders::infos_known` meets its contract: each of the first entries is asked.
use Rattle.std.proofs.Common.{refl, ◌∙◌, ◌<◌, rules, arith}
use borrow.Author.Tests.{tests}
use Rattle.std.proofs.lemmas.Iterator.{serves_from_Range, YieldsList-from_range}
use Rattle.std.proofs.lemmas.Iterator.Search.{all_from_yields_List}
use Rattle.wire.specs.Reader.{views_in}
use Rattle.group_sound.specs.OrderParts.{infos_known}
use Rattle.group_sound.proofs.Walks.{every_listed}
use Rattle.group_sound.proofs.orders.infos_known.Goals as goal

pub all-requires : goal.all-requires
all-requires c = record {
  can = tt;
  finite = tt;
  callable = serves_from_Range (λ x q k. search rules) (λ x lo hi. let h : x < 128 = omega (arith, c.requires.2) in search rules);
}

pub returns : goal.returns
returns c =
    let a = c.args in
    let test = infos_known (views_in a.list.now 0 a.made) a.q.now a.c in
    all_from_yields_List test _ _ _ c.all.ensures.ran (YieldsList-from_range 0 a.count a.count refl (omega arith)) (λ x b q k. search (rules, tests))
    ∙ every_listed test a.count
