-- `group_sound::tables::tables_sound` meets its contract: every table is asked.
use Rattle.std.proofs.Common.{refl, ◌∙◌, ◌≤◌, ◌+◌, length, rules, arith}
use borrow.Author.Tests.{tests}
use Rattle.std.proofs.lemmas.Iterator.{serves_from_Range, YieldsList-from_range}
use Rattle.std.proofs.lemmas.Iterator.Search.{all_from_yields_List}
use Rattle.wire.specs.Reader.{views_in}
use Rattle.group_bytes.specs.Places.{order_at}
use Rattle.group_sound.specs.Parts.{table_sound}
use Rattle.group_sound.proofs.Walks.{every_listed}
use Rattle.group_sound.proofs.tables.tables_sound.Goals as goal

pub all-requires : goal.all-requires
all-requires c = record {
  can = tt;
  finite = tt;
  callable = serves_from_Range (λ x q k. search rules)
      (λ x lo hi. let h : order_at (x + 1) ≤ length c.args.q.now = omega (arith, c.requires.1) in search rules);
}

pub returns : goal.returns
returns c =
    let a = c.args in
    let test = table_sound (views_in a.list.now 0 a.made) a.n a.q.now in
    all_from_yields_List test _ _ _ c.all.ensures.ran (YieldsList-from_range 0 a.made a.made refl (omega arith)) (λ x b q k. search (rules, tests))
    ∙ every_listed test a.made
