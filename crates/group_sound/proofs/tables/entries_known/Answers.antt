-- `group_sound::tables::entries_known` meets its contract: the slots are asked in turn.
use Rattle.std.proofs.Common.{refl, ◌∙◌, ◌≤◌, ◌+◌, ◌*◌, length, rules, arith}
use borrow.Author.Tests.{tests}
use Rattle.std.proofs.lemmas.Iterator.{serves_from_Range, YieldsList-from_range}
use Rattle.std.proofs.lemmas.Iterator.Search.{all_from_yields_List}
use Rattle.wire.specs.Reader.{views_in}
use Rattle.slots.specs.Slots.{slot_size}
use Rattle.group_sound.specs.Parts.{entry_known}
use Rattle.group_sound.proofs.Walks.{known_listed}
use Rattle.group_sound.proofs.tables.entries_known.Goals as goal

pub all-requires : goal.all-requires
all-requires c = record {
  can = tt;
  finite = tt;
  callable = serves_from_Range (λ x q k. search rules)
      (λ x lo hi. let h : c.args.at + slot_size * x + slot_size ≤ length c.args.q.now = omega (arith, c.requires.1) in search rules);
}

pub returns : goal.returns
returns c =
    let a = c.args in
    let views = views_in a.list.now 0 a.made in
    all_from_yields_List (λ i. entry_known views a.n a.q.now (a.at + slot_size * i)) _ _ _ c.all.ensures.ran
    (YieldsList-from_range 0 a.count a.count refl (omega arith)) (λ x b q k. search (rules, tests))
    ∙ known_listed a.q.now a.at views a.n a.count
