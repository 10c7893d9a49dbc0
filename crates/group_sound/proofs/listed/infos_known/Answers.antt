-- `group_sound::listed::infos_known` meets its contract: the slots are asked in turn.
use Rattle.std.proofs.Common.{refl, ◌≡◌, ◌∙◌, ◌≤◌, ◌+◌, ◌*◌, length, true, rules, arith}
use borrow.Author.Tests.{tests}
use Rattle.std.proofs.lemmas.Iterator.{serves_from_Range, YieldsList-from_range}
use Rattle.std.proofs.lemmas.Iterator.Search.{all_from_yields_List}
use Rattle.wire.specs.Reader.{views_in}
use Rattle.slots.specs.Slots.{slot_size, entry_in, slot_fits}
use Rattle.slots.proofs.Lists.{slots_at}
use Rattle.group_sound.specs.Parts.{info_known}
use Rattle.group_sound.proofs.Walks.{entries_listed}
use Rattle.group_sound.proofs.listed.infos_known.Goals as goal

pub all-requires : goal.all-requires
all-requires c = record {
  can = tt;
  finite = tt;
  callable = serves_from_Range (λ x q k. search rules)
      (λ x lo hi.
      let a = c.args in
      let within : a.at + slot_size * x + slot_size ≤ length a.b.now = omega (arith, c.requires.1) in
      let fits : slot_fits a.b.now (a.at + slot_size * x) ≡ true = slots_at a.b.now a.at a.count x hi c.requires.3 in
      search rules);
}

pub returns : goal.returns
returns c =
    let a = c.args in
    let known = info_known (views_in a.list.now 0 a.made) in
    all_from_yields_List (λ i. known (entry_in a.b.now (a.at + slot_size * i))) _ _ _ c.all.ensures.ran
    (YieldsList-from_range 0 a.count a.count refl (omega arith)) (λ x b q k. search (rules, tests))
    ∙ entries_listed a.b.now a.at known a.count
