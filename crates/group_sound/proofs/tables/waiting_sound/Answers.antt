-- `group_sound::tables::waiting_sound` meets its contract: what waits for each member is asked.
use Rattle.std.proofs.Common.{refl, ◌∙◌, ℕ, ◌≤◌, ◌+◌, length, rules, arith}
use borrow.Author.Tests.{tests}
use Rattle.std.proofs.lemmas.Iterator.{serves_from_Range, YieldsList-from_range}
use Rattle.std.proofs.lemmas.Iterator.Search.{all_from_yields_List}
use Rattle.wire.specs.Reader.{views_in}
use Rattle.group_bytes.specs.Places.{waiting_at, waiting_size}
use Rattle.group_sound.specs.Parts.{queue_sound, waiting_sound}
use Rattle.group_sound.proofs.Walks.{every_listed}
use Rattle.group_sound.proofs.tables.waiting_sound.Goals as goal

pub all-requires : goal.all-requires
all-requires c = record {
  can = tt;
  finite = tt;
  callable = serves_from_Range (λ x q k. search rules)
      (λ x lo hi. let h : waiting_at c.args.i x + waiting_size ≤ length c.args.q.now = omega (arith, c.requires.1) in search rules);
}

pub returns : goal.returns
unfolding waiting_sound
returns c =
    let a = c.args in
    let test = λ (p : ℕ). queue_sound (views_in a.list.now 0 a.made) a.n a.q.now (waiting_at a.i p) in
    all_from_yields_List test _ _ _ c.all.ensures.ran (YieldsList-from_range 0 a.n a.n refl (omega arith)) (λ x b q k. search (rules, tests))
    ∙ every_listed test a.n
