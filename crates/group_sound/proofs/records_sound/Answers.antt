-- `group_sound::records_sound` meets its contract: it asks the three parts in their order.
use mathlib.Core.Path.{◌≡◌, sym, ◌∙◌}
use mathlib.Core.Bool.{true}
use native.Mathlib.Omega.{arith}
use Rattle.std.proofs.lemmas.Grind.{common_steps}
use Rattle.wire.specs.Reader.{views_in}
use Rattle.wire.proofs.ReaderLaws.{length-views_in}
use Rattle.rules.proofs.Truth.{three}
use Rattle.group_sound.specs.Parts.{list_sound, records_sound}
use Rattle.group_sound.proofs.Tests.{list-rises}
use Rattle.group_sound.proofs.records_sound.Goals as goal

pub members_sound-requires : goal.members_sound-requires
members_sound-requires c =
    let a = c.args in
    let e = c.requires in
    (e.0, e.1, e.2, e.3, list-rises a.n (views_in a.list.now 0 a.made) (sym c.sound.ensures ∙ c.if-sound.true))

pub tables_sound-requires : goal.tables_sound-requires
tables_sound-requires c =
    let a = c.args in
    let e = c.requires in
    let sound : list_sound a.n (views_in a.list.now 0 a.made) ≡ true = grind (arith, common_steps) in
    (e.0, e.2, e.3, sound)

pub returns-then-members_sound : goal.returns-then-members_sound
unfolding records_sound
returns-then-members_sound c = rw (three, length-views_in) (grind (arith, common_steps))

pub returns-else-members_sound : goal.returns-else-members_sound
unfolding records_sound
returns-else-members_sound c = rw three (grind (arith, common_steps))
