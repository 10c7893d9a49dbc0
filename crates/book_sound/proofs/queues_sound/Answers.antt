-- `book_sound::queues_sound` meets its contract: a layout that fits has every queue within the bytes, and each is tested where it lies.
use Rattle.std.proofs.Common.{arith, sym, ◌∙◌}
use Rattle.std.proofs.lemmas.Grind.{common_steps}
use Rattle.rules.proofs.Truth.{three}
use Rattle.book_bytes.proofs.LayoutLaws.{layout-says}
use Rattle.book_sound.specs.Parts.{queues_sound}
use Rattle.book_sound.proofs.queues_sound.Goals as goal

pub bounds-b-191 : goal.bounds-b-191
bounds-b-191 c = let l = layout-says c.args.b.now c.requires.0 in omega (arith, l.size)

pub bounds-b-34 : goal.bounds-b-34
bounds-b-34 c = let l = layout-says c.args.b.now c.requires.0 in omega (arith, l.size)

pub entries_sound-requires : goal.entries_sound-requires
entries_sound-requires c = let l = layout-says c.args.b.now c.requires.0 in (omega (arith, l.size, l.outgoing), l.slots)

pub inward_sound-requires : goal.inward_sound-requires
inward_sound-requires c = let l = layout-says c.args.b.now c.requires.0 in (c.requires.0, l.side, c.requires.1)

pub overflow_sub-side : goal.overflow_sub-side
overflow_sub-side c = let l = layout-says c.args.b.now c.requires.0 in omega (arith, l.side)

pub returns-then-inward_sound : goal.returns-then-inward_sound
unfolding queues_sound
returns-then-inward_sound c = sym (three _ _ _ ∙ grind (arith, common_steps))

pub returns-else-inward_sound : goal.returns-else-inward_sound
unfolding queues_sound
returns-else-inward_sound c = sym (three _ _ _ ∙ grind (arith, common_steps))
