-- `group_sound::tables::queue_sound` meets its contract: a count within its limit has its slots within the bytes.
use mathlib.Core.Path.{sym, ◌∙◌}
use Prim.Native.Nat.{◌+◌}
use borrow.Author.Tests.{le-leb, lt-leb}
use lib.ListN.{get_or}
use Rattle.wire.specs.Reader.{views_in}
use Rattle.rules.proofs.Truth.{stopped, four}
use Rattle.group_sound.specs.Parts.{queue_sound}
use Rattle.group_sound.proofs.Walks.{known-are}
use Rattle.group_sound.proofs.tables.queue_sound.Goals as goal

pub returns-then-q-at-le-WAITING : goal.returns-then-q-at-le-WAITING
unfolding queue_sound
returns-then-q-at-le-WAITING c =
    let a = c.args in
    c.entries_known.ensures ∙ known-are (views_in a.list.now 0 a.made) a.n a.q.now (a.at + 1) (get_or a.q.now a.at 0) ∙ sym (four _ _ _ _ ∙ rw (le-leb _ _ c.if-q-at-le-WAITING.true))

pub returns-else-q-at-le-WAITING : goal.returns-else-q-at-le-WAITING
unfolding queue_sound
returns-else-q-at-le-WAITING c = let over = lt-leb _ _ c.if-q-at-le-WAITING.false in over ∙ sym (stopped _ 0 over)
