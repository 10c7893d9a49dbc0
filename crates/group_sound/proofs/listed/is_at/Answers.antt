-- `group_sound::listed::is_at` meets its contract: with no place the view is not listed, and at its place it is if the set is its own.
use mathlib.Core.Path.{sym, ◌∙◌}
use borrow.Author.Tests.{le-ltb}
use Rattle.group_sound.proofs.ListedLaws.{view-nowhere, view-there}
use Rattle.group_sound.proofs.listed.is_at.Goals as goal

pub returns-then-i-made : goal.returns-then-i-made
returns-then-i-made c =
    let a = c.args in
    view-there a.list.now a.made a.v a.i c.requires.2 c.requires.1 c.if-i-made.true

pub returns-else-i-made : goal.returns-else-i-made
returns-else-i-made c =
    let a = c.args in
    le-ltb _ _ c.if-i-made.false ∙ sym (view-nowhere a.list.now a.made a.v a.i c.requires.2 c.if-i-made.false)
