-- `group_sound::listed::opens_known` meets its contract: without an open view there is nothing to look up.
use mathlib.Core.Path.{sym, ◌∙◌}
use Prim.Native.Nat.{◌+◌}
use borrow.Author.Tests.{eq-eqb}
use lib.ListN.{get_or}
use Rattle.wire.specs.Reader.{views_in}
use Rattle.book_bytes.specs.Places.{opens_at}
use Rattle.group_sound.proofs.ListedLaws.{no-views}
use Rattle.group_sound.proofs.listed.opens_known.Goals as goal

pub returns-then-opens-eq0 : goal.returns-then-opens-eq0
returns-then-opens-eq0 c =
    let a = c.args in
    let none = c.if-opens-eq0.true in
    eq-eqb _ _ none ∙ sym (no-views (views_in a.list.now 0 a.made) a.b.now (opens_at + 1) (get_or a.b.now opens_at 0) none)
