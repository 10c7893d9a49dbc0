-- `book_bytes::fresh::record` meets its contract: the first view is there for its members.
use mathlib.Core.Path.{◌≡◌, refl, sym, ◌∙◌}
use mathlib.Core.Bool.{true, false}
use Rattle.views.specs.Lists.{places}
use Rattle.views.specs.Sets.{has}
use Rattle.book_bytes.proofs.fresh.record.Goals as goal

pub returns-then-there : goal.returns-then-there
unfolding places
returns-then-there c = let t : has c.args.set c.args.own.0 ≡ true = sym c.contains-there.ensures ∙ c.if-there.true in rw (c.if-there.true, t) refl

pub returns-else-there : goal.returns-else-there
unfolding places
returns-else-there c = let t : has c.args.set c.args.own.0 ≡ false = sym c.contains-there.ensures ∙ c.if-there.false in rw (c.if-there.false, t) refl
