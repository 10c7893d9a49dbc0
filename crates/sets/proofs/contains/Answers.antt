-- `sets::contains` meets its contract: the digits of a byte are read by a shift, and it has none past its eight.
use mathlib.Core.Path.{refl, sym, ◌∙◌}
use Rattle.std.proofs.lemmas.Bool.{le-ltb}
use Rattle.views.specs.Limits.{max_members}
use Rattle.views.specs.Sets.{has}
use Rattle.views.proofs.SetLaws.{has-past}
use Rattle.sets.proofs.contains.Goals as goal

pub returns-then-member-lt-MEMBERS : goal.returns-then-member-lt-MEMBERS
unfolding has
returns-then-member-lt-MEMBERS c = refl

pub returns-else-member-lt-MEMBERS : goal.returns-else-member-lt-MEMBERS
returns-else-member-lt-MEMBERS c = le-ltb _ _ c.if-member-lt-MEMBERS.false ∙ sym (has-past c.args.set max_members c.args.member.0 c.ranges.set.fits c.if-member-lt-MEMBERS.false)
