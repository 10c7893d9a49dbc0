-- `sets::beyond` meets its contract: below the number that the shift is done in, a shift leaves what is beyond, and a byte is
-- beyond no bound of eight or more.
use mathlib.Core.Path.{sym, ◌∙◌}
use native.Mathlib.Omega.{arith}
use Rattle.std.proofs.lemmas.Bool.{le-ltb}
use Rattle.views.specs.Limits.{max_members}
use Rattle.views.proofs.SetLaws.{beyond-past, beyond-shift}
use Rattle.sets.proofs.beyond.Goals as goal

pub returns-then-members-lt-BITS : goal.returns-then-members-lt-BITS
returns-then-members-lt-BITS c = beyond-shift c.args.set c.args.members

pub returns-else-members-lt-BITS : goal.returns-else-members-lt-BITS
returns-else-members-lt-BITS c = le-ltb _ _ c.if-members-lt-BITS.false ∙ sym (beyond-past c.args.set max_members c.args.members c.ranges.set.fits (omega (arith, c.if-members-lt-BITS.false)))
