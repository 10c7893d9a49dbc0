-- The place and the byte are the line's operands.
use mathlib.Core.Path.{refl}
use Rattle.test_stories.proofs.poke.Goals as goal

pub returns : goal.returns
returns g c = rw (c.upto.ensures, c.byte.ensures) refl
