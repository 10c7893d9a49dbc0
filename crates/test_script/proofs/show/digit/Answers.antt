-- A digit up to 9, or a letter.
use mathlib.Core.Path.{refl}
use native.Mathlib.Omega.{arith}
use borrow.Author.Tests.{lt-ltb, le-ltb}
use Rattle.test_script.proofs.show.digit.Goals as goal

pub returns-then-x-lt10 : goal.returns-then-x-lt10
returns-then-x-lt10 c = rw (lt-ltb _ _ c.if-x-lt10.true) refl

pub returns-else-x-lt10 : goal.returns-else-x-lt10
returns-else-x-lt10 c = rw (le-ltb _ _ c.if-x-lt10.false) (omega arith)
