-- The line's operand goes to the book's place.
use mathlib.Core.Path.{ap}
use Prim.Native.Nat.{ℕ}
use Rattle.test_stories.specs.DeskParts.{with_lent}
use Rattle.test_stories.proofs.desk.lend.Goals as goal

pub returns : goal.returns
returns c = ap (λ (x : ℕ). with_lent c.args.d c.args.k x) c.upto.ensures
