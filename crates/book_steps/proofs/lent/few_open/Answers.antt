-- `book_steps::lent::few_open` meets its contract: more than 31 open views are refused.
use native.Mathlib.Omega.{arith}
use Rattle.book_steps.proofs.LentLaws.{few-over, few-kept}
use Rattle.book_steps.proofs.lent.few_open.Goals as goal

pub returns-then-h-gt-OPEN : goal.returns-then-h-gt-OPEN
returns-then-h-gt-OPEN c = few-over _ c.if-h-gt-OPEN.true

pub returns : goal.returns
returns c = few-kept _ (omega (arith, c.if-h-gt-OPEN.false))
