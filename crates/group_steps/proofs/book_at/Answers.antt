-- `group_steps::book_at` meets its contract.
use mathlib.Core.Path.{sym}
use borrow.Author.Tests.{le-ltb}
use Rattle.views.proofs.VerdictLaws.{need-unmet}
use Rattle.group_steps.proofs.OwnStepLaws.{place-given}
use Rattle.group_steps.proofs.book_at.Goals as goal

pub returns-then-all-p : goal.returns-then-all-p
returns-then-all-p c = sym (need-unmet _ _ (le-ltb _ _ c.if-all-p.true))

pub returns : goal.returns
returns c = place-given c.args.all.now c.args.p.0 c.if-all-p.false
