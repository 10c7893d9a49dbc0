-- `group_listed::next` meets its contract.
use Rattle.std.proofs.Common.{rules}
use borrow.Author.Tests.{lt-ltb, le-ltb}
use Rattle.group_listed.specs.Parts.{next_of}
use Rattle.group_listed.proofs.next.Goals as goal

pub returns-then-n-gt-VIEWS : goal.returns-then-n-gt-VIEWS
unfolding next_of
returns-then-n-gt-VIEWS c = rw (lt-ltb _ _ c.if-n-gt-VIEWS.true)

pub returns : goal.returns
unfolding next_of
returns c = rw (le-ltb _ _ c.if-n-gt-VIEWS.false) (search rules)
