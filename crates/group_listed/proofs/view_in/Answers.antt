-- `group_listed::view_in` meets its contract.
use borrow.Author.Tests.{lt-ltb, le-ltb}
use Rattle.group_listed.specs.Parts.{view_or}
use Rattle.group_listed.proofs.view_in.Goals as goal

pub returns-then-bytes-i : goal.returns-then-bytes-i
unfolding view_or
returns-then-bytes-i c = rw (le-ltb _ _ c.if-bytes-i.true)

pub returns : goal.returns
unfolding view_or
returns c = rw (lt-ltb _ _ c.if-bytes-i.false) c.load_view.ensures
