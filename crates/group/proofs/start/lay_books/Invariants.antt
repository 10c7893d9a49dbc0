-- `group::start::lay_books` meets its contract: after p turns the members below p have their books.
use mathlib.Core.Path.{◌≡◌}
use lib.ListN.{length}
use Rattle.group_bytes.specs.Places.{books_size}
use Rattle.group_bytes.specs.Starts.{start_books}
use Rattle.group.proofs.start.lay_books.Given as goal

abbrev pub invariant-loop-p : goal.invariant-loop-p
invariant-loop-p l = (length l.initial.all ≡ books_size) × (l.all ≡ start_books l.members l.first l.p l.initial.all)
