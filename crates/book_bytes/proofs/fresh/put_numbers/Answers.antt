-- `book_bytes::fresh::put_numbers` meets its contract: two bytes written.
use native.Mathlib.Omega.{arith}
use lib.ListN.{length-set}
use Rattle.book_bytes.proofs.fresh.put_numbers.Goals as goal

pub bounds-b-1 : goal.bounds-b-1
bounds-b-1 c = simp length-set (omega arith)
