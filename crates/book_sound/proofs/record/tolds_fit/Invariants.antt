-- `book_sound::record::tolds_fit` meets its contract: the counts of the members below q are within their limit, and past the places there is none.
use Rattle.book_sound.proofs.Walks.{ToldsFit}
use Rattle.book_sound.proofs.record.tolds_fit.Given as goal

abbrev pub invariant-loop-q : goal.invariant-loop-q
invariant-loop-q l = ToldsFit l.n l.tolds l.q
