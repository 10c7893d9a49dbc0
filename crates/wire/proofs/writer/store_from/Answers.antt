-- `writer::store_from` meets its contract: the three parts stand one behind the other; the views and the number are copied as they stand.
use native.Mathlib.Omega.{arith}
use Rattle.wire.proofs.WriterLaws.{from-stored}
use Rattle.wire.proofs.writer.store_from.Goals as goal

pub returns : goal.returns
returns c =
    let a = c.args in
    from-stored a.view.0 a.n a.m a.from.now a.at a.out.now _ _ _ c.requires.4 (λ j. omega (arith, c.shared_slice_known-1.given j))
    (rw c.kind.ensures at c.store_front.ensures) c.copy.ensures c.copy_numbers.ensures
