-- `group_steps::client_view::hand` meets its contract: 6, or the step on the part of the books that is the member's.
use mathlib.Core.Path.{refl}
use Prim.Native.Nat.{◌+◌, ◌-◌}
use native.Mathlib.Omega.{arith}
use Rattle.std.proofs.lemmas.Result.{err_from_is_err_and}
use Rattle.book_bytes.specs.Places.{book_size}
use Rattle.group_steps.proofs.OwnStepLaws.{part-room, part-sound, own-refused, own-done}
use Rattle.group_steps.proofs.client_view.hand.Goals as goal

pub overflow_add-a : goal.overflow_add-a
overflow_add-a c = omega (arith, part-room _ _ c.in_ok-a.ensures c.requires, c.requires.size)

pub slice_bounds-hand-end : goal.slice_bounds-hand-end
slice_bounds-hand-end c = part-room _ _ c.in_ok-a.ensures c.requires

pub hand-requires : goal.hand-requires
hand-requires c = part-sound _ _ c.in_ok-a.ensures (c.in_ok-a.a + book_size - c.in_ok-a.a) (omega arith) c.requires

pub returns-in_err-a : goal.returns-in_err-a
returns-in_err-a c =
    let e = err_from_is_err_and c.from_residual.result c.from_residual.ensures.1 in
    rw (e.1, e.2) (own-refused _ _ _ _ _ c.in_err-a.ensures)

pub returns : goal.returns
returns c = own-done _ _ _ _ _ c.in_ok-a.ensures (c.in_ok-a.a + book_size - c.in_ok-a.a) (omega arith) _ _ c.hand.ensures refl
