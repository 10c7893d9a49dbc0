-- The digits so far stand at the end of their places, and what is left is printed before them.
use mathlib.Core.Path.{refl, sym}
use mathlib.Core.List.{append-nil}
use Prim.Native.Nat.{◌+◌}
use native.Mathlib.Omega.{arith}
use lib.ListN.{length-set}
use Rattle.bench_lines.specs.Numerals.{decimal}
use Rattle.bench_lines.proofs.DecimalLaws.{decimal-length}
use Rattle.bench_lines.proofs.TextLaws.{put_same, digit_room, number-turn, number-room, number-end}
use Rattle.bench_lines.proofs.texts.numerals.put_number.Goals as goal

pub loop-rest-init : goal.loop-rest-init
loop-rest-init c = (omega arith, refl, omega arith, omega arith, sym (append-nil (decimal c.args.x)))

pub overflow_sub-i-in-loop-rest : goal.overflow_sub-i-in-loop-rest
overflow_sub-i-in-loop-rest c = digit_room c.loop-rest.i c.loop-rest.rest (omega arith) c.loop-rest.invariant.3

pub loop-rest-preserved : goal.loop-rest-preserved
loop-rest-preserved c =
    let l = c.loop-rest in
    let z = digit_room l.i l.rest (omega arith) l.invariant.3 in (
      omega arith,
      simp length-set l.invariant.1,
      omega arith,
      number-room l.i l.rest z l.invariant.3,
      number-turn c.args.x l.rest l.i l.digits (omega arith) (omega arith) (omega arith) z l.invariant.4,
    )

pub slice_bounds-put-end : goal.slice_bounds-put-end
slice_bounds-put-end c = omega (arith, length-set c.loop-rest.digits c.loop-rest.i (48 + c.loop-rest.rest))

pub put-requires : goal.put-requires
put-requires c =
    let l = c.loop-rest in
    let e = number-end c.args.x l.rest l.i l.digits (omega arith) (omega arith) l.invariant.4 l.invariant.1 in
    rw e (omega (arith, decimal-length c.args.x))

pub returns : goal.returns
returns c =
    let l = c.loop-rest in
    put_same _ (decimal c.args.x) c.args.text.now _ c.args.at _ (number-end c.args.x l.rest l.i l.digits (omega arith) (omega arith) l.invariant.4 l.invariant.1) c.put.ensures
