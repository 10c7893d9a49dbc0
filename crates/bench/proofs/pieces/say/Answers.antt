-- Every reply fits the room that is asked for, and stands where it was put.
use mathlib.Core.Path.{ap}
use native.Mathlib.Omega.{arith}
use lib.ListN.{length, length-drop}
use Rattle.bench_lines.proofs.BufferLaws.{wrote-put}
use Rattle.bench.proofs.PieceLaws.{place-behind, place-front, put-place, part-all, put-part}
use Rattle.bench.proofs.pieces.say.Goals as goal

pub returns-then-out-filled-lt-LONGEST_REPLY : goal.returns-then-out-filled-lt-LONGEST_REPLY
returns-then-out-filled-lt-LONGEST_REPLY g c =
    let e = c.write.ensures in
    put-place _ c.args.out.now _ 0 _ _ (place-front c.args.filled c.args.out.now (omega arith))
    (wrote-put _ c.args.out.now _ _ 0 _ (omega (arith, e.fits)) e.wrote c.unwrap_or.ensures)

pub overflow_add-result : goal.overflow_add-result
overflow_add-result g c =
    let e = c.write-2.ensures in
    let p = wrote-put _ _ _ _ 0 _
    (omega (arith, e.fits, ap length (part-all c.args.out.now c.args.filled), length-drop c.args.filled c.args.out.now))
    e.wrote c.unwrap_or-n.ensures in
    omega (arith, e.fits, p.next)

pub returns : goal.returns
returns g c =
    let e = c.write-2.ensures in
    let p = wrote-put _ _ _ _ 0 _
    (omega (arith, e.fits, ap length (part-all c.args.out.now c.args.filled), length-drop c.args.filled c.args.out.now))
    e.wrote c.unwrap_or-n.ensures in
    put-place _ c.args.out.now _ c.args.filled _ _ (place-behind c.args.filled c.args.out.now (omega arith)) (put-part _ c.args.out.now _ c.args.filled _ p)
