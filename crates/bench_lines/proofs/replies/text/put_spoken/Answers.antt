-- The word and the numbers so far stand at the front.
use native.Mathlib.Omega.{arith}
use lib.ListN.{get_or, length-set}
use Rattle.bench_lines.proofs.DecimalLaws.{decimal-length}
use Rattle.bench_lines.proofs.SpokenLaws.{said-word, said-turn, said-end}
use Rattle.bench_lines.proofs.replies.text.put_spoken.Goals as goal

pub loop-x-init : goal.loop-x-init
loop-x-init c =
    let t = said-word c.args.word.now c.args.numbers.now c.args.text.now c.put-at.new.text c.put-at.result c.put-at.ensures in
    (omega arith, t.0, t.1)

pub put_number-at-requires : goal.put_number-at-requires
put_number-at-requires c = simp length-set (omega arith)

pub loop-x-preserved : goal.loop-x-preserved
loop-x-preserved c =
    let l = c.loop-x in
    let n = c.put_number-at in
    let t = said-turn c.args.word.now c.args.numbers.now c.put-at.new.text n.new.text l.at l.x-index n.result (omega arith) l.invariant.1 (omega arith) (rw l.invariant.2 at n.ensures) in (
      omega (arith, n.ensures.next, decimal-length (get_or c.args.numbers.now l.x-index 0)),
      t.0,
      t.1,
    )

pub returns : goal.returns
returns c =
    let l = c.loop-x in
    rw l.invariant.2 (said-end c.args.word.now c.args.numbers.now c.args.text.now c.put-at.new.text l.at l.x-index c.put-at.result c.put-at.ensures (omega arith) l.invariant.1 (omega arith))
