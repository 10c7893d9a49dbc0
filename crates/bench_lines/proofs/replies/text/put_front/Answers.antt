-- A buffer with room takes the line; any other is left alone.
use Rattle.bench_lines.proofs.BufferLaws.{wrote-short, wrote-whole}
use Rattle.bench_lines.proofs.replies.text.put_front.Goals as goal

pub returns-then-out-line : goal.returns-then-out-line
returns-then-out-line c = wrote-short c.args.line.now c.args.out.now c.if-out-line.true

pub returns : goal.returns
returns c =
    let a = c.args in
    wrote-whole a.line.now a.out.now _ _ c.if-out-line.false c.put.ensures
