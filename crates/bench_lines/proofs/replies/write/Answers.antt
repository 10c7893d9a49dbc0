-- The line is put together in a text of its own, and goes to the buffer if there is room.
use mathlib.Core.Path.{sym}
use lib.Seq.{length-take-le}
use Rattle.bench_lines.proofs.TextLaws.{put-le, put-take}
use Rattle.bench_lines.proofs.BufferLaws.{wrote-same}
use Rattle.bench_lines.proofs.replies.write.Goals as goal

pub slice_bounds-line-end : goal.slice_bounds-line-end
slice_bounds-line-end c = put-le _ _ _ _ c.put_reply-n.ensures.line

pub slice_bounds-put_front-end : goal.slice_bounds-put_front-end
slice_bounds-put_front-end c = sym (length-take-le c.put_reply-n.result c.put_reply-n.new.text (put-le _ _ _ _ c.put_reply-n.ensures.line))

pub returns-clause-wrote : goal.returns-clause-wrote
returns-clause-wrote c =
    wrote-same _ _ c.args.out.now _ _ (put-take _ _ _ _ c.put_reply-n.ensures.line) c.put_front.ensures
