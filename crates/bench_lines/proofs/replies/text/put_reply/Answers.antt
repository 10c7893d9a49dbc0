-- A refusal by its number, an accepted step by its event.
use Rattle.bench_lines.proofs.TextLaws.{put_same}
use Rattle.bench_lines.proofs.SpokenLaws.{reply-refused, reply-none, reply-event}
use Rattle.bench_lines.proofs.Longest.{refusal-fits, none-fits, sized-fits}
use Rattle.bench_lines.proofs.replies.text.put_reply.Goals as goal

pub returns-in-Ok-Some : goal.returns-in-Ok-Some
returns-in-Ok-Some c =
    let w = c.in-Ok-Some in
    let e = c.put_event.ensures in
    record {
      line = put_same _ _ c.args.text.now _ 0 _ (reply-event c.args.r _ _ w.is (rw w.is at w.field-0-is)) e.line;
      fits = sized-fits c.args.r _ _ w.is (rw w.is at w.field-0-is) e.sized;
    }

pub returns-in-Ok-None : goal.returns-in-Ok-None
returns-in-Ok-None c =
    let w = c.in-Ok-None in
    record {
      line = put_same _ _ c.args.text.now _ 0 _ (reply-none c.args.r _ w.is (rw w.is at w.field-0-is)) c.put.ensures;
      fits = none-fits c.args.r _ w.is (rw w.is at w.field-0-is);
    }

pub returns-in-Err : goal.returns-in-Err
returns-in-Err c = record {
  line = put_same _ _ c.args.text.now _ 0 _ (reply-refused c.args.r _ _ c.in-Err.is c.number.ensures) c.put_spoken.ensures;
  fits = refusal-fits c.args.r _ c.in-Err.is;
}
