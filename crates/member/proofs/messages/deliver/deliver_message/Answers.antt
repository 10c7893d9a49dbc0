-- `member::messages::deliver::deliver_message` meets its contract: the answer to the message, then it is taken.
use mathlib.Core.Path.{sym, ◌∙◌}
use native.Mathlib.Omega.{arith}
use Rattle.std.proofs.lemmas.Result.{err_from_is_err_and}
use Rattle.wire.specs.Reader.{frame_in}
use Rattle.book_steps.proofs.Committed.{sound-size}
use Rattle.member.proofs.ArriveLaws.{carrier-mark, sender-small, frame_refused, frame-sender, frame-room, frame-taken}
use Rattle.member.proofs.ReadLaws.{all_of, shaped, scan-few, scan-size, scan-views, scan-carries, scan-some}
use Rattle.member.proofs.messages.deliver.deliver_message.Goals as goal

pub bounds-b-23 : goal.bounds-b-23
bounds-b-23 c = omega (arith, sound-size _ c.requires.0)

pub bounds-b-0 : goal.bounds-b-0
bounds-b-0 c = omega (arith, sound-size _ c.requires.0)

pub answer-requires : goal.answer-requires
answer-requires c = shaped _ c.requires.2

pub load_message-message-requires : goal.load_message-message-requires
load_message-message-requires c = shaped _ c.requires.2

pub bounds-bytes-5 : goal.bounds-bytes-5
bounds-bytes-5 c = omega (arith, scan-size c.args.bytes.now (shaped _ c.requires.2))

pub overflow_cast-count : goal.overflow_cast-count
overflow_cast-count c = omega (arith, scan-few c.args.bytes.now (shaped _ c.requires.2))

pub deliver-requires : goal.deliver-requires
deliver-requires c =
    let a = c.args in let pre = c.requires in let scan = shaped a.bytes.now pre.2 in let carried = scan-carries a.bytes.now scan in
    let passed = c.in_ok-answer.ensures in
    let f = frame_in a.bytes.now in (
      pre.0,
      frame-room a.b.now a.v a.q.0 f carried passed,
      carrier-mark _ _ pre.1,
      sender-small _ _ _ pre.0 pre.1 (frame-sender a.b.now a.v a.q.0 f carried passed),
      rw (all_of a.bytes.now) (omega (arith, scan-size a.bytes.now scan)),
      scan-few a.bytes.now scan,
      λ e. scan-some a.bytes.now scan (sym c.load_message-message.ensures ∙ e),
    )

pub returns-in_err-answer : goal.returns-in_err-answer
returns-in_err-answer c =
    let a = c.args in
    let p = err_from_is_err_and c.from_residual.result c.from_residual.ensures.1 in
    rw (p.1, p.2) (frame_refused a.b.now a.v a.q.0 (frame_in a.bytes.now) (scan-carries a.bytes.now (shaped _ c.requires.2)) c.in_err-answer.ensures)

pub returns : goal.returns
returns c =
    let a = c.args in let scan = shaped a.bytes.now c.requires.2 in
    frame-taken a.b.now a.v a.q.0 (frame_in a.bytes.now) (scan-carries a.bytes.now scan) c.in_ok-answer.ensures _ _
    (rw (← scan-views a.bytes.now scan) (rw (all_of a.bytes.now, c.load_message-message.ensures) at c.deliver.ensures))
