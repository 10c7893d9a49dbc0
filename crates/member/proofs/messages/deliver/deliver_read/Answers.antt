-- `member::messages::deliver::deliver_read` meets its contract: 13, the refusal of what was read, then the message.
use mathlib.Core.Path.{sym, ◌∙◌}
use native.Mathlib.Omega.{arith}
use Rattle.std.proofs.lemmas.Result.{err_from_is_err_and}
use Rattle.wire.specs.Reader.{frame_in}
use Rattle.book_steps.proofs.Committed.{sound-size}
use Rattle.member.proofs.CallLaws.{missing}
use Rattle.member.proofs.ReadLaws.{read-unseated, read-carrier, read-refused, read_done}
use Rattle.member.proofs.messages.deliver.deliver_read.Goals as goal

pub load_seat-requires : goal.load_seat-requires
load_seat-requires c = omega (arith, sound-size _ c.requires.0)

pub returns-in_err-carrier : goal.returns-in_err-carrier
returns-in_err-carrier c =
    let a = c.args in
    let m = missing c.load_seat.result c.in_err-carrier.ensures.value in
    let p = err_from_is_err_and c.from_residual.result c.from_residual.ensures.1 in
    rw (p.1, p.2, m.1) (read-unseated a.b.now (frame_in a.bytes.now) a.read a.q.0 (sym c.load_seat.ensures ∙ m.0))

pub returns-in_err-read : goal.returns-in_err-read
returns-in_err-read c =
    let a = c.args in
    let p = err_from_is_err_and c.from_residual-in_err-read.result c.from_residual-in_err-read.ensures.1 in
    rw (p.1, p.2) (read-refused a.b.now (frame_in a.bytes.now) a.read a.q.0 _ (sym c.load_seat.ensures ∙ c.in_ok-carrier.ensures.ok_part) c.in_err-read.was)

pub deliver_message-requires : goal.deliver_message-requires
deliver_message-requires c =
    let a = c.args in
    let seated = sym c.load_seat.ensures ∙ c.in_ok-carrier.ensures.ok_part in
    (c.requires.0, read-carrier a.b.now (frame_in a.bytes.now) a.read a.q.0 _ seated, c.requires.1 c.in_ok-read.was)

pub returns-in_err-deliver_message : goal.returns-in_err-deliver_message
returns-in_err-deliver_message c =
    let a = c.args in
    let p = err_from_is_err_and c.from_residual-in_err-deliver_message.result c.from_residual-in_err-deliver_message.ensures.1 in
    rw (p.1, p.2)
    (read_done a.b.now (frame_in a.bytes.now) a.read a.q.0 _ (sym c.load_seat.ensures ∙ c.in_ok-carrier.ensures.ok_part) c.in_ok-read.was _ _
    c.in_err-deliver_message.ensures)

pub returns : goal.returns
returns c =
    let a = c.args in
    read_done a.b.now (frame_in a.bytes.now) a.read a.q.0 _ (sym c.load_seat.ensures ∙ c.in_ok-carrier.ensures.ok_part) c.in_ok-read.was _ _
    c.in_ok-deliver_message.ensures
