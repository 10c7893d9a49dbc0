-- `member::messages::pass::give_out` meets its contract: the message written from its slot and gone, or neither.
use mathlib.Core.Path.{subst, sym, ap, ◌∙◌}
use Prim.Native.Nat.{◌+◌}
use native.Mathlib.Omega.{arith}
use Rattle.std.proofs.lemmas.Result.{err_from_is_err_and}
use Rattle.wire.specs.declared.Message.{Message as Carried}
use Rattle.wire.specs.Writer.{LiesAt, frame_verdict}
use Rattle.book_steps.specs.Acts.{pass_bytes}
use Rattle.member.proofs.PassLaws.{first_at, parts-frame, wrote-slot, out-refused, out-accepted}
use Rattle.member.proofs.messages.pass.give_out.Goals as goal

pub write_from-requires : goal.write_from-requires
write_from-requires c =
    let b = c.args.b.now in
    let pre = c.requires in
    let loaded = c.load_message-m.ensures in
    let views = c.carried-n.ensures in (
      omega (arith, pre.0, pre.1),
      subst (λ (m : Carried). LiesAt m b (first_at + 2)) (sym loaded) pre.3,
      omega (arith, pre.0, pre.1, pre.2, views),
      ap frame_verdict (sym (parts-frame b first_at c.args.view _ _ loaded views)) ∙ pre.4,
    )

pub returns-in_err-size : goal.returns-in_err-size
returns-in_err-size c =
    let a = c.args in
    let wrote = wrote-slot a.b.now first_at a.view _ _ c.load_message-m.ensures c.carried-n.ensures _ _ _ c.in_err-size.ensures in
    let p = err_from_is_err_and c.from_residual.result c.from_residual.ensures.1 in
    rw (p.1, p.2) (out-refused _ _ _ _ wrote)

pub returns : goal.returns
unfolding pass_bytes
returns c =
    let a = c.args in
    let wrote = wrote-slot a.b.now first_at a.view _ _ c.load_message-m.ensures c.carried-n.ensures _ _ _ c.in_ok-size.ensures in
    out-accepted _ _ _ _ wrote _ c.pop.ensures
