-- A frame that cannot be written leaves the buffer alone; the size that is compared with the buffer is the length of the frame's bytes.
use mathlib.Core.Path.{◌≡◌, sym, ◌∙◌}
use native.Mathlib.Omega.{arith}
use lib.ListN.{length}
use Rattle.std.proofs.lemmas.Result.{err_from_is_err_and}
use Rattle.wire.proofs.WriterLaws.{frame-few, length-frame, wrote-refused, wrote-short, wrote-whole}
use Rattle.wire.proofs.writer.write.Goals as goal

pub returns-in_err-check : goal.returns-in_err-check
returns-in_err-check c =
    let p = err_from_is_err_and c.from_residual.result c.from_residual.ensures.1 in
    rw (p.1, p.2) (wrote-refused c.args.f c.args.b.now _ (sym c.check.ensures ∙ c.in_err-check.was))

pub overflow_mul-size : goal.overflow_mul-size
overflow_mul-size c = omega (arith, frame-few c.args.f (sym c.check.ensures ∙ c.in_ok-check.was))

pub overflow_add-size : goal.overflow_add-size
overflow_add-size c = omega (arith, frame-few c.args.f (sym c.check.ensures ∙ c.in_ok-check.was))

pub overflow_add-size-2 : goal.overflow_add-size-2
overflow_add-size-2 c = omega (arith, frame-few c.args.f (sym c.check.ensures ∙ c.in_ok-check.was))

pub returns-then-b-size : goal.returns-then-b-size
returns-then-b-size c =
    let a = c.args in
    let v = sym c.check.ensures ∙ c.in_ok-check.was in
    let z : length a.f.views.at ≡ 32 = c.well_formed.1.0.1.1.1.1.0.1.1.1.0.1.0.1 in
    let s = length-frame a.f z (frame-few a.f v) in
    wrote-short a.f a.b.now v (omega arith)

pub store_frame-requires : goal.store_frame-requires
store_frame-requires c = omega (arith, frame-few c.args.f (sym c.check.ensures ∙ c.in_ok-check.was))

pub returns : goal.returns
returns c =
    let a = c.args in
    let v = sym c.check.ensures ∙ c.in_ok-check.was in
    let z : length a.f.views.at ≡ 32 = c.well_formed.1.0.1.1.1.1.0.1.1.1.0.1.0.1 in
    let s = length-frame a.f z (frame-few a.f v) in
    wrote-whole a.f a.b.now _ _ v c.store_frame.ensures (omega arith) (omega arith)
