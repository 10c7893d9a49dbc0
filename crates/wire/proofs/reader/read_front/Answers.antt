-- `reader::read_front` meets its contract: what is taken, and then the frame.
use mathlib.Core.Path.{sym, ◌∙◌}
use Rattle.std.proofs.lemmas.Result.{err_from_is_err_and}
use Rattle.wire.proofs.FrontLaws.{refused-front, scan-front, read-from}
use Rattle.wire.proofs.reader.read_front.Goals as goal

pub returns-in_err-taken : goal.returns-in_err-taken
returns-in_err-taken c =
    let p = err_from_is_err_and c.from_residual.result c.from_residual.ensures.1 in
    rw (p.1, p.2) (sym (refused-front c.args.b.now _ (sym c.front.ensures ∙ c.in_err-taken.was)))

pub load_frame-requires : goal.load_frame-requires
load_frame-requires c = scan-front c.args.b.now _ (sym c.front.ensures ∙ c.in_ok-taken.was)

pub returns : goal.returns
returns c = rw c.load_frame.ensures (sym (read-from c.args.b.now _ (sym c.front.ensures ∙ c.in_ok-taken.was)))
