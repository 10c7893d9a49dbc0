-- `reader::front` meets its contract: the shape decides first, then what is asked of the whole message, and then where it ends.
use mathlib.Core.Path.{sym, ◌∙◌}
use native.Mathlib.Omega.{arith}
use Rattle.std.proofs.lemmas.Result.{err_from_is_err_and}
use Rattle.wire.proofs.ReaderLaws.{shaped}
use Rattle.wire.proofs.FrontLaws.{front-shape, front-content, front-whole}
use Rattle.wire.proofs.reader.front.Goals as goal

pub returns-in_err-scan : goal.returns-in_err-scan
returns-in_err-scan c =
    let p = err_from_is_err_and c.from_residual.result c.from_residual.ensures.1 in
    rw (p.1, p.2) (sym (front-shape c.args.b.now _ (sym c.scan.ensures ∙ c.in_err-scan.was)))

pub returns-in_err-whole : goal.returns-in_err-whole
returns-in_err-whole c =
    let p = err_from_is_err_and c.from_residual-in_err-whole.result c.from_residual-in_err-whole.ensures.1 in
    rw (p.1, p.2) (sym (front-content c.args.b.now (sym c.scan.ensures ∙ c.in_ok-scan.was) _ (sym c.whole.ensures ∙ c.in_err-whole.was)))

pub bounds-b-5 : goal.bounds-b-5
bounds-b-5 c = let s = shaped c.args.b.now (sym c.scan.ensures ∙ c.in_ok-scan.was) in omega arith

pub bounds-b-at : goal.bounds-b-at
bounds-b-at c = let s = shaped c.args.b.now (sym c.scan.ensures ∙ c.in_ok-scan.was) in omega arith

pub returns : goal.returns
returns c = sym (front-whole c.args.b.now (sym c.scan.ensures ∙ c.in_ok-scan.was) (sym c.whole.ensures ∙ c.in_ok-whole.was))
