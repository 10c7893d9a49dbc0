-- `reader::load_number` meets its contract: the shape allows one number at most, which is read where there is one.
use mathlib.Core.Path.{sym, ◌∙◌}
use native.Mathlib.Omega.{arith}
use Rattle.wire.proofs.ReaderLaws.{shaped, no_number, a-number}
use Rattle.wire.proofs.reader.load_number.Goals as goal

pub bounds-b-5 : goal.bounds-b-5
bounds-b-5 c = let s = shaped c.args.b.now c.requires in omega arith

pub bounds-b-at : goal.bounds-b-at
bounds-b-at c =
    let s = shaped c.args.b.now c.requires in
    omega arith

pub returns-then-b-at-eq0 : goal.returns-then-b-at-eq0
returns-then-b-at-eq0 c = sym (no_number c.args.b.now c.if-b-at-eq0.true)

pub get_number-requires : goal.get_number-requires
get_number-requires c =
    let s = shaped c.args.b.now c.requires in
    omega arith

pub returns-else-b-at-eq0 : goal.returns-else-b-at-eq0
returns-else-b-at-eq0 c =
    let s = shaped c.args.b.now c.requires in
    c.get_number.ensures.0 ∙ sym (a-number c.args.b.now (omega (arith, s.one, c.if-b-at-eq0.false)))
