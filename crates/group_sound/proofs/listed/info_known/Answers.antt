-- `group_sound::listed::info_known` meets its contract: an info's views are looked up where they lie, and other entries carry none.
use mathlib.Core.Path.{sym, ◌∙◌}
use Prim.Native.Nat.{◌+◌}
use native.Mathlib.Omega.{arith}
use Rattle.wire.specs.Reader.{views_in}
use Rattle.book_sound.proofs.Entries.{info-count}
use Rattle.group_sound.proofs.Infos.{slot-other, slot-info}
use Rattle.group_sound.proofs.listed.info_known.Goals as goal

pub overflow_cast-b : goal.overflow_cast-b
overflow_cast-b c = omega (arith, c.shared_slice_known-then-b-at-eq-INFO-1.given (c.args.at + 10))

pub views_known-requires : goal.views_known-requires
views_known-requires c =
    let e = c in
    let t = info-count e.args.b.now e.args.at 0 e.requires.3 c.if-b-at-eq-INFO.true in
    (e.requires.0, omega (arith, t.1, e.requires.1), e.requires.2, omega (arith, t.0))

pub returns-then-b-at-eq-INFO : goal.returns-then-b-at-eq-INFO
returns-then-b-at-eq-INFO c =
    let e = c in
    c.views_known.ensures ∙ slot-info e.args.b.now e.args.at e.requires.3 (views_in e.args.list.now 0 e.args.made) c.if-b-at-eq-INFO.true

pub returns : goal.returns
returns c =
    let e = c in
    sym (slot-other e.args.b.now e.args.at e.requires.3 (views_in e.args.list.now 0 e.args.made) c.if-b-at-eq-INFO.false)
