-- `book_steps::carrier_view::join` meets its contract: the verdict on the carrier view that was loaded is the rule's.
use native.Mathlib.Omega.{arith}
use Rattle.std.proofs.lemmas.Result.{err_from_is_err_and}
use Rattle.book_steps.proofs.Committed.{sound-size, sound-layout}
use Rattle.book_steps.proofs.JoinLaws.{join-refused, join-accepted}
use Rattle.book_steps.proofs.carrier_view.join.Goals as goal

pub load_seat-carrier-requires : goal.load_seat-carrier-requires
load_seat-carrier-requires c = omega (arith, sound-size _ c.requires)

pub bounds-b-1 : goal.bounds-b-1
bounds-b-1 c = omega (arith, sound-size _ c.requires)

pub announce-requires : goal.announce-requires
announce-requires c =
    let layout = sound-layout _ c.requires in
    (omega (arith, layout.size), layout.side, layout.opens)

pub enter-requires : goal.enter-requires
enter-requires c = omega (arith, c.announce.auto.b, sound-size _ c.requires)

pub returns-in_err-join : goal.returns-in_err-join
returns-in_err-join c =
    let p = err_from_is_err_and c.from_residual.result c.from_residual.ensures.1 in
    rw (p.1, p.2) (join-refused _ _ _ c.load_seat-carrier.ensures _ c.in_err-join.ensures)

pub returns : goal.returns
returns c = join-accepted _ _ _ c.load_seat-carrier.ensures c.in_ok-join.ensures _ _ c.announce.ensures c.enter.ensures
