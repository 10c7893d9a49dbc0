-- `book_steps::messages::inform` meets its contract: where no view is open on either side two settled views are compared.
use native.Mathlib.Omega.{arith}
use Rattle.book_steps.proofs.TakeLaws.{settled-ready, inform-short, inform-long}
use Rattle.book_steps.proofs.messages.inform.Goals as goal

pub note-requires : goal.note-requires
note-requires c =
    let pre = c.requires in
    let ready = settled-ready _ _ (pre.0, pre.1) _ c.store_view.ensures in
    (ready.0, ready.1, pre.3, omega arith, omega arith)

pub returns-then-b-eq0 : goal.returns-then-b-eq0
returns-then-b-eq0 c =
    inform-short _ _ _ _ _ _ _ _ _ c.if-n-eq1.true c.if-b-eq0.true
    c.load_view-x.ensures c.load_view-own.ensures c.later-settled.ensures _ c.store_view.ensures c.note.ensures

pub returns : goal.returns
returns c = inform-long _ _ _ _ _ _ _ c.requires.6 c.load_view-x.ensures _ c.learn.ensures
