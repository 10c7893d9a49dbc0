-- `book_steps::messages::deliver` meets its contract: each message is taken by its own function.
use mathlib.Core.Path.{refl}
use Prim.Native.Nat.{◌+◌}
use native.Mathlib.Omega.{arith}
use Rattle.std.proofs.lemmas.Result.{err_from_is_err_and}
use Rattle.book_steps.proofs.Committed.{sound-size, sound-layout}
use Rattle.book_steps.proofs.TakeLaws.{set-ready, took-carried, took-client, took-registered, took-told, took-reply, over-reply}
use Rattle.book_steps.proofs.messages.deliver.Goals as goal

pub inform-requires : goal.inform-requires
inform-requires c =
    let pre = c.requires in
    let layout = sound-layout _ pre.0 in
    (omega (arith, layout.size), pre.1, layout.opens, pre.3, pre.4, pre.5, pre.6 c.in-Info.is)

pub note-requires : goal.note-requires
note-requires c = let pre = c.requires in (omega (arith, sound-size _ pre.0), pre.1, pre.3, omega arith, omega arith)

pub bounds-b-q : goal.bounds-b-q
bounds-b-q c = let pre = c.requires in omega (arith, sound-size _ pre.0, pre.3)

pub count-requires : goal.count-requires
count-requires c =
    let s = c in
    set-ready s.args.b.now _ (omega (arith, sound-size _ s.requires.0), s.requires.1) (26 + s.args.e.sender.0) c.in-Told.k (omega arith) refl

pub returns-in-Client : goal.returns-in-Client
returns-in-Client c = took-reply _ _ _ _ (took-carried _ _ _ _ _ _ _ c.in-Client.is (took-client _ _ _ _ c.receive.ensures))

pub returns-in_ok-inform-in-Info : goal.returns-in_ok-inform-in-Info
returns-in_ok-inform-in-Info c = took-reply _ _ _ _ (took-carried _ _ _ _ _ _ _ c.in-Info.is c.in_ok-inform-in-Info.ensures)

pub returns-in_err-inform-in-Info : goal.returns-in_err-inform-in-Info
returns-in_err-inform-in-Info c =
    let p = err_from_is_err_and c.from_residual.result c.from_residual.ensures.1 in
    rw (p.1, p.2) (over-reply _ _ _ _ _ (took-carried _ _ _ _ _ _ _ c.in-Info.is c.in_err-inform-in-Info.ensures))

pub returns-in-Registered : goal.returns-in-Registered
returns-in-Registered c = took-reply _ _ _ _ (took-carried _ _ _ _ _ _ _ c.in-Registered.is (took-registered _ _ _ c.note.ensures))

pub returns-in-Told : goal.returns-in-Told
returns-in-Told c = took-reply _ _ _ _ (took-carried _ _ _ _ _ _ _ c.in-Told.is (took-told _ _ _ _ c.count.ensures))
