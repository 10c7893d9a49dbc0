-- `book_steps::messages::receive` meets its contract: the carrier view's inward list has room, and one message more was taken.
use mathlib.Core.Path.{ap, ◌∙◌}
use Prim.Native.Nat.{ℕ}
use native.Mathlib.Omega.{arith}
use Rattle.slots.specs.Changes.{gained}
use Rattle.book_steps.specs.Acts.{one_more, take_bytes}
use Rattle.book_steps.proofs.Committed.{sound-size, sound-layout}
use Rattle.book_steps.proofs.RoomLaws.{gaining-fits, gain-room}
use Rattle.book_steps.proofs.TakeLaws.{gained-ready}
use Rattle.book_steps.proofs.messages.receive.Goals as goal

pub gaining-c-requires : goal.gaining-c-requires
gaining-c-requires c = let sound = c.requires.0 in (omega (arith, sound-size _ sound), (sound-layout _ sound).side)

pub gain-requires : goal.gain-requires
gain-requires c =
    let start = c in
    let pre = start.requires in
    let room = gain-room _ pre.0 pre.2 pre.1 in
    rw c.gaining-c.ensures (room, omega (arith, sound-size _ pre.0, gaining-fits start.args.b.now (sound-layout _ pre.0).side))

pub count-requires : goal.count-requires
count-requires c =
    let pre = c.requires in
    gained-ready _ _ (omega (arith, sound-size _ pre.0), pre.1) _ _ _ (rw c.gaining-c.ensures (omega arith)) c.gain.ensures

pub returns : goal.returns
unfolding take_bytes
returns c =
    let a = c.args in
    c.count.ensures ∙ ap one_more (c.gain.ensures ∙ ap (λ (z : ℕ). gained a.b.now z a.q.0 a.x) c.gaining-c.ensures)
