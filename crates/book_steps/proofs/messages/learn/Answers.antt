-- `book_steps::messages::learn` meets its contract: the settled view is the rule's, and so are both lists put together above it.
use mathlib.Core.Path.{ap, ◌∙◌}
use mathlib.Core.List.{List}
use Prim.Native.Nat.{ℕ}
use native.Mathlib.Omega.{arith}
use Rattle.book_bytes.specs.Places.{infos_at}
use Rattle.book_steps.specs.Acts.{one_more, noted}
use Rattle.book_steps.proofs.TakeLaws.{held-merged, held-ready, took-info, over-info}
use Rattle.book_steps.proofs.messages.learn.Goals as goal

pub returns-then-opens-gt-OPEN : goal.returns-then-opens-gt-OPEN
returns-then-opens-gt-OPEN c =
    let s = c in
    let e = held-merged _ _ _ _ _ _ _ s.requires.2 c.settled_by-settled.ensures c.merge-merged.ensures in
    over-info s.args.q.0 _ _ _ _ e c.if-opens-gt-OPEN.true

pub note-requires : goal.note-requires
note-requires c =
    let pre = c.requires in
    let ready = held-ready _ _ (pre.0, pre.1) _ c.if-opens-gt-OPEN.false c.store_held.ensures in
    (ready.0, ready.1, pre.3, omega arith, omega arith)

pub returns : goal.returns
returns c =
    let s = c in
    let e = held-merged _ _ _ _ _ _ _ s.requires.2 c.settled_by-settled.ensures c.merge-merged.ensures in
    took-info s.args.q.0 _ _ _ _ e c.if-opens-gt-OPEN.false _
    (c.note.ensures ∙ ap (λ (z : List ℕ). one_more (noted infos_at s.args.q.0 z)) c.store_held.ensures)
