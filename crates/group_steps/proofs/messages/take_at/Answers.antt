-- `group_steps::messages::take_at` meets its contract: the step on the part is the step on the member's book.
use mathlib.Core.Path.{refl}
use Prim.Native.Nat.{◌+◌, ◌-◌, ◌*◌}
use native.Mathlib.Omega.{arith}
use Rattle.views.specs.Limits.{max_views}
use Rattle.views.specs.Sizes.{view_size}
use Rattle.slots.specs.Columns.{order_count, order_views}
use Rattle.book_bytes.specs.Places.{book_size}
use Rattle.group_steps.proofs.DeliverLaws.{entry-asks, entry-is, part-asks, part-taken}
use Rattle.group_steps.proofs.messages.take_at.Goals as goal

pub deliver-requires : goal.deliver-requires
deliver-requires c =
    let s = c in
    let a = s.args in
    let part = part-asks a.all.now a.p.0 s.requires.1 (book_size * a.p.0 + book_size - book_size * a.p.0) (omega arith) s.requires.0 _ s.requires.5 s.requires.6 s.requires.7 in
    let entry = entry-asks a.queues.now a.c a.k s.requires.4 _ c.load_message-message.ensures _ c.carried-n.ensures
    (a.c + order_views 0 0 + view_size * max_views * a.k) (omega arith) s.requires.2 s.requires.3 in
    (part.0, part.1, part.2, part.3, entry.0, entry.1, entry.2)

pub returns : goal.returns
returns c =
    let s = c in
    let a = s.args in
    let byte = c.shared_slice_known-2-1.given (order_count a.c a.k) in
    let is = entry-is a.queues.now a.c a.k s.requires.4 _ c.load_message-message.ensures _ c.carried-n.ensures
    (a.c + order_views 0 0 + view_size * max_views * a.k) (omega arith) (omega (arith, byte)) in
    part-taken a.all.now a.p.0 s.requires.1 (book_size * a.p.0 + book_size - book_size * a.p.0) (omega arith) _ _ _ is _ _ _ c.deliver.ensures refl
