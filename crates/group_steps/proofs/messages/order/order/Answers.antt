-- `group_steps::messages::order::order` meets its contract: each way out with the tests that led to it, and the entry moved.
use mathlib.Core.Path.{◌≡◌, ap, ◌∙◌}
use Prim.Native.Nat.{ℕ, ◌<◌}
use native.Mathlib.Omega.{arith}
use Rattle.views.specs.declared.refusal.Refusal.TheVariants.{NoSuchMember, NoSuchView, NoneWaiting, OrderFull}
use lib.ListN.{get_or}
use Rattle.views.specs.Limits.{max_ordered}
use Rattle.rules.specs.Group.{order_step}
use Rattle.group_bytes.specs.Places.{order_at, waiting_at}
use Rattle.group_bytes.specs.Groups.{Ranges, made_of, views_made, place_of, group_in}
use Rattle.group_bytes.proofs.Inside.{order-inside, waiting-inside}
use Rattle.group_steps.proofs.Rows.{ranged, group-sound, made-rise, no_member}
use Rattle.group_steps.proofs.OrderLaws.{order-refused, order-accepted, no-view, none-waiting, order-full, order-moves, order-known, forward-asks, order-bytes}
use Rattle.group_steps.proofs.messages.order.order.Goals as goal

pub bounds-all-0 : goal.bounds-all-0
bounds-all-0 c =
    let a = c.args in
    let r : Ranges = record { list = a.list.now; books = a.all.now; queues = a.queues.now } in
    let f = ranged r c.requires in
    omega (arith, f.books)

pub returns-then-all-p : goal.returns-then-all-p
returns-then-all-p c =
    let a = c.args in
    let r : Ranges = record { list = a.list.now; books = a.all.now; queues = a.queues.now } in
    order-refused r a.p.0 a.id.0 NoSuchMember (no_member r a.p.0 (order_step (group_in r) a.p.0 a.id.0) c.if-all-p.true)

pub bounds-queues-0 : goal.bounds-queues-0
bounds-queues-0 c =
    let a = c.args in
    let r : Ranges = record { list = a.list.now; books = a.all.now; queues = a.queues.now } in
    let f = ranged r c.requires in
    omega (arith, f.queues)

pub place-i-requires : goal.place-i-requires
place-i-requires c =
    let a = c.args in
    let r : Ranges = record { list = a.list.now; books = a.all.now; queues = a.queues.now } in
    let f = ranged r c.requires in
    (omega (arith, f.made.1), made-rise r c.requires)

pub returns-then-made-i : goal.returns-then-made-i
returns-then-made-i c =
    let l = c in
    let a = l.args in
    let r : Ranges = record { list = a.list.now; books = a.all.now; queues = a.queues.now } in
    let p = a.p.0 in
    let m = l.if-all-p.false in
    let i = place_of a.id.0 (views_made r) in
    let e : l.place-i.result ≡ i = l.place-i.ensures in
    order-refused r p a.id.0 NoSuchView (no-view r p a.id.0 m (omega (arith, c.if-made-i.true)))

pub order_at-c-requires : goal.order_at-c-requires
order_at-c-requires c =
    let l = c in
    let a = l.args in
    let r : Ranges = record { list = a.list.now; books = a.all.now; queues = a.queues.now } in
    let h = l.requires in
    let f = ranged r h in
    let m = l.if-all-p.false in
    let i = place_of a.id.0 (views_made r) in
    let e : l.place-i.result ≡ i = l.place-i.ensures in
    omega (arith, f.made.1, f.room.1, c.if-made-i.false)

pub waiting_at-w-requires : goal.waiting_at-w-requires
waiting_at-w-requires c =
    let l = c in
    let a = l.args in
    let r : Ranges = record { list = a.list.now; books = a.all.now; queues = a.queues.now } in
    let h = l.requires in
    let f = ranged r h in
    let m = l.if-all-p.false in
    let i = place_of a.id.0 (views_made r) in
    let e : l.place-i.result ≡ i = l.place-i.ensures in
    (omega (arith, f.made.1, f.room.1, c.if-made-i.false), omega (arith, f.members.1))

pub bounds-queues-w : goal.bounds-queues-w
bounds-queues-w c =
    let l = c in
    let a = l.args in
    let r : Ranges = record { list = a.list.now; books = a.all.now; queues = a.queues.now } in
    let h = l.requires in
    let f = ranged r h in
    let p = a.p.0 in
    let m = l.if-all-p.false in
    let i = place_of a.id.0 (views_made r) in
    let e : l.place-i.result ≡ i = l.place-i.ensures in
    let t : i < made_of r = omega (arith, c.if-made-i.false) in
    let w : c.waiting_at-w.result ≡ waiting_at i p = c.waiting_at-w.ensures ∙ ap (λ (j : ℕ). waiting_at j p) e in
    omega (arith, waiting-inside r f i t p m)

pub returns-then-queues-w-eq0 : goal.returns-then-queues-w-eq0
returns-then-queues-w-eq0 c =
    let l = c in
    let a = l.args in
    let r : Ranges = record { list = a.list.now; books = a.all.now; queues = a.queues.now } in
    let p = a.p.0 in
    let m = l.if-all-p.false in
    let i = place_of a.id.0 (views_made r) in
    let e : l.place-i.result ≡ i = l.place-i.ensures in
    let t : i < made_of r = omega (arith, c.if-made-i.false) in
    let w : c.waiting_at-w.result ≡ waiting_at i p = c.waiting_at-w.ensures ∙ ap (λ (j : ℕ). waiting_at j p) e in
    order-refused r p a.id.0 NoneWaiting (none-waiting r p a.id.0 m t (rw w at c.if-queues-w-eq0.true))

pub bounds-queues-c : goal.bounds-queues-c
bounds-queues-c c =
    let l = c in
    let a = l.args in
    let r : Ranges = record { list = a.list.now; books = a.all.now; queues = a.queues.now } in
    let h = l.requires in
    let f = ranged r h in
    let m = l.if-all-p.false in
    let i = place_of a.id.0 (views_made r) in
    let e : l.place-i.result ≡ i = l.place-i.ensures in
    let t : i < made_of r = omega (arith, c.if-made-i.false) in
    let o : c.order_at-c.result ≡ order_at i = c.order_at-c.ensures ∙ ap order_at e in
    omega (arith, order-inside r f i t)

pub returns-then-queues-c-ge-ORDERED : goal.returns-then-queues-c-ge-ORDERED
returns-then-queues-c-ge-ORDERED c =
    let l = c in
    let a = l.args in
    let r : Ranges = record { list = a.list.now; books = a.all.now; queues = a.queues.now } in
    let p = a.p.0 in
    let m = l.if-all-p.false in
    let i = place_of a.id.0 (views_made r) in
    let e : l.place-i.result ≡ i = l.place-i.ensures in
    let t : i < made_of r = omega (arith, c.if-made-i.false) in
    let w : c.waiting_at-w.result ≡ waiting_at i p = c.waiting_at-w.ensures ∙ ap (λ (j : ℕ). waiting_at j p) e in
    let o : c.order_at-c.result ≡ order_at i = c.order_at-c.ensures ∙ ap order_at e in
    let z : 0 < get_or r.queues (waiting_at i p) 0 = omega (arith, rw w at c.if-queues-w-eq0.false) in
    order-refused r p a.id.0 OrderFull (order-full r p a.id.0 m t z (rw o at c.if-queues-c-ge-ORDERED.true))

pub forward-requires : goal.forward-requires
forward-requires c =
    let l = c in
    let a = l.args in
    let r : Ranges = record { list = a.list.now; books = a.all.now; queues = a.queues.now } in
    let h = l.requires in
    let f = ranged r h in
    let p = a.p.0 in
    let m = l.if-all-p.false in
    let i = place_of a.id.0 (views_made r) in
    let e : l.place-i.result ≡ i = l.place-i.ensures in
    let t : i < made_of r = omega (arith, c.if-made-i.false) in
    let w : c.waiting_at-w.result ≡ waiting_at i p = c.waiting_at-w.ensures ∙ ap (λ (j : ℕ). waiting_at j p) e in
    let o : c.order_at-c.result ≡ order_at i = c.order_at-c.ensures ∙ ap order_at e in
    let z : 0 < get_or r.queues (waiting_at i p) 0 = omega (arith, rw w at c.if-queues-w-eq0.false) in
    let y : get_or r.queues (order_at i) 0 < max_ordered = rw o at c.if-queues-c-ge-ORDERED.false in
    let known = order-known r p a.id.0 m f (group-sound r h) (order-moves r p a.id.0 m t z y) in
    rw (o, w) (forward-asks r p i known)

pub returns : goal.returns
returns c =
    let l = c in
    let a = l.args in
    let r : Ranges = record { list = a.list.now; books = a.all.now; queues = a.queues.now } in
    let p = a.p.0 in
    let m = l.if-all-p.false in
    let i = place_of a.id.0 (views_made r) in
    let e : l.place-i.result ≡ i = l.place-i.ensures in
    let t : i < made_of r = omega (arith, c.if-made-i.false) in
    let w : c.waiting_at-w.result ≡ waiting_at i p = c.waiting_at-w.ensures ∙ ap (λ (j : ℕ). waiting_at j p) e in
    let o : c.order_at-c.result ≡ order_at i = c.order_at-c.ensures ∙ ap order_at e in
    let z : 0 < get_or r.queues (waiting_at i p) 0 = omega (arith, rw w at c.if-queues-w-eq0.false) in
    let y : get_or r.queues (order_at i) 0 < max_ordered = rw o at c.if-queues-c-ge-ORDERED.false in
    order-accepted r p a.id.0 _ (order-moves r p a.id.0 m t z y) (order-bytes r p a.id.0 _ _ _ o w c.forward.ensures)
