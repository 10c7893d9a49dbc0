-- `group_steps::messages::pass::pass` meets its contract: each way out with the tests that led to it, and the entry moved. The member's book is lent as a part.
use mathlib.Core.Path.{◌≡◌, sym, ap, ◌∙◌}
use Prim.Native.Nat.{ℕ, ◌+◌, ◌-◌, ◌<◌}
use native.Mathlib.Omega.{arith}
use mathlib.Core.Path.{ap₂}
use mathlib.Core.List.{List}
use lib.ListN.{get_or}
use Rattle.std.specs.Prelude.{None, Some}
use Rattle.std.proofs.lemmas.Result.{err_from_is_err_and}
use Rattle.views.specs.declared.refusal.Refusal.TheVariants.{NoCarrierView, NoneOutgoing, WaitingFull}
use Rattle.views.specs.Limits.{max_waiting}
use Rattle.views.specs.Lists.{id_of}
use Rattle.book_bytes.specs.Places.{book_size, outgoing_at}
use Rattle.book_bytes.specs.Records.{record_in}
use Rattle.book_steps.specs.Acts.{pass_bytes}
use Rattle.group_bytes.specs.Places.{book_bytes, with_book, waiting_at}
use Rattle.group_bytes.specs.Groups.{Ranges, views_made, place_of}
use Rattle.group_bytes.specs.Moves.{slot_added}
use Rattle.group_bytes.proofs.BookBytes.{book-byte}
use Rattle.group_bytes.proofs.Inside.{waiting-inside}
use Rattle.group_steps.proofs.Rows.{ranged, made-rise}
use Rattle.group_steps.proofs.OwnStepLaws.{place-found, part-room, part-is, put_back}
use Rattle.group_steps.proofs.JoinLaws.{desk-of}
use Rattle.group_steps.proofs.PassLaws.{place_is, pass-no-member, pass-refused, no-carrier, carried-made, none-outgoing}
use Rattle.group_steps.proofs.PassLaws.{waiting-full, pass-accepted, forward-asks}
use Rattle.group_steps.proofs.messages.pass.pass.Goals as goal

pub book_at-requires : goal.book_at-requires
book_at-requires c =
    let a = c.args in
    let r : Ranges = record { list = a.list.now; books = a.all.now; queues = a.queues.now } in
    omega (arith, (ranged r c.requires).books)

pub returns-in_err-a : goal.returns-in_err-a
returns-in_err-a c =
    let a = c.args in
    let r : Ranges = record { list = a.list.now; books = a.all.now; queues = a.queues.now } in
    let e = err_from_is_err_and c.from_residual.result c.from_residual.ensures.1 in
    rw (e.1, e.2) (pass-no-member r a.p.0 _ c.in_err-a.ensures)

pub overflow_add-e : goal.overflow_add-e
overflow_add-e c =
    let a = c.args in
    let r : Ranges = record { list = a.list.now; books = a.all.now; queues = a.queues.now } in
    omega (arith, part-room a.all.now a.p.0 c.in_ok-a.ensures (desk-of r c.requires a.p.0), (ranged r c.requires).books)

pub slice_bounds-load_seat-end : goal.slice_bounds-load_seat-end
slice_bounds-load_seat-end c =
    let l = c in
    let a = l.args in
    let r : Ranges = record { list = a.list.now; books = a.all.now; queues = a.queues.now } in
    let f = ranged r c.requires in
    let (m, at) = place-found a.all.now a.p.0 l.in_ok-a.ensures in
    omega (arith, m, at, f.books, f.members.1)

pub returns-in_err-carrier : goal.returns-in_err-carrier
returns-in_err-carrier c =
    let l = c in
    let a = l.args in
    let r : Ranges = record { list = a.list.now; books = a.all.now; queues = a.queues.now } in
    let h = l.requires in
    let p = a.p.0 in
    let found = l.in_ok-a.ensures in
    let (m, at) = place-found a.all.now a.p.0 found in
    let b = book_bytes r.books p in
    let s = place_is r.books p found (l.in_ok-a.a + book_size - l.in_ok-a.a) (omega arith) _ l.load_seat.ensures in
    let none : l.load_seat.result ≡ None = grind arith in
    let why : l.in_err-carrier.field-0.0 ≡ NoCarrierView = grind arith in
    let e = err_from_is_err_and c.from_residual-in_err-carrier.result c.from_residual-in_err-carrier.ensures.1 in
    rw (e.1, e.2, why) (pass-refused r p NoCarrierView (no-carrier r p h m (s ∙ none)))

pub bounds-all-a : goal.bounds-all-a
bounds-all-a c =
    let l = c in
    let a = l.args in
    let r : Ranges = record { list = a.list.now; books = a.all.now; queues = a.queues.now } in
    let h = l.requires in
    let f = ranged r h in
    let found = l.in_ok-a.ensures in
    let (m, at) = place-found a.all.now a.p.0 found in
    omega (arith, m, at, f.books, f.members.1)

pub returns-then-all-a-eq0 : goal.returns-then-all-a-eq0
returns-then-all-a-eq0 c =
    let l = c in
    let a = l.args in
    let r : Ranges = record { list = a.list.now; books = a.all.now; queues = a.queues.now } in
    let h = l.requires in
    let p = a.p.0 in
    let found = l.in_ok-a.ensures in
    let (m, at) = place-found a.all.now a.p.0 found in
    let b = book_bytes r.books p in
    let v = l.in_ok-carrier.carrier in
    let t : (record_in b).carrier ≡ Some v
    = place_is r.books p found (l.in_ok-a.a + book_size - l.in_ok-a.a) (omega arith) _ l.load_seat.ensures ∙ l.in_ok-carrier.ensures.ok_part in
    let byte : get_or b outgoing_at 0 ≡ get_or r.books (l.in_ok-a.a + outgoing_at) 0
    = book-byte r.books p outgoing_at (omega arith) ∙ ap (λ (j : ℕ). get_or r.books (j + outgoing_at) 0) (sym at) in
    pass-refused r p NoneOutgoing (none-outgoing r p h m v t (byte ∙ c.if-all-a-eq0.true))

pub bounds-queues-0 : goal.bounds-queues-0
bounds-queues-0 c =
    let l = c in
    let a = l.args in
    let r : Ranges = record { list = a.list.now; books = a.all.now; queues = a.queues.now } in
    let h = l.requires in
    let f = ranged r h in
    let found = l.in_ok-a.ensures in
    let (m, at) = place-found a.all.now a.p.0 found in
    omega (arith, f.queues)

pub place-i-requires : goal.place-i-requires
place-i-requires c =
    let l = c in
    let a = l.args in
    let r : Ranges = record { list = a.list.now; books = a.all.now; queues = a.queues.now } in
    let h = l.requires in
    let f = ranged r h in
    let found = l.in_ok-a.ensures in
    let (m, at) = place-found a.all.now a.p.0 found in
    (omega (arith, f.made.1), made-rise r h)

pub waiting_at-w-requires : goal.waiting_at-w-requires
waiting_at-w-requires c =
    let l = c in
    let a = l.args in
    let r : Ranges = record { list = a.list.now; books = a.all.now; queues = a.queues.now } in
    let h = l.requires in
    let f = ranged r h in
    let p = a.p.0 in
    let found = l.in_ok-a.ensures in
    let (m, at) = place-found a.all.now a.p.0 found in
    let b = book_bytes r.books p in
    let v = l.in_ok-carrier.carrier in
    let t : (record_in b).carrier ≡ Some v
    = place_is r.books p found (l.in_ok-a.a + book_size - l.in_ok-a.a) (omega arith) _ l.load_seat.ensures ∙ l.in_ok-carrier.ensures.ok_part in
    let i = place_of (id_of v) (views_made r) in
    (omega (arith, f.made.1, f.room.1, carried-made r p h m v t), omega (arith, f.members.1))

pub bounds-queues-w : goal.bounds-queues-w
bounds-queues-w c =
    let l = c in
    let a = l.args in
    let r : Ranges = record { list = a.list.now; books = a.all.now; queues = a.queues.now } in
    let h = l.requires in
    let f = ranged r h in
    let p = a.p.0 in
    let found = l.in_ok-a.ensures in
    let (m, at) = place-found a.all.now a.p.0 found in
    let b = book_bytes r.books p in
    let v = l.in_ok-carrier.carrier in
    let t : (record_in b).carrier ≡ Some v
    = place_is r.books p found (l.in_ok-a.a + book_size - l.in_ok-a.a) (omega arith) _ l.load_seat.ensures ∙ l.in_ok-carrier.ensures.ok_part in
    let i = place_of (id_of v) (views_made r) in
    let w : c.waiting_at-w.result ≡ waiting_at i p = c.waiting_at-w.ensures ∙ ap (λ (j : ℕ). waiting_at j p) c.place-i.ensures in
    omega (arith, waiting-inside r f i (carried-made r p h m v t) p m)

pub returns-then-queues-w-ge-WAITING : goal.returns-then-queues-w-ge-WAITING
returns-then-queues-w-ge-WAITING c =
    let l = c in
    let a = l.args in
    let r : Ranges = record { list = a.list.now; books = a.all.now; queues = a.queues.now } in
    let h = l.requires in
    let p = a.p.0 in
    let found = l.in_ok-a.ensures in
    let (m, at) = place-found a.all.now a.p.0 found in
    let b = book_bytes r.books p in
    let v = l.in_ok-carrier.carrier in
    let t : (record_in b).carrier ≡ Some v
    = place_is r.books p found (l.in_ok-a.a + book_size - l.in_ok-a.a) (omega arith) _ l.load_seat.ensures ∙ l.in_ok-carrier.ensures.ok_part in
    let o : 0 < get_or b outgoing_at 0 = omega (arith, book-byte r.books p outgoing_at (omega arith), rw at at c.if-all-a-eq0.false) in
    let i = place_of (id_of v) (views_made r) in
    let w : c.waiting_at-w.result ≡ waiting_at i p = c.waiting_at-w.ensures ∙ ap (λ (j : ℕ). waiting_at j p) c.place-i.ensures in
    pass-refused r p WaitingFull (waiting-full r p h m v t o (rw w at c.if-queues-w-ge-WAITING.true))

pub slice_bounds-forward-end : goal.slice_bounds-forward-end
slice_bounds-forward-end c =
    let l = c in
    let a = l.args in
    let r : Ranges = record { list = a.list.now; books = a.all.now; queues = a.queues.now } in
    let h = l.requires in
    let f = ranged r h in
    let found = l.in_ok-a.ensures in
    let (m, at) = place-found a.all.now a.p.0 found in
    omega (arith, m, at, f.books, f.members.1)

pub forward-requires : goal.forward-requires
forward-requires c =
    let l = c in
    let a = l.args in
    let r : Ranges = record { list = a.list.now; books = a.all.now; queues = a.queues.now } in
    let h = l.requires in
    let p = a.p.0 in
    let found = l.in_ok-a.ensures in
    let (m, at) = place-found a.all.now a.p.0 found in
    let b = book_bytes r.books p in
    let v = l.in_ok-carrier.carrier in
    let t : (record_in b).carrier ≡ Some v
    = place_is r.books p found (l.in_ok-a.a + book_size - l.in_ok-a.a) (omega arith) _ l.load_seat.ensures ∙ l.in_ok-carrier.ensures.ok_part in
    let o : 0 < get_or b outgoing_at 0 = omega (arith, book-byte r.books p outgoing_at (omega arith), rw at at c.if-all-a-eq0.false) in
    let i = place_of (id_of v) (views_made r) in
    let w : c.waiting_at-w.result ≡ waiting_at i p = c.waiting_at-w.ensures ∙ ap (λ (j : ℕ). waiting_at j p) c.place-i.ensures in
    let y : get_or r.queues (waiting_at i p) 0 < max_waiting = rw w at c.if-queues-w-ge-WAITING.false in
    rw (part-is r.books p found (l.in_ok-a.a + book_size - l.in_ok-a.a) (omega arith), w) (forward-asks r p h m v t o y)

pub returns : goal.returns
returns c =
    let l = c in
    let a = l.args in
    let r : Ranges = record { list = a.list.now; books = a.all.now; queues = a.queues.now } in
    let h = l.requires in
    let p = a.p.0 in
    let found = l.in_ok-a.ensures in
    let (m, at) = place-found a.all.now a.p.0 found in
    let b = book_bytes r.books p in
    let v = l.in_ok-carrier.carrier in
    let t : (record_in b).carrier ≡ Some v
    = place_is r.books p found (l.in_ok-a.a + book_size - l.in_ok-a.a) (omega arith) _ l.load_seat.ensures ∙ l.in_ok-carrier.ensures.ok_part in
    let o : 0 < get_or b outgoing_at 0 = omega (arith, book-byte r.books p outgoing_at (omega arith), rw at at c.if-all-a-eq0.false) in
    let i = place_of (id_of v) (views_made r) in
    let w : c.waiting_at-w.result ≡ waiting_at i p = c.waiting_at-w.ensures ∙ ap (λ (j : ℕ). waiting_at j p) c.place-i.ensures in
    let y : get_or r.queues (waiting_at i p) 0 < max_waiting = rw w at c.if-queues-w-ge-WAITING.false in
    let part = part-is r.books p found (l.in_ok-a.a + book_size - l.in_ok-a.a) (omega arith) in
    let done = c.forward.ensures in
    let gone = put_back r.books p found (l.in_ok-a.a + book_size - l.in_ok-a.a) (omega arith) _ ∙ ap (with_book r.books p) (done.0 ∙ ap pass_bytes part) in
    let added = done.1 ∙ ap₂ (λ (j : ℕ) (z : List ℕ). slot_added r.queues j z (outgoing_at + 1)) w part in
    pass-accepted r p h m v t o y _ _ gone added
