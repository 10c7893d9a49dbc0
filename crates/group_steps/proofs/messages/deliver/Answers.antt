-- `group_steps::messages::deliver` meets its contract: no member, no carrier view, or what is next.
use mathlib.Core.Path.{◌≡◌, sym, ap, ◌∙◌}
use Prim.Native.Nat.{◌+◌, ◌-◌}
use native.Mathlib.Omega.{arith}
use Rattle.std.specs.Prelude.{None}
use Rattle.std.proofs.lemmas.Result.{err_from_is_err_and}
use Rattle.views.specs.declared.refusal.Refusal.TheVariants.{NoCarrierView}
use Rattle.book_bytes.specs.Places.{carrier_at, book_size}
use Rattle.book_bytes.specs.Records.{seat_in}
use Rattle.group_bytes.specs.Places.{book_bytes}
use Rattle.group_bytes.specs.Groups.{Ranges}
use Rattle.group_steps.proofs.Rows.{ranged}
use Rattle.group_steps.proofs.OwnStepLaws.{place-found, part-room, part-is}
use Rattle.group_steps.proofs.JoinLaws.{desk-of}
use Rattle.group_steps.proofs.DeliverLaws.{deliver-no-member, deliver-no-carrier}
use Rattle.group_steps.proofs.messages.deliver.Goals as goal

pub book_at-requires : goal.book_at-requires
book_at-requires c =
    let r : Ranges = record { list = c.args.list.now; books = c.args.all.now; queues = c.args.queues.now } in
    omega (arith, (ranged r c.requires).books)

pub overflow_add-a : goal.overflow_add-a
overflow_add-a c =
    let a = c.args in
    let r : Ranges = record { list = a.list.now; books = a.all.now; queues = a.queues.now } in
    omega (arith, part-room a.all.now a.p.0 c.in_ok-a.ensures (desk-of r c.requires a.p.0), (ranged r c.requires).books)

pub slice_bounds-load_seat-end : goal.slice_bounds-load_seat-end
slice_bounds-load_seat-end c =
    let a = c.args in
    let r : Ranges = record { list = a.list.now; books = a.all.now; queues = a.queues.now } in
    part-room a.all.now a.p.0 c.in_ok-a.ensures (desk-of r c.requires a.p.0)

pub returns-in_err-a : goal.returns-in_err-a
returns-in_err-a c =
    let a = c.args in
    let r : Ranges = record { list = a.list.now; books = a.all.now; queues = a.queues.now } in
    let e = err_from_is_err_and c.from_residual.result c.from_residual.ensures.1 in
    rw (e.1, e.2) (deliver-no-member r a.p.0 _ c.in_err-a.ensures)

pub returns-in_err-ok_or : goal.returns-in_err-ok_or
returns-in_err-ok_or c =
    let a = c.args in
    let r : Ranges = record { list = a.list.now; books = a.all.now; queues = a.queues.now } in
    let found = c.in_ok-a.ensures in
    let part = part-is a.all.now a.p.0 found (c.in_ok-a.a + book_size - c.in_ok-a.a) (omega arith) in
    let seat : c.load_seat-seat.result ≡ seat_in (book_bytes a.all.now a.p.0) carrier_at = c.load_seat-seat.ensures ∙ ap (λ b. seat_in b carrier_at) part in
    let none : c.load_seat-seat.result ≡ None = grind arith in
    let why : c.in_err-ok_or.field-0.0 ≡ NoCarrierView = grind arith in
    let e = err_from_is_err_and c.from_residual-in_err-ok_or.result c.from_residual-in_err-ok_or.ensures.1 in
    rw (e.1, e.2, why) (deliver-no-carrier r a.p.0 c.requires (place-found a.all.now a.p.0 found).0 (sym seat ∙ none))

pub next-requires : goal.next-requires
next-requires c =
    let a = c.args in
    let found = c.in_ok-a.ensures in
    let part = part-is a.all.now a.p.0 found (c.in_ok-a.a + book_size - c.in_ok-a.a) (omega arith) in
    let seat : c.load_seat-seat.result ≡ seat_in (book_bytes a.all.now a.p.0) carrier_at = c.load_seat-seat.ensures ∙ ap (λ b. seat_in b carrier_at) part in
    (c.requires, (place-found a.all.now a.p.0 found).0, sym seat ∙ c.in_ok-ok_or.ensures.ok_part)
