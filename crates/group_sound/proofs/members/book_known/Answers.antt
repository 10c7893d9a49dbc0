-- `group_sound::members::book_known` meets its contract: a layout that fits has every part within the bytes, and each is tested where it lies.
use mathlib.Core.Path.{sym, ap, ◌∙◌}
use native.Mathlib.Omega.{arith}
use Rattle.std.proofs.lemmas.Grind.{common_steps}
use Rattle.wire.specs.Reader.{views_in}
use Rattle.rules.specs.Sound.{listed}
use Rattle.book_bytes.specs.Places.{outgoing_at}
use Rattle.book_bytes.specs.Books.{outgoing_in}
use Rattle.book_bytes.proofs.LayoutLaws.{layout-says}
use Rattle.book_bytes.proofs.Opens.{opens-rise}
use Rattle.group_sound.proofs.Tests.{fits-layout, infos-rise}
use Rattle.group_sound.proofs.SeatLaws.{book-in}
use Rattle.group_sound.proofs.Infos.{known-listed}
use Rattle.group_sound.proofs.members.book_known.Goals as goal

pub load_view-settled-requires : goal.load_view-settled-requires
load_view-settled-requires c =
    let o = c in
    let b = o.args.b.now in
    let l = layout-says b (fits-layout b o.requires.1) in
    omega (arith, l.size)

pub opens_known-requires : goal.opens_known-requires
opens_known-requires c =
    let o = c in
    let b = o.args.b.now in
    let l = layout-says b (fits-layout b o.requires.1) in
    (o.requires.0, omega (arith, l.size), o.requires.3, l.opens)

pub seats_known-requires : goal.seats_known-requires
seats_known-requires c =
    let o = c in
    let b = o.args.b.now in
    let l = layout-says b (fits-layout b o.requires.1) in
    (o.requires.0, omega (arith, l.size), o.requires.2, o.requires.3, c.place-i.ensures)

pub bounds-b-191 : goal.bounds-b-191
bounds-b-191 c =
    let o = c in
    let b = o.args.b.now in
    let l = layout-says b (fits-layout b o.requires.1) in
    omega (arith, l.size)

pub overflow_cast-b : goal.overflow_cast-b
overflow_cast-b c = omega (arith, c.type_inv.b outgoing_at)

pub infos_known-requires : goal.infos_known-requires
infos_known-requires c =
    let o = c in
    let b = o.args.b.now in
    let l = layout-says b (fits-layout b o.requires.1) in
    (o.requires.0, omega (arith, l.size, l.outgoing), o.requires.3, l.slots)

pub returns-then-seats_known : goal.returns-then-seats_known
returns-then-seats_known c =
    let a = c.args in
    let views = views_in a.list.now 0 a.made in
    let b = a.b.now in
    let known = book-in views a.queues.now b (layout-says b (fits-layout b c.requires.1)).opens (opens-rise b c.requires.1) in
    let settled = c.is_at.ensures ∙ ap (listed views) c.load_view-settled.ensures in
    let infos = known-listed views (outgoing_in b) (infos-rise b c.requires.1) in
    c.infos_known.ensures ∙ infos ∙ sym (known ∙ grind (arith, common_steps, settled))

pub returns-else-seats_known : goal.returns-else-seats_known
returns-else-seats_known c =
    let a = c.args in
    let views = views_in a.list.now 0 a.made in
    let b = a.b.now in
    let known = book-in views a.queues.now b (layout-says b (fits-layout b c.requires.1)).opens (opens-rise b c.requires.1) in
    let settled = c.is_at.ensures ∙ ap (listed views) c.load_view-settled.ensures in
    rw known (grind (arith, common_steps, settled))
