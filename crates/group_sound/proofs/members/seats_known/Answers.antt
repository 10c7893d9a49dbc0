-- `group_sound::members::seats_known` meets its contract: each way out is one of the definition's tests.
use mathlib.Core.Path.{◌≡◌, sym, ◌∙◌}
use Rattle.std.specs.Prelude.{None, Some}
use native.Mathlib.Omega.{arith}
use borrow.Author.Tests.{ne_eqb, leb-true, leb-false}
use Rattle.wire.specs.Reader.{views_in}
use Rattle.wire.proofs.ReaderLaws.{length-views_in}
use Rattle.rules.proofs.TestLaws.{listed_in}
use Rattle.book_bytes.specs.Places.{carrier_at}
use Rattle.book_bytes.specs.Records.{seat_in}
use Rattle.group_bytes.proofs.PlaceLaws.{place_in}
use Rattle.group_sound.proofs.SeatLaws.{none-taken, none-known, carrier-unlisted, carrier-taken, carrier-known}
use Rattle.group_sound.proofs.members.seats_known.Goals as goal
use Rattle.group_sound.proofs.members.seats_known.Goals.{then-is_at, else-is_at}

pub returns-then-taken-eq0 : goal.returns-then-taken-eq0
returns-then-taken-eq0 c =
    let a = c.args in
    let views = views_in a.list.now 0 a.made in
    let none : None ≡ seat_in a.b.now carrier_at = grind arith in
    none-known views a.queues.now a.b.now none (omega (arith, c.if-taken-eq0.true)) _ c.client_listed.ensures

pub returns-else-taken-eq0 : goal.returns-else-taken-eq0
returns-else-taken-eq0 c =
    let a = c.args in
    let views = views_in a.list.now 0 a.made in
    let none : None ≡ seat_in a.b.now carrier_at = grind arith in
    let taken = c.if-taken-eq0.false in
    ne_eqb _ _ taken ∙ none-taken views a.queues.now a.b.now none (omega (arith, taken))

pub bounds-queues-j : goal.bounds-queues-j
bounds-queues-j c =
    let a = c.args in
    let views = views_in a.list.now 0 a.made in
    let here = listed_in views _ (sym c.is_at.ensures ∙ c.if-is_at.true) in
    omega (arith, place_in _ views here, length-views_in a.list.now 0 a.made, c.place_near-j.ensures, c.requires.2)

pub returns-then-taken-queues : goal.returns-then-taken-queues
returns-then-taken-queues c =
    let a = c.args in
    let views = views_in a.list.now 0 a.made in
    let v = c.in-Some.v in
    let some : Some v ≡ seat_in a.b.now carrier_at = grind arith in
    let known = carrier-known views a.queues.now a.b.now v some in
    let client = c.client_listed-then-taken-queues.ensures in
    elim c.if-is_at.branch [
      | then-is_at w ↦ known (sym c.is_at.ensures ∙ w.if-is_at.true) _ c.place_near-j.ensures (leb-true _ _ (sym w.value-is ∙ c.if-taken-queues.true)) _ client
      | else-is_at w ↦ cc
    ]

pub returns-else-taken-queues : goal.returns-else-taken-queues
returns-else-taken-queues c =
    let a = c.args in
    let views = views_in a.list.now 0 a.made in
    let v = c.in-Some.v in
    let some : Some v ≡ seat_in a.b.now carrier_at = grind arith in
    let fewer = carrier-taken views a.queues.now a.b.now v some in
    c.if-taken-queues.false
    ∙ elim c.if-is_at.branch [
      | then-is_at w ↦ fewer (sym c.is_at.ensures ∙ w.if-is_at.true) _ c.place_near-j.ensures (leb-false _ _ (sym w.value-is ∙ c.if-taken-queues.false))
      | else-is_at w ↦ carrier-unlisted views a.queues.now a.b.now v some (sym c.is_at.ensures ∙ w.if-is_at.false)
    ]
