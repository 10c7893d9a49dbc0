-- `book_sound::record::record_sound` meets its contract: it checks the parts of the definition in their order.
use Rattle.std.proofs.Common.{arith, sym, refl, ◌∙◌, ◌≡◌, Bool}
use Rattle.std.proofs.lemmas.Grind.{common_steps}
use lib.Dec.{leb}
use lib.ListN.{get_or}
use Rattle.views.specs.Sets.{both}
use Rattle.views.specs.Limits.{max_members, max_ordered}
use Rattle.rules.specs.Member.{every}
use Rattle.book_bytes.specs.Records.{record_in}
use Rattle.book_sound.specs.Parts.{taken_fits, positions_fit, views_sound}
use Rattle.book_sound.proofs.Tests.{both-then, both-else, record-asked}
use Rattle.book_sound.proofs.record.record_sound.Goals as goal
use Rattle.book_sound.proofs.record.record_sound.Goals.{then-contains, else-contains, then-tolds_fit, else-tolds_fit, then-taken_fits, else-taken_fits}

pub returns-then-positions_fit : goal.returns-then-positions_fit
unfolding record_in
returns-then-positions_fit c =
    let a = c.args in
    let every-told : Bool = every a.n (λ q. leb (get_or (record_in a.b.now).tolds q 0) max_ordered) in
    let takes : Bool = taken_fits (record_in a.b.now) a.own a.new in
    let stands : Bool = positions_fit (record_in a.b.now) a.own in
    let in-range : c.contains.result ≡ both (leb 1 a.n) (leb a.n max_members) = grind (arith, common_steps) in
    let told : c.if-contains.value ≡ both c.contains.result every-told =
    elim c.if-contains.branch [ then-contains w ↦ both-then w.if-contains.true (w.value-is ∙ w.tolds_fit.ensures ∙ rw w.load_tolds.ensures) | else-contains w ↦ both-else every-told w.if-contains.false w.value-is ]
    in
    let taken : c.if-tolds_fit.value ≡ both c.if-contains.value takes =
    elim c.if-tolds_fit.branch [ then-tolds_fit w ↦ both-then w.if-tolds_fit.true (w.value-is ∙ w.taken_fits.ensures) | else-tolds_fit w ↦ both-else takes w.if-tolds_fit.false w.value-is ]
    in
    let positions : c.if-taken_fits.value ≡ both c.if-tolds_fit.value stands =
    elim c.if-taken_fits.branch [ then-taken_fits w ↦ both-then w.if-taken_fits.true (w.value-is ∙ w.positions_fit.ensures) | else-taken_fits w ↦ both-else stands w.if-taken_fits.false w.value-is ]
    in
    both-then c.if-positions_fit.true c.views_sound.ensures ∙ sym (record-asked a.n (record_in a.b.now) a.own a.new ∙ rw (← in-range, ← told, ← taken, ← positions))

pub returns-else-positions_fit : goal.returns-else-positions_fit
unfolding record_in
returns-else-positions_fit c =
    let a = c.args in
    let every-told : Bool = every a.n (λ q. leb (get_or (record_in a.b.now).tolds q 0) max_ordered) in
    let takes : Bool = taken_fits (record_in a.b.now) a.own a.new in
    let stands : Bool = positions_fit (record_in a.b.now) a.own in
    let in-range : c.contains.result ≡ both (leb 1 a.n) (leb a.n max_members) = grind (arith, common_steps) in
    let told : c.if-contains.value ≡ both c.contains.result every-told =
    elim c.if-contains.branch [ then-contains w ↦ both-then w.if-contains.true (w.value-is ∙ w.tolds_fit.ensures ∙ rw w.load_tolds.ensures) | else-contains w ↦ both-else every-told w.if-contains.false w.value-is ]
    in
    let taken : c.if-tolds_fit.value ≡ both c.if-contains.value takes =
    elim c.if-tolds_fit.branch [ then-tolds_fit w ↦ both-then w.if-tolds_fit.true (w.value-is ∙ w.taken_fits.ensures) | else-tolds_fit w ↦ both-else takes w.if-tolds_fit.false w.value-is ]
    in
    let positions : c.if-taken_fits.value ≡ both c.if-tolds_fit.value stands =
    elim c.if-taken_fits.branch [ then-taken_fits w ↦ both-then w.if-taken_fits.true (w.value-is ∙ w.positions_fit.ensures) | else-taken_fits w ↦ both-else stands w.if-taken_fits.false w.value-is ]
    in
    both-else (views_sound a.n (record_in a.b.now)) c.if-positions_fit.false refl ∙ sym (record-asked a.n (record_in a.b.now) a.own a.new ∙ rw (← in-range, ← told, ← taken, ← positions))
