-- `book_sound::record::taken_fits` meets its contract: the limit above, then the inward list that is the carrier view's.
use Rattle.std.proofs.Common.{sym, ◌∙◌, ◌≡◌}
use borrow.Author.Tests.{lt-leb}
use mathlib.Core.Bool.{cond}
use Rattle.book_bytes.specs.Records.{record_in}
use Rattle.book_sound.proofs.Tests.{taken-over, taken-within}
use Rattle.book_sound.proofs.record.taken_fits.Goals as goal
use Rattle.book_sound.proofs.record.taken_fits.Goals.{then-same_view, else-same_view}

pub returns-then-taken-limit_if : goal.returns-then-taken-limit_if
unfolding record_in
returns-then-taken-limit_if c =
    let items : cond c.same_view.result c.args.own c.args.new ≡ c.if-same_view.items =
    elim c.if-same_view.branch [ then-same_view w ↦ rw w.if-same_view.true (sym w.items-is) | else-same_view w ↦ rw w.if-same_view.false (sym w.items-is) ]
    in
    taken-within (record_in c.args.b.now) c.args.own c.args.new _ _ c.load_seat-carrier.ensures c.load_seat-client.ensures _ c.limit_if.ensures
    _ _ _ c.if-taken-limit_if.true c.same_view.ensures items c.limit_if-then-taken-limit_if.ensures

pub returns-else-taken-limit_if : goal.returns-else-taken-limit_if
unfolding record_in
returns-else-taken-limit_if c =
    sym (taken-over (record_in c.args.b.now) c.args.own c.args.new _ _ c.load_seat-carrier.ensures c.load_seat-client.ensures _ c.limit_if.ensures c.if-taken-limit_if.false ∙ sym (lt-leb _ _ c.if-taken-limit_if.false))
