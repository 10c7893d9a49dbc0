-- `book_sound::record::views_sound` meets its contract: it checks the conditions of the definition in their order.
use Rattle.std.proofs.Common.{arith, sym, ◌∙◌}
use Rattle.std.proofs.lemmas.Grind.{common_steps}
use Rattle.book_sound.proofs.Tests.{views-in}
use Rattle.book_sound.proofs.record.views_sound.Goals as goal

pub returns-then-seat_fits-2 : goal.returns-then-seat_fits-2
returns-then-seat_fits-2 c = sym (views-in c.args.b.now c.args.n c.requires.1 _ c.load_view-settled.ensures ∙ grind (arith, common_steps))

pub returns-else-seat_fits-2 : goal.returns-else-seat_fits-2
returns-else-seat_fits-2 c = sym (views-in c.args.b.now c.args.n c.requires.1 _ c.load_view-settled.ensures ∙ grind (arith, common_steps))
