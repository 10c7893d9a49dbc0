-- `book_sound::record::positions_fit` meets its contract: the three positions have one limit.
use Rattle.std.proofs.Common.{arith, sym, ◌∙◌}
use Rattle.std.proofs.lemmas.Grind.{common_steps}
use Rattle.book_bytes.specs.Records.{record_in}
use Rattle.book_sound.proofs.Tests.{positions-are}
use Rattle.book_sound.proofs.record.positions_fit.Goals as goal

pub returns-then-b-limit-2 : goal.returns-then-b-limit-2
unfolding record_in
returns-then-b-limit-2 c =
    sym (positions-are (record_in c.args.b.now) c.args.own _ _ c.load_seat-client.ensures c.limit_if-limit.ensures ∙ grind (arith, common_steps))

pub returns-else-b-limit-2 : goal.returns-else-b-limit-2
unfolding record_in
returns-else-b-limit-2 c =
    sym (positions-are (record_in c.args.b.now) c.args.own _ _ c.load_seat-client.ensures c.limit_if-limit.ensures ∙ grind (arith, common_steps))
