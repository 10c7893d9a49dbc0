-- `bench_session::answer` meets its contract: 4 is checked, so nothing need be known of the ranges.
use mathlib.Core.Path.{sym}
use mathlib.Core.Bool.{true≢false}
use Rattle.bench_session.proofs.answer.Goals as goal

pub answer_line-requires : goal.answer_line-requires
answer_line-requires c e = absurd (true≢false (sym e))
