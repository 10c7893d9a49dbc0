-- `bench_session::showing::hear` meets its contract: 4 is checked, so nothing need be known of the ranges.
use mathlib.Core.Path.{sym}
use mathlib.Core.Bool.{true≢false}
use Rattle.bench_session.proofs.showing.hear.Goals as goal

pub hear_line-requires : goal.hear_line-requires
hear_line-requires c e = absurd (true≢false (sym e))
