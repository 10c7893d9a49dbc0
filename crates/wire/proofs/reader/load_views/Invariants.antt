-- The places hold the views read so far, and unused places behind them.
use mathlib.Core.Path.{◌≡◌}
use Rattle.views.specs.Lists.{places}
use Rattle.wire.specs.Reader.{views_in}
use Rattle.wire.proofs.reader.load_views.Given as goal

abbrev pub invariant-loop-i : goal.invariant-loop-i
invariant-loop-i l = l.at ≡ places (views_in l.b l.from l.i)
