use mathlib.Core.Path.{sym, ◌∙◌}
use Rattle.bench_session.proofs.showing.decided_by.Goals as goal

pub returns-then-asks_all : goal.returns-then-asks_all
returns-then-asks_all c = rw (c.in-Undecided.is, sym c.asks_all.ensures ∙ c.if-asks_all.true)

pub returns-else-asks_all : goal.returns-else-asks_all
returns-else-asks_all c = rw (c.in-Undecided.is, sym c.asks_all.ensures ∙ c.if-asks_all.false)
