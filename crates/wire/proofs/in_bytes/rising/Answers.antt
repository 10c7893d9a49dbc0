-- `in_bytes::rising` meets its contract: no views rise, and others where those behind the first rise from above it.
use mathlib.Core.Path.{sym, ap, ◌∙◌}
use native.Mathlib.Omega.{arith}
use Prim.Native.Nat.{ℕ, ◌+◌, ◌-◌}
use Rattle.views.specs.Lists.{id_of, rises_above}
use Rattle.wire.specs.Reader.{views_in}
use Rattle.wire.proofs.InBytesLaws.{rising_none, rising-first}
use Rattle.wire.proofs.in_bytes.rising.Goals as goal

pub returns-then-count-eq0 : goal.returns-then-count-eq0
returns-then-count-eq0 c = let a = c.args in sym (rising_none a.b.now a.from a.count (omega arith))

pub returns : goal.returns
returns c = let a = c.args in c.rise_above.ensures ∙ ap (λ (g : ℕ). rises_above g (views_in a.b.now (a.from + 5) (a.count - 1))) (ap id_of c.load_view-first.ensures) ∙ sym (rising-first a.b.now a.from a.count (a.count - 1) (omega arith))
