-- `record::put_views` meets its contract: the views as they stand, and 0 behind them.
use mathlib.Core.Path.{refl, ap}
use mathlib.Core.List.{List, ◌++◌}
use Prim.Native.Nat.{ℕ, ◌+◌, ◌-◌, ◌*◌}
use native.Mathlib.Omega.{arith}
use lib.ListN.{take, drop}
use Rattle.wire.proofs.RecordLaws.{views-put}
use Rattle.wire.proofs.record.put_views.Goals as goal

pub returns : goal.returns
returns c =
    let a = c.args in
    let pre = c.requires in
    let copied = c.copy in
    let k = 14 + 5 * a.n in
    views-put a.out.now a.from.now a.at a.n k (174 - k) _ _ pre.0 pre.1 pre.2 (λ j. omega (arith, c.shared_slice_known-1.given j)) refl refl
    copied.ensures (ap (λ (p : List ℕ). take k copied.new.out ++ (p ++ drop (174 - k) (drop k copied.new.out))) c.clear.ensures)
