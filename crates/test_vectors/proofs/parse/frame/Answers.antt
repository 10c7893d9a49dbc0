-- The numbers after the fourth are views, by twos.
use Rattle.std.specs.Prelude.{◌≡◌, ◌-◌, ◌/◌}
use native.Mathlib.Omega.{arith}
use Rattle.test_vectors.proofs.LineLaws.{frame_made}
use Rattle.test_vectors.proofs.parse.frame.Goals as goal
use Rattle.test_vectors.proofs.parse.frame.Goals.{then-n-lt4, else-n-lt4}

pub returns : goal.returns
returns c =
    let a = c.args in
    let k : c.if-n-lt4.count ≡ (a.n - 4) / 2 = elim c.if-n-lt4.branch [ then-n-lt4 w ↦ omega arith | else-n-lt4 w ↦ omega arith ] in
    frame_made a.xs.now a.n _ _ _ k c.message.ensures c.views-list.ensures
