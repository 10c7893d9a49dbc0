-- `group_listed::slice::lay` meets its contract: laying what is left gives what laying all from the start gives.
use mathlib.Core.Path.{◌≡◌, refl, ◌∙◌}
use native.Mathlib.Omega.{arith}
use Rattle.std.proofs.Common.{set}
use Rattle.group_listed.proofs.SliceLaws.{laid-last, laid-step}
use Rattle.group_listed.proofs.slice.lay.Goals as goal

pub loop-j-init : goal.loop-j-init
loop-j-init c = refl

pub loop-j-preserved : goal.loop-j-preserved
loop-j-preserved c =
    let l = c.loop-j in
    let put : c.put.new.list ≡ set l.list l.j l.next = c.put.ensures in
    rw put (laid-step l.list l.j l.next (omega arith) ∙ l.invariant)

pub returns : goal.returns
returns c = laid-last c.loop-j.list c.loop-j.j c.loop-j.next (omega arith) ∙ c.loop-j.invariant
