-- `group_listed::slice::lay` meets its contract: laying what is left gives what laying all from the start gives.
use Rattle.std.proofs.Common.{◌≡◌, ◌-◌}
use Rattle.views.specs.Limits.{max_views}
use Rattle.group_listed.specs.SliceParts.{laid}
use Rattle.group_listed.proofs.slice.lay.Given as goal

abbrev pub invariant-loop-j : goal.invariant-loop-j
invariant-loop-j l = laid (max_views - l.j) l.list l.j l.next ≡ laid (max_views - l.fn.i) l.fn.list l.fn.i l.fn.v
