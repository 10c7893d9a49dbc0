-- `views::list::insert` meets its contract: the places hold what is put together of the views gone through and, once a view that is not below v was
-- met, of v; what is left comes after.
use Rattle.std.proofs.Common.{◌≡◌, ◌+◌, ◌≤◌, true, cond, drop}
use Rattle.views.specs.Lists.{insert_of}
use Rattle.views.proofs.PlaceLaws.{Filling}
use Rattle.views.proofs.list.insert.Given as goal

abbrev pub invariant-loop-w : goal.invariant-loop-w
invariant-loop-w l =
    (l.k ≤ l.w-index + 1) × (l.ahead ≡ true → l.k ≤ l.w-index)
    × Filling (insert_of l.v l.w-items) (cond l.ahead (insert_of l.v (drop l.w-index l.w-items)) (drop l.w-index l.w-items)) l.at l.k
