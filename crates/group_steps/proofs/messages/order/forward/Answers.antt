-- `group_steps::messages::order::forward` meets its contract: the first entry is stored in the order, then it goes.
use native.Mathlib.Omega.{arith}
use Rattle.group_steps.proofs.OrderLaws.{pop-asks}
use Rattle.group_steps.proofs.messages.order.forward.Goals as goal

pub pop-requires : goal.pop-requires
pop-requires c =
    let s = c in
    let a = s.args in
    rw c.append.ensures
    (pop-asks a.q.now (λ j. omega (arith, c.slice_known-1.given j)) a.c a.w
    s.requires.0 s.requires.1 s.requires.2 s.requires.3)

pub returns : goal.returns
returns c = rw (← c.append.ensures) c.pop.ensures
