-- Something does happen: a view comes to exist, and the member of a group of one joins it, takes its own info, attempts it and registers.
use mathlib.Core.Path.{◌≡◌, refl, subst}
use mathlib.Core.Logic.{⊎_elim}
use mathlib.Core.List.{[], ◌∷◌}
use Prim.Native.Nat.{ℕ}
use native.Mathlib.Omega.{arith}
use Rattle.views.specs.Points.{at, at2}
use Rattle.views.specs.Sets.{one, has, is_beyond, in_common, weigh}
use Rattle.views.specs.Lists.{id_of, view_of, rises_above, find_of, insert_of, union_of, above_of}
use Rattle.views.proofs.Members.{In, top, in-nil, in-cons}
use Rattle.rules.specs.Data.{Member, Message, info, entry, attempt, register, accepted, need, with_view, with_first, after}
use Rattle.rules.specs.Member.{every, all, passes, queues, joined, joins, passing, settled_by, learned, received, delivered, opened, attempted, attempts, registers}
use Rattle.rules.specs.Sound.{conditions, book_counts}
use Rattle.rules.specs.Group.{fresh, first_view}
use Rattle.rules.specs.Runs.{events_of}
use Rattle.rules.specs.Figure1.{At}
use Rattle.rules.specs.Alone.{Sent, alone, book_sound, join_alone, deliver_alone, attempt_alone}
use Rattle.rules.specs.Hosts as H
use Rattle.rules.specs.Hosts.{World, Call, History}

-- what holds of a message that is read holds of every other name of it
same : (P : Sent → Type 0) (x y : Sent) → accepted x ≡ accepted y → P x → P y
same P x y e h = let k : x ≡ y = cc in subst P k h

-- the next message of the view g
next : {w : World ℕ} {p : Member} (q : Member) (g : ℕ) (m : Message) → At (w.order g) (w.books p).carrier.taken (entry q m)
    → Call one 1 w p (deliver_alone 1 p (accepted (record { view = g; message = m })) q (w.books p))
next {w} {p} q g m h =
    H.deliver (accepted (record { view = g; message = m })) q
    (λ v k c e. same (λ x. At (w.order x.view) (w.books p).carrier.taken (entry q x.message)) (record { view = g; message = m }) (record { view = id_of v; message = k }) e h)

pub case : (w : World ℕ) × History one 1 1 w (attempt 0 (view_of 5 1) ∷ register 0 5 ∷ [])
unfolding at at2 has is_beyond in_common weigh rises_above insert_of union_of above_of find_of
    need with_view with_first after every all passes queues joined joins passing settled_by learned received delivered opened attempted attempts registers
    conditions book_counts fresh events_of alone book_sound join_alone deliver_alone attempt_alone
case = (
  _,
  H.then (H.then (H.then (H.then (H.then (H.then (H.then (H.begin refl refl)
      (H.exist (view_of 5 1) refl (λ u h. ⊎_elim (λ (e : u ≡ first_view 1) (k : id_of u ≡ 5). let z : id_of u ≡ 0 = rw e in omega arith) (λ (j : In u []). absurd (in-nil j)) (in-cons h))))
      (H.call 0 (H.join (view_of 5 1) top)))
      (H.pass 0))
      (H.order 0 5 (entry 0 (info (first_view 1) [])) [] refl))
      (H.call 0 (next 0 5 (info (first_view 1) []) ([], refl))))
      (H.call 0 H.attempt))
      (H.call 0 H.register),
)
