-- What is noted of members in a list of counts, as the rules' function of a member: one member's count.
use mathlib.Core.Path.{◌≡◌, fun_ext}
use mathlib.Core.Logic.{⊎_elim}
use mathlib.Core.Bool.{true, false}
use mathlib.Core.List.{List}
use Prim.Native.Nat.{ℕ, ◌<◌}
use lib.Dec.{eqb}
use lib.ListN.{length, get_or, set}
use lib.Seq.{get_or-set_same, get_or-set_other}
use borrow.Author.Tests.{eqb-true, eqb-false}
use Rattle.views.specs.Points.{at}
use Rattle.views.proofs.SetLaws.{known}

-- ---- one member's count

told_at : (l : List ℕ) (q k : ℕ) → q < length l → (r : ℕ) → get_or (set l q k) r 0 ≡ at q k (λ r. get_or l r 0) r
unfolding at
told_at l q k h r =
    ⊎_elim
    (λ (t : eqb r q ≡ true). rw (t, eqb-true r q t) (get_or-set_same l q k 0 h))
    (λ (t : eqb r q ≡ false). rw t (get_or-set_other l q r k 0 (eqb-false r q t)))
    (known (eqb r q))

pub one_told : (l : List ℕ) (q k : ℕ) → q < length l → ◌≡◌ {A = ℕ → ℕ} (λ r. get_or (set l q k) r 0) (at q k (λ r. get_or l r 0))
one_told l q k h = fun_ext (told_at l q k h)
