-- What a walk over the members' told counts does at each.
use mathlib.Core.Path.{◌≡◌}
use mathlib.Core.Bool.{true, false}
use mathlib.Core.List.{List}
use mathlib.Core.Logic.{⊎_elim}
use Prim.Native.Nat.{ℕ, ◌+◌, ◌<◌, ◌≤◌}
use native.Mathlib.Omega.{arith}
use borrow.Author.Tests.{ltb-true, ltb-false, eqb-true, eqb-false}
use lib.Dec.{eqb, ltb, leb}
use lib.ListN.{length, get_or, get_or-eq_default}
use Rattle.views.specs.Limits.{max_ordered}
use Rattle.views.proofs.SetLaws.{known}
use Rattle.rules.specs.Member.{every}
use Rattle.rules.proofs.TestLaws.{every-from}

-- the told counts of the members below q are within their limit
abbrev pub ToldsFit : ℕ → List ℕ → ℕ → Type 0
ToldsFit n l q = (p : ℕ) → p < q → p < n → leb (get_or l p 0) max_ordered ≡ true

pub tolds-more : (n : ℕ) (l : List ℕ) (q : ℕ) → ToldsFit n l q → (q < n → leb (get_or l q 0) max_ordered ≡ true) → ToldsFit n l (q + 1)
tolds-more n l q f g = λ p h i.
    ⊎_elim (λ (e : eqb p q ≡ true). let k = eqb-true p q e in rw k (g (omega arith)))
    (λ (e : eqb p q ≡ false). f p (omega (arith, eqb-false p q e)) i)
    (known (eqb p q))

-- past the places there is no count
pub tolds-end : (n : ℕ) (l : List ℕ) (q : ℕ) → length l ≤ q → ToldsFit n l q → every n (λ p. leb (get_or l p 0) max_ordered) ≡ true
tolds-end n l q h f = every-from n (λ (p : ℕ). leb (get_or l p 0) max_ordered) (λ p i.
    ⊎_elim (λ (t : ltb p q ≡ true). f p (ltb-true p q t) i)
    (λ (t : ltb p q ≡ false). let k = ltb-false p q t in rw (get_or-eq_default l 0 {n = p} (omega arith)))
    (known (ltb p q)))
