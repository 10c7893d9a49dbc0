-- What the format's tests say of counts, and the test for an empty set as a test of any view.
use mathlib.Core.Path.{◌≡◌, refl, sym}
use mathlib.Core.Bool.{Bool, true, false, cond, ◌||◌}
use mathlib.Core.List.{List, [], ◌∷◌}
use Prim.Native.Nat.{ℕ, ◌≤◌}
use native.Mathlib.Omega.{arith}
use borrow.Author.Tests.{leb-true, eqb-true}
use lib.Dec.{eqb, leb}
use Rattle.std.specs.List.{list_any}
use Rattle.views.specs.declared.View.{View}
use Rattle.views.specs.Limits.{max_views}
use Rattle.views.specs.Sets.{both, is_empty}
use Rattle.views.proofs.SetLaws.{both_true}
use Rattle.wire.specs.Format.{views_allowed, numbers_allowed, some_empty}

few-views : (info : Bool) (n : ℕ) → cond info (both (leb 1 n) (leb n max_views)) (eqb n 0) ≡ true → n ≤ max_views
few-views true n e = leb-true n max_views (both_true (leb 1 n) (leb n max_views) e).1
few-views false n e = omega (arith, eqb-true n 0 e)

-- a count of views that a kind allows is that of places at most
pub views-few : (kind n : ℕ) → views_allowed kind n ≡ true → n ≤ max_views
unfolding views_allowed
views-few kind n e = few-views (eqb kind 2) n e

few-numbers : (client told : Bool) (n : ℕ) → cond client (eqb n 1) (cond told (eqb n 1) (eqb n 0)) ≡ true → n ≤ 1
few-numbers true told n e = omega (arith, eqb-true n 1 e)
few-numbers false true n e = omega (arith, eqb-true n 1 e)
few-numbers false false n e = omega (arith, eqb-true n 0 e)

pub numbers-few : (kind n : ℕ) → numbers_allowed kind n ≡ true → n ≤ 1
unfolding numbers_allowed
numbers-few kind n e = few-numbers (eqb kind 1) (eqb kind 4) n e

-- the definition's form of a test that is met here or after
pub or-cond : (a b : Bool) → cond a true b ≡ (a || b)
or-cond true b = refl
or-cond false b = refl

pub empty-any : (l : List View) → list_any (λ (v : View). is_empty v.set) l ≡ some_empty l
unfolding some_empty
empty-any [] = refl
empty-any (v ∷ l) = rw (empty-any l) (sym (or-cond (is_empty v.set) (some_empty l)))
