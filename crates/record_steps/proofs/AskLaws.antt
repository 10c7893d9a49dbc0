-- What the walks over members and over views find.
use mathlib.Core.Path.{◌≡◌, refl, ◌∙◌}
use mathlib.Core.Bool.{Bool, true, false, not, ◌&&◌, ◌||◌}
use mathlib.Core.List.{List, [], ◌∷◌}
use Prim.Native.Nat.{ℕ, zero, suc, ◌+◌}
use Rattle.std.specs.List.{list_all, range_with_len}
use native.Mathlib.Omega.{arith}
use Rattle.views.specs.declared.View.{View}
use Rattle.views.specs.Sets.{has, both, one, majority_of}
use Rattle.rules.specs.Member.{every, all, passes}

-- a member of the set is asked, another is not
module _ (members : ℕ) (f : ℕ → Bool) (q : ℕ) where
  pub asked-met : has members q ≡ true → f q ≡ true → (not (has members q) || f q) ≡ true
  asked-met e i = rw (e, i)

  pub asked-unmet : has members q ≡ true → f q ≡ false → (not (has members q) || f q) ≡ false
  asked-unmet e i = rw (e, i)

  pub unasked : has members q ≡ false → (not (has members q) || f q) ≡ true
  unasked e = rw e

-- ---- the tests of the library, of every number of a range and of every item of a list

both-and : (a b : Bool) → (a && b) ≡ both a b
both-and true b = refl
both-and false b = refl

range_more : (f : ℕ → Bool) (a n j : ℕ) → a + n ≡ j → list_all f (range_with_len a (suc n)) ≡ (list_all f (range_with_len a n) && f j)
range_more f a zero j e = grind (arith, e)
range_more f a (suc n) j e = let more = range_more f (a + 1) n j (omega arith) in grind (arith, more)

pub every-range : (f : ℕ → Bool) (n : ℕ) → list_all f (range_with_len 0 n) ≡ every n f
unfolding every
every-range f zero = refl
every-range f (suc n) = range_more f 0 n n (omega arith) ∙ rw (every-range f n) (both-and (every n f) (f n))

pub all-list : {A : Type 0} (f : A → Bool) (l : List A) → list_all f l ≡ all f l
unfolding all
all-list f [] = refl
all-list f (x ∷ l) = rw (all-list f l) (both-and (f x) (all f l))

-- ---- every held view

pub passes-majority : (v held : View) → passes one v held ≡ majority_of v.set held.set
unfolding passes majority_of
passes-majority v held = refl
