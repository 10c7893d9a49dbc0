-- What holds of whatever a rule gives, refused or not: one law for each combinator that the refusal table is written in.
use mathlib.Core.Path.{◌≡◌, refl}
use mathlib.Core.Bool.{Bool, true, false}
use Rattle.std.specs.Prelude.{Option, None, Some}
use mathlib.Core.List.{List, [], ◌∷◌}
use Prim.Native.Nat.{ℕ, zero, suc}
use Rattle.views.specs.declared.View.{View}
use Rattle.views.specs.declared.refusal.Refusal.{Refusal}
use Rattle.rules.specs.Data.{Result, refused, accepted, need, with_view, with_first, after}
use Rattle.rules.specs.Group.{with_listed, pick}

-- P of what is given, if anything is
pub data Holds {A : Type 0} (P : A → Type 0) : Result A → Type 0 where
  refuses : {r : Refusal} → Holds P (refused r)
  gives : {x : A} → P x → Holds P (accepted x)

-- P of each result of a list
abbrev pub HoldsEach : {A : Type 0} → (A → Type 0) → List (Result A) → Type 0
HoldsEach P [] = Unit {0}
HoldsEach P (r ∷ l) = Holds P r × HoldsEach P l

pub given : {A : Type 0} {P : A → Type 0} {x : A} → Holds P (accepted x) → P x
given (gives h) = h

pub holds-from : {A : Type 0} {P : A → Type 0} (x : Result A) → ((y : A) → x ≡ accepted y → P y) → Holds P x
holds-from (refused r) h = refuses
holds-from (accepted y) h = gives (h y refl)

pub need-holds : {A : Type 0} {P : A → Type 0} (c : Bool) (r : Refusal) (x : Result A) → (c ≡ true → Holds P x) → Holds P (need c r x)
unfolding need
need-holds true r x h = h refl
need-holds false r x h = refuses

pub view-holds : {A : Type 0} {P : A → Type 0} (o : Option View) (r : Refusal) (f : View → Result A)
    → ((v : View) → o ≡ Some v → Holds P (f v)) → Holds P (with_view o r f)
unfolding with_view
view-holds None r f h = refuses
view-holds (Some v) r f h = h v refl

pub first_holds : {A B : Type 0} {P : A → Type 0} (l : List B) (r : Refusal) (f : B → List B → Result A)
    → ((x : B) (rest : List B) → l ≡ x ∷ rest → Holds P (f x rest)) → Holds P (with_first l r f)
unfolding with_first
first_holds [] r f h = refuses
first_holds (x ∷ l) r f h = h x l refl

pub after_holds : {A B : Type 0} {P : B → Type 0} (Q : A → Type 0) (r : Result A) (f : A → Result B)
    → Holds Q r → ((x : A) → Q x → Holds P (f x)) → Holds P (after r f)
unfolding after
after_holds Q (refused r) f q h = refuses
after_holds Q (accepted x) f q h = h x (given q)

pub then-holds : {A B : Type 0} {P : B → Type 0} (r : Result A) (f : A → Result B) → Holds (λ x. Holds P (f x)) r → Holds P (after r f)
then-holds {P = P} r f h = after_holds (λ x. Holds P (f x)) r f h (λ x k. k)

pub listed-holds : {A : Type 0} {P : A → Type 0} (o : Option View) (f : View → Result A)
    → ((v : View) → o ≡ Some v → Holds P (f v)) → Holds P (with_listed o f)
unfolding with_listed
listed-holds (Some v) f h = h v refl
listed-holds None f h = refuses

pub pick-holds : {A : Type 0} {P : A → Type 0} (k : ℕ) (l : List (Result A)) → HoldsEach P l → Holds P (pick k l)
unfolding pick
pick-holds zero l h = refuses
pick-holds (suc k) [] h = refuses
pick-holds (suc zero) (r ∷ l) h = h.0
pick-holds (suc (suc k)) (r ∷ l) h = pick-holds (suc k) l h.1
