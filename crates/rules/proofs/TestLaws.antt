-- Laws of the tests that the rules are written in: over the members, over a list, a list of conditions, a view among those made. Both directions each.
use mathlib.Core.Path.{◌≡◌, refl, sym, ap, ap₂}
use mathlib.Core.Logic.{⊎_elim}
use mathlib.Core.Bool.{Bool, true, false, true≢false}
use Rattle.std.specs.Prelude.{Option, None, Some}
use mathlib.Core.List.{List, [], ◌∷◌}
use Prim.Native.Nat.{ℕ, zero, suc, ◌≤◌, ◌<◌}
use native.Mathlib.Omega.{arith}
use lib.Dec.{eqb, leb}
use borrow.Author.Tests.{leb-true, eqb-true, eqb-false, le-leb, eq-eqb}
use Rattle.views.specs.declared.View.{View}
use Rattle.views.specs.Sets.{both}
use Rattle.views.specs.Lists.{id_of}
use Rattle.views.proofs.SetLaws.{known, both_true}
use Rattle.views.proofs.Members.{In, top, pop, in-nil, in-cons, in_top}
use Rattle.rules.specs.Member.{every, all}
use Rattle.rules.specs.Sound.{within, conditions, is_same_view, listed, listed_if}

-- ---- tests over lists and over members

pub both-from : (a b : Bool) → a ≡ true → b ≡ true → both a b ≡ true
both-from a b h k = rw h k

pub within-says : (lo x hi : ℕ) → within lo x hi ≡ true → (lo ≤ x) × (x ≤ hi)
within-says lo x hi h = let t = both_true (leb lo x) (leb x hi) h in (leb-true lo x t.0, leb-true x hi t.1)

pub within-from : (lo x hi : ℕ) → lo ≤ x → x ≤ hi → within lo x hi ≡ true
within-from lo x hi h k = both-from (leb lo x) (leb x hi) (le-leb lo x h) (le-leb x hi k)

-- tests that agree below n
pub every-same : (n : ℕ) (f g : ℕ → Bool) → ((p : ℕ) → p < n → f p ≡ g p) → every n f ≡ every n g
unfolding every
every-same zero f g h = refl
every-same (suc n) f g h = ap₂ both (every-same n f g (λ p i. h p (omega arith))) (h n (omega arith))

pub every-at : (n : ℕ) (f : ℕ → Bool) → every n f ≡ true → (p : ℕ) → p < n → f p ≡ true
unfolding every
every-at zero f h p i = absurd (omega arith)
every-at (suc n) f h p i =
    let t = both_true (every n f) (f n) h in
    ⊎_elim (λ (e : eqb p n ≡ true). rw (eqb-true p n e) t.1)
    (λ (e : eqb p n ≡ false). every-at n f t.0 p (omega (arith, eqb-false p n e)))
    (known (eqb p n))

pub every-from : (n : ℕ) (f : ℕ → Bool) → ((p : ℕ) → p < n → f p ≡ true) → every n f ≡ true
unfolding every
every-from zero f h = refl
every-from (suc n) f h = both-from (every n f) (f n) (every-from n f (λ p i. h p (omega arith))) (h n (omega arith))

pub all-at : {A : Type 0} (f : A → Bool) (l : List A) → all f l ≡ true → (x : A) → In x l → f x ≡ true
unfolding all
all-at f [] h x i = absurd (in-nil i)
all-at {A} f (y ∷ l) h x i =
    let t = both_true (f y) (all f l) h in
    ⊎_elim (λ (e : x ≡ y). rw e t.0) (λ (j : In x l). all-at f l t.1 x j) (in-cons i)

pub all_from : {A : Type 0} (f : A → Bool) (l : List A) → ((x : A) → In x l → f x ≡ true) → all f l ≡ true
unfolding all
all_from f [] h = refl
all_from f (y ∷ l) h = both-from (f y) (all f l) (h y top) (all_from f l (λ x i. h x (pop i)))

-- facts one after another: the last is tt
infixr 5 ◌and◌
pub ◌and◌ : {A B : Type 0} → A → B → A × B
a and b = (a, b)

-- every condition of a list, one by one
abbrev pub Conditions : List Bool → Type 0
Conditions [] = Unit {0}
Conditions (c ∷ l) = (c ≡ true) × Conditions l

pub conditions-say : (l : List Bool) → conditions l ≡ true → Conditions l
unfolding conditions
conditions-say [] h = tt
conditions-say (c ∷ l) h = let t = both_true c (conditions l) h in (t.0, conditions-say l t.1)

pub conditions-from : (l : List Bool) → Conditions l → conditions l ≡ true
unfolding conditions
conditions-from [] h = refl
conditions-from (c ∷ l) h = both-from c (conditions l) h.0 (conditions-from l h.1)

-- ---- listed views

same_view : (v w : View) → is_same_view v w ≡ true → v ≡ w
same_view v w h =
    let t = both_true (eqb (id_of v) (id_of w)) (eqb v.set w.set) h in
    let g : id_of v ≡ id_of w = eqb-true _ _ t.0 in
    let m : v.set ≡ w.set = eqb-true _ _ t.1 in
    λ i. record { id = record { 0 = g i }; set = m i }

view-same : (v w : View) → v ≡ w → is_same_view v w ≡ true
view-same v w e = both-from _ _ (eq-eqb _ _ (ap id_of e)) (eq-eqb _ _ (ap (λ (x : View). x.set) e))

pub listed_in : (l : List View) (v : View) → listed l v ≡ true → In v l
unfolding listed
listed_in [] v h = absurd (true≢false (sym h))
listed_in (w ∷ l) v h =
    ⊎_elim (λ (e : is_same_view v w ≡ true). in_top (same_view v w e))
    (λ (e : is_same_view v w ≡ false). let t : listed l v ≡ true = rw e at h in pop (listed_in l v t))
    (known (is_same_view v w))

pub listed-from : (l : List View) (v : View) → In v l → listed l v ≡ true
unfolding listed
listed-from [] v i = absurd (in-nil i)
listed-from (w ∷ l) v i =
    ⊎_elim (λ (e : v ≡ w). rw (view-same v w e))
    (λ (j : In v l).
    ⊎_elim (λ (e : is_same_view v w ≡ true). rw e) (λ (e : is_same_view v w ≡ false). rw e (listed-from l v j)) (known (is_same_view v w)))
    (in-cons i)

pub optional-in : (l : List View) (o : Option View) → listed_if l o ≡ true → (v : View) → o ≡ Some v → In v l
optional-in l None h v e = let z : ◌≡◌ {A = ℕ} 0 1 = cc in absurd (omega arith)
optional-in l (Some w) h v e = let k : w ≡ v = cc in rw (← k) (listed_in l w h)

pub optional-from : (l : List View) (o : Option View) → ((v : View) → o ≡ Some v → In v l) → listed_if l o ≡ true
optional-from l None h = refl
optional-from l (Some w) h = listed-from l w (h w refl)
