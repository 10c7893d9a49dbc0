-- A function changed at one number, or at a pair. Each change has one law, by which what holds of the new function follows from what held of the old.
use mathlib.Core.Path.{◌≡◌, refl, sym, subst, fun_ext}
use mathlib.Core.Logic.{◌≢◌}
use mathlib.Core.Bool.{Bool, true, false, cond}
use Prim.Native.Nat.{ℕ, ◌≤◌}
use native.Mathlib.Omega.{arith}
use lib.Dec.{eqb}
use borrow.Author.Tests.{eqb-true, eqb-false, eq-eqb}
use Rattle.views.specs.Points.{at as upd, at2 as upd2}

-- ---- a function changed at one number

-- a number is p or another: every law of `upd` and `upd2` below is this one
at-or-off : (p : ℕ) (P : ℕ → Bool → Type 0) → P p true → ((q : ℕ) → q ≢ p → P q false) → (q : ℕ) → P q (eqb q p)
at-or-off p P at off q = go (eqb q p) refl
  where
    go : (b : Bool) → eqb q p ≡ b → P q b
    go true e = subst (λ (r : ℕ). P r true) (sym (eqb-true q p e)) at
    go false e = off q (eqb-false q p e)

pub upd-ind : {A : Type 0} (p : ℕ) (x : A) (f : ℕ → A) (P : ℕ → A → Type 0) → P p x → ((q : ℕ) → q ≢ p → P q (f q)) → (q : ℕ) → P q (upd p x f q)
unfolding upd
upd-ind p x f P at off = at-or-off p (λ q d. P q (cond d x (f q))) at off

-- two functions, and three, changed at the same number
pub upd-ind2 : {A B : Type 0} (p : ℕ) (x : A) (f : ℕ → A) (y : B) (g : ℕ → B) (P : ℕ → A → B → Type 0)
    → P p x y → ((q : ℕ) → q ≢ p → P q (f q) (g q)) → (q : ℕ) → P q (upd p x f q) (upd p y g q)
unfolding upd
upd-ind2 p x f y g P at off = at-or-off p (λ q d. P q (cond d x (f q)) (cond d y (g q))) at off

pub upd-ind3 : {A B C : Type 0} (p : ℕ) (x : A) (f : ℕ → A) (y : B) (g : ℕ → B) (z : C) (h : ℕ → C) (P : ℕ → A → B → C → Type 0)
    → P p x y z → ((q : ℕ) → q ≢ p → P q (f q) (g q) (h q)) → (q : ℕ) → P q (upd p x f q) (upd p y g q) (upd p z h q)
unfolding upd
upd-ind3 p x f y g z h P at off = at-or-off p (λ q d. P q (cond d x (f q)) (cond d y (g q)) (cond d z (h q))) at off

-- one function changed at p and one at the pair p, g
pub mix-ind : {A B : Type 0} (p g : ℕ) (y : A) (l : ℕ → A) (x : B) (f : ℕ → ℕ → B) (P : ℕ → ℕ → A → B → Type 0)
    → P p g y x → ((h : ℕ) → h ≢ g → P p h y (f p h)) → ((q h : ℕ) → q ≢ p → P q h (l q) (f q h))
    → (q h : ℕ) → P q h (upd p y l q) (upd2 p g x f q h)
unfolding upd upd2
mix-ind p g y l x f P at same off q h =
    at-or-off p (λ q d. P q h (cond d y (l q)) (cond d (cond (eqb h g) x (f q h)) (f q h)))
    (at-or-off g (λ h d. P p h y (cond d x (f p h))) at same h)
    (λ q n. off q h n)
    q

-- two functions changed at the same pair
pub upd2-ind2 : {A B : Type 0} (p g : ℕ) (x : A) (f : ℕ → ℕ → A) (y : B) (k : ℕ → ℕ → B) (P : ℕ → ℕ → A → B → Type 0)
    → P p g x y → ((q h : ℕ) → ¬ ((q ≡ p) × (h ≡ g)) → P q h (f q h) (k q h)) → (q h : ℕ) → P q h (upd2 p g x f q h) (upd2 p g y k q h)
unfolding upd2
upd2-ind2 p g x f y k P at off q h =
    at-or-off p (λ q d. P q h (cond d (cond (eqb h g) x (f q h)) (f q h)) (cond d (cond (eqb h g) y (k q h)) (k q h)))
    (at-or-off g (λ h d. P p h (cond d x (f p h)) (cond d y (k p h))) at (λ h n. off p h (λ t. n t.1)) h)
    (λ q n. off q h (λ t. n t.0))
    q

pub upd2-ind : {A : Type 0} (p g : ℕ) (x : A) (f : ℕ → ℕ → A) (P : ℕ → ℕ → A → Type 0)
    → P p g x → ((q h : ℕ) → ¬ ((q ≡ p) × (h ≡ g)) → P q h (f q h)) → (q h : ℕ) → P q h (upd2 p g x f q h)
upd2-ind p g x f P at off = upd2-ind2 p g x f x f (λ q h a _. P q h a) at off

pub upd-here : {A : Type 0} (p : ℕ) (x : A) (f : ℕ → A) → upd p x f p ≡ x
upd-here p x f = upd-ind p x f (λ q c. q ≡ p → c ≡ x) (λ _. refl) (λ q n e. absurd (n e)) p refl

-- elsewhere it is what it was
pub upd_other : {A : Type 0} (p : ℕ) (x : A) (f : ℕ → A) (q : ℕ) → q ≢ p → upd p x f q ≡ f q
upd_other p x f q n = upd-ind p x f (λ r y. r ≢ p → y ≡ f r) (λ m. absurd (m refl)) (λ r _ _. refl) q n

pub upd2-here : {A : Type 0} (p g : ℕ) (x : A) (f : ℕ → ℕ → A) → upd2 p g x f p g ≡ x
unfolding upd2
upd2-here p g x f = rw (eq-eqb p p refl, eq-eqb g g refl)

pub upd2-other : {A : Type 0} (p g : ℕ) (x : A) (f : ℕ → ℕ → A) (q : ℕ) → q ≢ p → upd2 p g x f q g ≡ f q g
upd2-other p g x f q n = upd2-ind p g x f (λ r h y. r ≢ p → y ≡ f r h) (λ m. absurd (m refl)) (λ r h _ _. refl) q g n

-- of two changes at one number the last counts, and a value put where it stands changes nothing
pub upd-again : {A : Type 0} (p : ℕ) (x y : A) (f : ℕ → A) → upd p y (upd p x f) ≡ upd p y f
unfolding upd
upd-again {A} p x y f = fun_ext (λ q. go (eqb q p) (f q))
  where
    go : (b : Bool) (z : A) → cond b y (cond b x z) ≡ cond b y z
    go true z = refl
    go false z = refl

pub upd-itself : {A : Type 0} (p : ℕ) (f : ℕ → A) → upd p (f p) f ≡ f
upd-itself p f = fun_ext (upd-ind p (f p) f (λ q x. x ≡ f q) refl (λ q _. refl))

-- a number put where a lower one was: nothing falls
pub upd-up : (p x : ℕ) (f : ℕ → ℕ) → f p ≤ x → (q : ℕ) → f q ≤ upd p x f q
upd-up p x f l = upd-ind p x f (λ q c. f q ≤ c) l (λ q _. omega arith)

pub upd2-up : (p g x : ℕ) (f : ℕ → ℕ → ℕ) → f p g ≤ x → (q h : ℕ) → f q h ≤ upd2 p g x f q h
upd2-up p g x f l = upd2-ind p g x f (λ q h c. f q h ≤ c) l (λ q h _. omega arith)
