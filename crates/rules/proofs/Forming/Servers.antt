-- The servers of a view as a list: those the set has, each once, as many as the set counts. So many steps form a view.
use mathlib.Core.Path.{◌≡◌, refl, sym, ◌∙◌, subst, ap}
use mathlib.Core.Logic.{◌⊎◌, inl, inr, ⊎_elim}
use mathlib.Core.Bool.{Bool, true, false, true≢false, cond}
use mathlib.Core.List.{List, [], ◌∷◌}
use Prim.Native.Nat.{ℕ, zero, suc, ◌+◌, ◌*◌, ◌≤◌, ◌<◌}
use native.Mathlib.Omega.{arith}
use native.Mathlib.Decide.{ℕ_discrete}
use lib.ListN.{length, replicate, length-append, length-replicate}
use Rattle.views.specs.declared.View.{View}
use Rattle.views.specs.Limits.{max_members}
use Rattle.views.specs.Sets.{has, weigh, one, size}
use Rattle.views.proofs.Members.{In, top, pop, in-nil, in-cons}
use Rattle.rules.specs.Data.{Member, Step}
use Rattle.rules.specs.Forming.{servers_from, servers_of, by_each, exchange_steps, round_steps, form_steps, form_count}

-- ---- who is in the list

-- the list with p before it, if the set has p
abbrev front : Bool → Member → List Member → List Member
front b p l = cond b (p ∷ l) l

front-in : (b : Bool) (p q : Member) (l : List Member) → In q (front b p l) → ((q ≡ p) × (b ≡ true)) ⊎ In q l
front-in true p q l i = ⊎_elim (λ (e : q ≡ p). inl (e, refl)) (λ (j : In q l). inr j) (in-cons i)
front-in false p q l i = inr i

front-old : (b : Bool) (p q : Member) (l : List Member) → In q l → In q (front b p l)
front-old true p q l i = pop i
front-old false p q l i = i

front-new : (b : Bool) (p : Member) (l : List Member) → b ≡ true → In p (front b p l)
front-new true p l e = top
front-new false p l e = absurd (true≢false (sym e))

from-say : (S k p q : ℕ) → In q (servers_from S k p) → (has S q ≡ true) × (p ≤ q) × (q < p + k)
unfolding servers_from
from-say S zero p q i = absurd (in-nil i)
from-say S (suc k) p q i = go (from-say S k (suc p) q) (front-in (has S p) p q (servers_from S k (suc p)) i)
  where
    go : (In q (servers_from S k (suc p)) → (has S q ≡ true) × (suc p ≤ q) × (q < suc p + k)) → ((q ≡ p) × (has S p ≡ true)) ⊎ In q (servers_from S k (suc p))
        → (has S q ≡ true) × (p ≤ q) × (q < p + suc k)
    go f (inl (e, h)) = (ap (has S) e ∙ h, omega arith, omega arith)
    go f (inr j) = let r = f j in (r.0, omega arith, omega arith)

from_in : (S k p q : ℕ) → has S q ≡ true → p ≤ q → q < p + k → In q (servers_from S k p)
unfolding servers_from
from_in S zero p q e l h = absurd (omega arith)
from_in S (suc k) p q e l h =
    let rest = servers_from S k (suc p) in
    elim (ℕ_discrete q p) [
      | yes f ↦ subst (λ (x : Member). In x (front (has S p) p rest)) (sym f) (front-new (has S p) p rest (ap (has S) (sym f) ∙ e))
      | no f ↦ front-old (has S p) p q rest (from_in S k (suc p) q e (omega arith) (omega arith))
    ]

pub servers-say : (v : View) (p : Member) → In p (servers_of v) → (has v.set p ≡ true) × (p < max_members)
servers-say v p i = let r = from-say v.set _ 0 p i in (r.0, omega arith)

pub servers-in : (v : View) (p : Member) → has v.set p ≡ true → p < max_members → In p (servers_of v)
servers-in v p e l = from_in v.set _ 0 p e (omega arith) (omega arith)

-- ---- none twice

abbrev pub Distinct : List Member → Type 0
Distinct [] = Unit {0}
Distinct (p ∷ l) = (In p l → ⊥) × Distinct l

front-distinct : (b : Bool) (p : Member) (l : List Member) → (In p l → ⊥) → Distinct l → Distinct (front b p l)
front-distinct true p l n d = (n, d)
front-distinct false p l n d = d

from-distinct : (S k p : ℕ) → Distinct (servers_from S k p)
unfolding servers_from
from-distinct S zero p = tt
from-distinct S (suc k) p =
    front-distinct (has S p) p (servers_from S k (suc p)) (λ i. let r = from-say S k (suc p) p i in omega arith) (from-distinct S k (suc p))

pub servers-distinct : (v : View) → Distinct (servers_of v)
servers-distinct v = from-distinct v.set _ 0

-- ---- how many

front_length : (b : Bool) (p : Member) (l : List Member) → length (front b p l) ≡ length l + cond b 1 0
front_length true p l = omega arith
front_length false p l = omega arith

from-count : (S k p : ℕ) → length (servers_from S k p) + weigh one (has S) p ≡ weigh one (has S) (p + k)
unfolding servers_from weigh
from-count S zero p = let e : p + 0 ≡ p = omega arith in rw e (omega arith)
from-count S (suc k) p =
    let e : p + suc k ≡ suc p + k = omega arith in
    rw e (omega (arith, front_length (has S p) p (servers_from S k (suc p)), from-count S k (suc p)))

pub servers-count : (v : View) → length (servers_of v) ≡ size v.set
unfolding weigh
servers-count v = omega (arith, from-count v.set max_members 0)

from-few : (S k p : ℕ) → length (servers_from S k p) ≤ k
unfolding servers_from
from-few S zero p = omega arith
from-few S (suc k) p = go (has S p) (servers_from S k (suc p)) (from-few S k (suc p))
  where
    go : (b : Bool) (l : List Member) → length l ≤ k → length (front b p l) ≤ suc k
    go true l h = omega arith
    go false l h = omega arith

pub servers-few : (v : View) → length (servers_of v) ≤ max_members
servers-few v = from-few v.set _ 0

-- ---- how many steps

pub each-count : (kind k g : ℕ) (l : List Member) → length (by_each kind k g l) ≡ length l * k
unfolding by_each
each-count kind k g [] = omega arith
each-count kind k g (p ∷ l) =
    let c : Step = record { kind = kind; first = p; second = g } in
    rw (length-append (replicate k c) (by_each kind k g l), length-replicate k c, each-count kind k g l) (omega arith)

pub round-count : (first last g : ℕ) (l : List Member) → length (round_steps first last g l) ≡ length l * length l + 4 * length l
unfolding round_steps exchange_steps
round-count first last g l = simp (length-append, each-count) (omega arith)

pub form-count : (v : View) → length (form_steps v) ≡ form_count (size v.set)
unfolding form_steps
form-count v = rw (← servers-count v) (simp (length-append, round-count) (omega arith))
