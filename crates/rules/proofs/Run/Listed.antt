-- The list of views along a run: it is only added to, each view above those before it, and every listed set has a member and is of members below the size.
-- The list as it stands at the end of a run says which view each identifier names, for the whole run.
use mathlib.Core.Path.{◌≡◌, refl, sym, ◌∙◌, subst, ap}
use mathlib.Core.Logic.{◌≢◌, ◌⊎◌, inl, inr}
use mathlib.Core.List.{List, [], ◌∷◌, ◌++◌}
use Prim.Native.Nat.{ℕ, ◌<◌}
use native.Mathlib.Omega.{arith}
use native.Mathlib.Decide.{ℕ_discrete}
use lib.Dec.{T}
use Rattle.views.specs.declared.View.{View}
use Rattle.views.specs.Sets.{has}
use Rattle.views.specs.Lists.{id_of}
use Rattle.views.proofs.Members.{In, top, pop, in-nil, in-cons, in_left}
use Rattle.rules.specs.Data.{Event}
use Rattle.rules.specs.Group.{first_view}
use Rattle.rules.proofs.Flat as F
use Rattle.rules.proofs.Flat.{Flat, Move, Steps}
use Rattle.rules.proofs.Flat.Queues.{in-snoc}

-- equal views have equal identifiers
pub same_id : {u v : View} → u ≡ v → id_of u ≡ id_of v
same_id e = λ i. id_of (e i)

-- ---- one step

-- the list l is k, or k with one view more
abbrev pub Added : ℕ → List View → List View → Type 0
Added size k l =
    (l ≡ k)
    ⊎ ((v : View) × (l ≡ k ++ (v ∷ [])) × ((w : View) → In w k → id_of w < id_of v) × ((p : ℕ) × T (has v.set p)) × ((p : ℕ) → T (has v.set p) → p < size))

pub added : {M : Type 0} {size : ℕ} {weight : ℕ → ℕ} {s t : Flat M} {k : List (Event M)} → Move size weight s t k → Added size s.views t.views
added (F.create v up some below) = inr (v, refl, up, some, below)
added (F.join p v h m l) = inl refl
added (F.pass p g m r c h) = inl refl
added (F.order p g m r h) = inl refl
added (F.take_info p g q x ws os c h k) = inl refl
added (F.take_registered p g q c h) = inl refl
added (F.take_told p g q n c h) = inl refl
added (F.take_inward p g q m c l h) = inl refl
added (F.take_arrived p g q m c l h) = inl refl
added (F.attempts p v os c h l is ts k o) = inl refl
added (F.registers p v l c) = inl refl
added (F.registers_old p v l c) = inl refl
added (F.sends p v m l c) = inl refl
added (F.sends_old p v m l c) = inl refl
added (F.hands p v e r l h) = inl refl
added (F.tells p v l c) = inl refl
added (F.safes p v e l c hv h ts) = inl refl
added (F.collects p v os c h l rs k) = inl refl

-- nothing leaves the list
pub stays : {size : ℕ} (k l : List View) → Added size k l → (v : View) → In v k → In v l
stays k l (inl e) v h = rw e h
stays k l (inr x) v h = rw x.1 (in_left (x.0 ∷ []) h)

-- ---- all steps

-- no identifier is listed twice, and the first view of the set S is listed
pub record Listed (size S : ℕ) (l : List View) : Type 0 where
  pub one : (v w : View) → In v l → In w l → id_of v ≡ id_of w → v ≡ w
  pub below : (v : View) → In v l → (p : ℕ) → T (has v.set p) → p < size
  pub some_one : (v : View) → In v l → (p : ℕ) × T (has v.set p)
  pub first : In (first_view S) l

module _ (size S : ℕ) where
  listed_more : (k : List View) (v : View) → Listed size S k → ((w : View) → In w k → id_of w < id_of v) → ((p : ℕ) × T (has v.set p))
      → ((p : ℕ) → T (has v.set p) → p < size) → Listed size S (k ++ (v ∷ []))
  listed_more k v r up some be = record {
    one = λ u w h i. one' u w (in-snoc k v h) (in-snoc k v i);
    below = λ u h. below' u (in-snoc k v h);
    some_one = λ u h. some-one' u (in-snoc k v h);
    first = in_left (v ∷ []) r.first;
  }
    where
      one' : (u w : View) → In u k ⊎ (u ≡ v) → In w k ⊎ (w ≡ v) → id_of u ≡ id_of w → u ≡ w
      one' u w (inl h) (inl i) e = r.one u w h i e
      one' u w (inl h) (inr i) e = absurd (omega (arith, up u h, same_id i))
      one' u w (inr h) (inl i) e = absurd (omega (arith, up w i, same_id h))
      one' u w (inr h) (inr i) e = h ∙ sym i

      below' : (u : View) → In u k ⊎ (u ≡ v) → (p : ℕ) → T (has u.set p) → p < size
      below' u (inl h) p t = r.below u h p t
      below' u (inr e) p t = be p (rw e at t)

      some-one' : (u : View) → In u k ⊎ (u ≡ v) → (p : ℕ) × T (has u.set p)
      some-one' u (inl h) = r.some_one u h
      some-one' u (inr e) = rw e some

  listed-step : (k l : List View) → Added size k l → Listed size S k → Listed size S l
  listed-step k l (inl e) r = rw e r
  listed-step k l (inr x) r = rw x.1 (listed_more k x.0 r x.2 x.3 x.4)

  module _ (low : (p : ℕ) → T (has S p) → p < size) (some : (p : ℕ) × T (has S p)) where
    pub listed : {M : Type 0} {weight : ℕ → ℕ} {s : Flat M} {es : List (Event M)} → Steps size weight (first_view S) s es → Listed size S s.views
    listed Steps.begin = record {
      one = λ u w h i _. only u h ∙ sym (only w i);
      below = λ u h p t. low p (rw (only u h) at t);
      some_one = λ u h. rw (only u h) some;
      first = top;
    }
      where
        only : (u : View) → In u (first_view S ∷ []) → u ≡ first_view S
        only u h = elim (in-cons h) [ inl e ↦ e | inr k ↦ absurd (in-nil k) ]
    listed (Steps.then {s} {t} r m) = listed-step s.views t.views (added m) (listed r)

-- ---- which view an identifier names

pub record Naming (size : ℕ) : Type 0 where
  pub view_of : ℕ → View
  pub below : (g p : ℕ) → T (has (view_of g).set p) → p < size
  pub some_one : (g : ℕ) → (p : ℕ) × T (has (view_of g).set p)

-- the views of the list are named so
abbrev pub Agrees : {size : ℕ} → Naming size → List View → Type 0
Agrees n l = (v : View) → In v l → v ≡ n.view_of (id_of v)

module _ {size : ℕ} (n : Naming size) {l : List View} (ag : Agrees n l) where
  pub to_named : (v : View) (p : ℕ) → In v l → T (has v.set p) → T (has (n.view_of (id_of v)).set p)
  to_named v p h t = subst (λ (u : View). T (has u.set p)) (ag v h) t

  pub from_named : (v : View) (p : ℕ) → In v l → T (has (n.view_of (id_of v)).set p) → T (has v.set p)
  from_named v p h t = subst (λ (u : View). T (has u.set p)) (sym (ag v h)) t

  pub same_view : (u v : View) → In u l → In v l → id_of u ≡ id_of v → u ≡ v
  same_view u v h k e = ag u h ∙ ap n.view_of e ∙ sym (ag v k)

-- the listed view of an identifier, or none
pub find : (l : List View) (g : ℕ) → Dec ((v : View) × In v l × (id_of v ≡ g))
find [] g = no (λ x. in-nil x.1)
find (u ∷ l) g = go (ℕ_discrete (id_of u) g) (find l g)
  where
    behind : id_of u ≢ g → (v : View) → id_of v ≡ g → (v ≡ u) ⊎ In v l → In v l
    behind n v e (inl k) = absurd (n (sym (same_id k) ∙ e))
    behind n v e (inr h) = h

    go : Dec (id_of u ≡ g) → Dec ((v : View) × In v l × (id_of v ≡ g)) → Dec ((v : View) × In v (u ∷ l) × (id_of v ≡ g))
    go (yes e) _ = yes (u, top, e)
    go (no n) (yes x) = yes (x.0, pop x.1, x.2)
    go (no n) (no x) = no (λ y. x (y.0, behind n y.0 y.2 (in-cons y.1), y.2))

-- an identifier that is not listed names the first view
module _ (size S : ℕ) (l : List View) (r : Listed size S l) where
  named : (g : ℕ) → Dec ((v : View) × In v l × (id_of v ≡ g)) → (v : View) × In v l
  named g (yes x) = (x.0, x.1)
  named g (no _) = (first_view S, r.first)

  pub naming : Naming size
  naming = record {
    view_of = λ g. (named g (find l g)).0;
    below = λ g. let x = named g (find l g) in r.below x.0 x.1;
    some_one = λ g. let x = named g (find l g) in r.some_one x.0 x.1;
  }

  pub naming-agrees : Agrees naming l
  unfolding naming named
  naming-agrees v h = go (find l (id_of v))
    where
      go : (x : Dec ((w : View) × In w l × (id_of w ≡ id_of v))) → v ≡ (named (id_of v) x).0
      go (yes x) = r.one v x.0 h x.1 (sym x.2)
      go (no n) = absurd (n (v, h, refl))
