-- What the events of a run of Figure 1 say: of created views, of who registered, and of current views.
use mathlib.Core.Path.{◌≡◌, refl, sym}
use mathlib.Core.Logic.{◌⊎◌, inl, inr}
use mathlib.Core.Bool.{Bool, true, false, cond}
use mathlib.Core.List.{List, [], ◌∷◌, ◌++◌}
use Prim.Native.Nat.{ℕ, suc, ◌≤◌, ◌<◌}
use native.Mathlib.Omega.{arith}
use borrow.Author.Tests.{eqb-true, eq-eqb}
use lib.Dec.{T, eqb}
use Rattle.views.specs.declared.View.{View}
use Rattle.views.specs.Sets.{both, has}
use Rattle.views.specs.Lists.{id_of}
use Rattle.views.proofs.Members.{In, top, pop, in-nil, in_left, in_right, in-append}
use Rattle.views.proofs.PointLaws.{upd-ind, upd2-ind, upd-here, upd-up}
use Rattle.rules.specs.Data.{Event, attempt, register}
use Rattle.rules.specs.Figure1 as D
use Rattle.rules.specs.Figure1.{Outer, Act, Run}

-- ---- who registered at first: the members of the first view, in it

pub first-registered : (g i : ℕ) (b : Bool) → (g ≡ i) × T b → T (both (eqb g i) b)
first-registered g i b t = rw (eq-eqb g i t.0) t.1

pub registered-first : (g i : ℕ) (b : Bool) → T (both (eqb g i) b) → (g ≡ i) × T b
registered-first g i b = go (eqb g i) refl
  where
    go : (c : Bool) → eqb g i ≡ c → T (both c b) → (g ≡ i) × T b
    go true e t = (eqb-true g i e, t)
    go false e t = absurd t

-- ---- by the events, the first view v₀ both from the start

-- v is attempted
abbrev pub Attempted : {M : Type 0} → View → List (Event M) → View → Type 0
Attempted v₀ l v = (v ≡ v₀) ⊎ ((p : ℕ) × In (attempt p v) l)

-- p registered in g
abbrev pub Registered : {M : Type 0} → View → List (Event M) → ℕ → ℕ → Type 0
Registered v₀ l p g = ((g ≡ id_of v₀) × T (has v₀.set p)) ⊎ In (register p g) l

-- a view of the identifier g is attempted
abbrev pub Shown : {M : Type 0} → View → List (Event M) → ℕ → Type 0
Shown v₀ l g = (v : View) × (id_of v ≡ g) × Attempted v₀ l v

-- more events change nothing of this
shown-more : {M : Type 0} (v₀ : View) (l k : List (Event M)) (g : ℕ) → Shown v₀ l g → Shown v₀ (l ++ k) g
shown-more v₀ l k g x = (x.0, x.1, go x.2)
  where
    go : Attempted v₀ l x.0 → Attempted v₀ (l ++ k) x.0
    go (inl e) = inl e
    go (inr y) = inr (y.0, in_left k y.1)

registered-more : {M : Type 0} (v₀ : View) (l k : List (Event M)) (g p : ℕ) → Registered v₀ l p g → Registered v₀ (l ++ k) p g
registered-more v₀ l k g p (inl t) = inl t
registered-more v₀ l k g p (inr h) = inr (in_left k h)

pub first-current : (b : Bool) (n g : ℕ) → cond b (suc n) 0 ≡ suc g → n ≡ g
first-current true n g e = omega arith
first-current false n g e = absurd (omega arith)

module _ {M : Type 0} where
  -- ---- one step

  pub created-stays : {d e : Outer M} {k : List (Event M)} → Act d e k → (w : View) → In w d.created → In w e.created
  created-stays (D.create v m h) w i = pop i
  created-stays (D.order p g m r h) w i = i
  created-stays (D.new_view p v h t l) w i = i
  created-stays (D.registers p g h) w i = i
  created-stays (D.sends p g m h) w i = i
  created-stays (D.receives p g x h t) w i = i
  created-stays (D.safes p v x h c t u) w i = i

  -- the view of a new-view event is created, and is the member's current view after it
  pub event-step : {d e : Outer M} {k : List (Event M)} → Act d e k → (p : ℕ) (v : View) → In (attempt p v) k → In v e.created × (suc (id_of v) ≡ e.current p)
  event-step (D.create v m h) q u i = absurd (in-nil i)
  event-step (D.order p g m r h) q u i = absurd (in-nil i)
  event-step {d} (D.new_view p v h t l) q u top = (h, sym (upd-here p (suc (id_of v)) d.current))
  event-step (D.new_view p v h t l) q u (pop i) = absurd (in-nil i)
  event-step (D.registers p g h) q u (pop i) = absurd (in-nil i)
  event-step (D.sends p g m h) q u (pop i) = absurd (in-nil i)
  event-step (D.receives p g x h t) q u (pop i) = absurd (in-nil i)
  event-step (D.safes p v x h c t z) q u (pop i) = absurd (in-nil i)

  pub current-rises : {d e : Outer M} {k : List (Event M)} → Act d e k → (p : ℕ) → d.current p ≤ e.current p
  current-rises (D.create v m h) p = omega arith
  current-rises (D.order q g m r h) p = omega arith
  current-rises {d} (D.new_view q v h t l) p = upd-up q (suc (id_of v)) d.current (omega arith) p
  current-rises (D.registers q g h) p = omega arith
  current-rises (D.sends q g m h) p = omega arith
  current-rises (D.receives q g x h t) p = omega arith
  current-rises (D.safes q v x h c t z) p = omega arith

  -- a current view was current before, or the step showed it
  pub current-step : {d e : Outer M} {k : List (Event M)} → Act d e k → (p g : ℕ) → e.current p ≡ suc g
      → (d.current p ≡ suc g) ⊎ ((v : View) × (id_of v ≡ g) × In (attempt p v) k)
  current-step (D.create v m h) p g c = inl c
  current-step (D.order q i m r h) p g c = inl c
  current-step {d} (D.new_view q v h t l) p g c =
      upd-ind q (suc (id_of v)) d.current (λ r x. x ≡ suc g → (d.current r ≡ suc g) ⊎ ((u : View) × (id_of u ≡ g) × In {A = Event M} (attempt r u) (attempt q v ∷ [])))
      (λ e. inr (v, omega arith, top)) (λ r _ e. inl e) p c
  current-step (D.registers q i h) p g c = inl c
  current-step (D.sends q i m h) p g c = inl c
  current-step (D.receives q i x h t) p g c = inl c
  current-step (D.safes q v x h k t z) p g c = inl c

  -- who registered did so before, or does so now, in its current view
  registered-step : {d e : Outer M} {k : List (Event M)} → Act d e k → (g p : ℕ) → T (e.registered g p) → T (d.registered g p) ⊎ (In (register p g) k × (d.current p ≡ suc g))
  registered-step (D.create v m h) g p t = inl t
  registered-step (D.order q i m r h) g p t = inl t
  registered-step (D.new_view q v h u l) g p t = inl t
  registered-step {d} (D.registers q i h) g p t =
      upd2-ind i q true d.registered (λ g p b. T b → T (d.registered g p) ⊎ (In {A = Event M} (register p g) (register q i ∷ []) × (d.current p ≡ suc g)))
      (λ _. inr (top, h)) (λ g p _ u. inl u) g p t
  registered-step (D.sends q i m h) g p t = inl t
  registered-step (D.receives q i x h u) g p t = inl t
  registered-step (D.safes q v x h c u z) g p t = inl t

  -- ---- a whole run

  module _ (v₀ : View) where
    pub event-created : {d : Outer M} {l : List (Event M)} → Run v₀ d l → (p : ℕ) (v : View) → In (attempt p v) l → In v d.created
    event-created Run.begin p v i = absurd (in-nil i)
    event-created (Run.then {l} {k} r a) p v i =
        elim (in-append l i) [ inl h ↦ created-stays a v (event-created r p v h) | inr h ↦ (event-step a p v h).0 ]

    first-created : {d : Outer M} {l : List (Event M)} → Run v₀ d l → In v₀ d.created
    first-created Run.begin = top
    first-created (Run.then r a) = created-stays a v₀ (first-created r)

    pub attempted-created : {d : Outer M} {l : List (Event M)} → Run v₀ d l → (v : View) → Attempted v₀ l v → In v d.created
    attempted-created r v (inl e) = rw e (first-created r)
    attempted-created r v (inr x) = event-created r x.0 v x.1

    -- who attempted v has v as current view, or a later one (Invariant 3.2)
    pub event-current : {d : Outer M} {l : List (Event M)} → Run v₀ d l → (p : ℕ) (v : View) → In (attempt p v) l → id_of v < d.current p
    event-current Run.begin p v i = absurd (in-nil i)
    event-current (Run.then {l} {k} r a) p v i =
        elim (in-append l i) [ inl h ↦ omega (arith, event-current r p v h, current-rises a p) | inr h ↦ omega (arith, (event-step a p v h).1) ]

    current-shown : {d : Outer M} {l : List (Event M)} → Run v₀ d l → (p g : ℕ) → d.current p ≡ suc g → Shown v₀ l g
    current-shown Run.begin p g c = (v₀, first-current (has v₀.set p) (id_of v₀) g c, inl refl)
    current-shown (Run.then {l} {k} r a) p g c = elim (current-step a p g c) [
      | inl c' ↦ shown-more v₀ l k g (current-shown r p g c')
      | inr x ↦ (x.0, x.1, inr (p, in_right l x.2))
    ]

    -- a view in which someone registered is attempted (Invariant 3.1)
    pub registered-shown : {d : Outer M} {l : List (Event M)} → Run v₀ d l → (g p : ℕ) → T (d.registered g p) → Shown v₀ l g
    registered-shown Run.begin g p t = (v₀, sym (registered-first g (id_of v₀) (has v₀.set p) t).0, inl refl)
    registered-shown (Run.then {l} {k} r a) g p t = elim (registered-step a g p t) [
      | inl u ↦ shown-more v₀ l k g (registered-shown r g p u)
      | inr h ↦ shown-more v₀ l k g (current-shown r p g h.1)
    ]

    pub registered-event : {d : Outer M} {l : List (Event M)} → Run v₀ d l → (g p : ℕ) → T (d.registered g p) → Registered v₀ l p g
    registered-event Run.begin g p t = inl (registered-first g (id_of v₀) (has v₀.set p) t)
    registered-event (Run.then {l} {k} r a) g p t = elim (registered-step a g p t) [
      | inl u ↦ registered-more v₀ l k g p (registered-event r g p u)
      | inr h ↦ inr (in_right l h.0)
    ]
