-- When the events of a run of Figure 1 happen: what a member does in a view comes before it attempts a later one, who registers in a view has attempted it,
-- and what is reported safe in a view was received there by all its members.
use mathlib.Core.Path.{◌≡◌, refl, sym, subst}
use mathlib.Core.Logic.{◌⊎◌, inl, inr}
use mathlib.Core.List.{List, [], ◌∷◌, ◌++◌}
use Prim.Native.Nat.{ℕ, suc, ◌≤◌, ◌<◌}
use native.Mathlib.Omega.{arith}
use native.Mathlib.Decide.{dec_lt}
use lib.Dec.{T}
use lib.ListN.{length}
use Rattle.views.specs.declared.View.{View}
use Rattle.views.specs.Sets.{has}
use Rattle.views.specs.Lists.{id_of}
use Rattle.views.proofs.Members.{In, top, pop, in-nil, in_left, in_right, in-append}
use Rattle.views.proofs.PointLaws.{upd-ind, upd2-ind}
use Rattle.rules.specs.Data.{Item, Event, attempt, register, hand, safe}
use Rattle.rules.specs.Group.{first_view}
use Rattle.rules.specs.Figure1 as D
use Rattle.rules.specs.Figure1.{At, Outer, Act, Run}
use Rattle.rules.proofs.Run.Events.{created-stays, attempted-created, current-rises, event-step, event-current, current-step, first-current}
use Rattle.rules.proofs.Flat.Firm.{T_true}
use Rattle.rules.proofs.Final.Views.{created-one}
use Rattle.rules.proofs.Final.Places.{at_in, at-below, at_more, at-append, at_one}

below-or-last : {n c : ℕ} → n < suc c → (n < c) ⊎ (c ≡ n)
below-or-last {n} {c} b = elim (dec_lt n c) [ yes i ↦ inl i | no i ↦ inr (omega arith) ]

module _ {M : Type 0} where
  -- what the member p does in the view g: it receives, or registers
  pub data Does (p g : ℕ) : Event M → Type 0 where
    receiving : (x : Item M) → Does p g (hand p g x)
    registering : Does p g (register p g)

  -- g is its current view before and after
  does-step : {d e : Outer M} {k : List (Event M)} → Act d e k → (p g : ℕ) (c : Event M) → Does p g c → In c k → (d.current p ≡ suc g) × (e.current p ≡ suc g)
  does-step (D.create v m h) p g c o i = absurd (in-nil i)
  does-step (D.order q j m r h) p g c o i = absurd (in-nil i)
  does-step (D.new_view q v h t l) p g c o (pop i) = absurd (in-nil i)
  does-step (D.new_view q v h t l) p g _ o top = elim o [ ]
  does-step (D.registers q j h) p g c registering top = (h, h)
  does-step (D.registers q j h) p g c o (pop i) = absurd (in-nil i)
  does-step (D.sends q j m h) p g _ o top = elim o [ ]
  does-step (D.sends q j m h) p g c o (pop i) = absurd (in-nil i)
  does-step (D.receives q j x h t) p g c (receiving y) top = (h, h)
  does-step (D.receives q j x h t) p g c o (pop i) = absurd (in-nil i)
  does-step (D.safes q v x h u t z) p g _ o top = elim o [ ]
  does-step (D.safes q v x h u t z) p g c o (pop i) = absurd (in-nil i)

  module _ (v₀ : View) where
    pub does-before : {d : Outer M} {l : List (Event M)} → Run v₀ d l → (p g : ℕ) (c : Event M) → Does p g c → (w : View) → g < id_of w
        → (n m : ℕ) → At l n c → At l m (attempt p w) → n < m
    does-before Run.begin p g c o w b n m h i = absurd (in-nil (at_in [] n c h))
    does-before (Run.then {d} {e} {l} {k} r a) p g c o w b n m h i = go (λ h i. does-before r p g c o w b n m h i) (at-append l k n c h) (at-append l k m (attempt p w) i)
      where
        go : (At l n c → At l m (attempt p w) → n < m) → At l n c ⊎ ((length l ≤ n) × In c k) → At l m (attempt p w) ⊎ ((length l ≤ m) × In (attempt p w) k) → n < m
        go f (inl h) (inl i) = f h i
        go f (inl h) (inr i) = omega (arith, at-below l n c h, i.0)
        go f (inr h) (inl i) = absurd (omega (arith, event-current v₀ r p w (at_in l m (attempt p w) i), (does-step a p g c o h.1).0))
        go f (inr h) (inr i) = absurd (omega (arith, (event-step a p w i.1).1, (does-step a p g c o h.1).1))

    -- p attempted the view g, or it is the first
    abbrev pub Entered : List (Event M) → ℕ → ℕ → Type 0
    Entered l p g = (g ≡ id_of v₀) ⊎ ((v : View) × (id_of v ≡ g) × In (attempt p v) l)

    pub entered-more : (l k : List (Event M)) (p g : ℕ) → Entered l p g → Entered (l ++ k) p g
    entered-more l k p g (inl e) = inl e
    entered-more l k p g (inr x) = inr (x.0, x.1, in_left k x.2)

    pub current-entered : {d : Outer M} {l : List (Event M)} → Run v₀ d l → (p g : ℕ) → d.current p ≡ suc g → Entered l p g
    current-entered Run.begin p g c = inl (sym (first-current (has v₀.set p) (id_of v₀) g c))
    current-entered (Run.then {l} {k} r a) p g c = elim (current-step a p g c) [
      | inl b ↦ entered-more l k p g (current-entered r p g b)
      | inr x ↦ inr (x.0, x.1, in_right l x.2)
    ]

    pub registered-entered : {d : Outer M} {l : List (Event M)} → Run v₀ d l → (p g : ℕ) → In (register p g) l → Entered l p g
    registered-entered Run.begin p g i = absurd (in-nil i)
    registered-entered (Run.then {l} {k} r a) p g i = elim (in-append l i) [
      | inl h ↦ entered-more l k p g (registered-entered r p g h)
      | inr h ↦ entered-more l k p g (current-entered r p g (does-step a p g (register p g) registering h).0)
    ]

    -- who is in the first view has a current view from the start on
    first-current-on : {d : Outer M} {l : List (Event M)} → Run v₀ d l → (p : ℕ) → T (has v₀.set p) → 0 < d.current p
    first-current-on Run.begin p t = rw (T_true (has v₀.set p) t) (omega arith)
    first-current-on (Run.then r a) p t = omega (arith, first-current-on r p t, current-rises a p)

    -- ---- what was received

    -- what is at place k of the queue was handed to p
    abbrev Handed : List (Event M) → List (Item M) → ℕ → ℕ → ℕ → Type 0
    Handed l queue p g k = (x : Item M) × At queue k x × In (hand p g x) l

    handed-more : (l k : List (Event M)) (q r : List (Item M)) (p g n : ℕ) → Handed l q p g n → Handed (l ++ k) (q ++ r) p g n
    handed-more l k q r p g n x = (x.0, at_more q r n x.0 x.1, in_left k x.2)

    handed-event : (l k : List (Event M)) (q : List (Item M)) (p g n : ℕ) → Handed l q p g n → Handed (l ++ k) q p g n
    handed-event l k q p g n x = (x.0, x.1, in_left k x.2)

    handed-step : {d e : Outer M} (l : List (Event M)) {k : List (Event M)} → Act d e k → ((p g n : ℕ) → n < d.received p g → Handed l (d.queue g) p g n)
        → (p g n : ℕ) → n < e.received p g → Handed (l ++ k) (e.queue g) p g n
    handed-step l (D.create v m h) f p g n b = handed-event l _ _ p g n (f p g n b)
    handed-step {d} l (D.order q j m r h) f p g n b =
        upd-ind j _ d.queue (λ g z. n < d.received p g → Handed (l ++ []) z p g n)
        (λ b. handed-more l [] (d.queue j) _ p j n (f p j n b)) (λ g _ b. handed-event l [] (d.queue g) p g n (f p g n b)) g b
    handed-step l (D.new_view q v h t u) f p g n b = handed-event l _ _ p g n (f p g n b)
    handed-step l (D.registers q j h) f p g n b = handed-event l _ _ p g n (f p g n b)
    handed-step l (D.sends q j m h) f p g n b = handed-event l _ _ p g n (f p g n b)
    handed-step {d} l (D.receives q j x h t) f p g n b =
        upd2-ind q j _ d.received (λ p g z. n < z → Handed (l ++ (hand q j x ∷ [])) (d.queue g) p g n)
        (λ b. new (below-or-last b)) (λ p g _ b. handed-event l _ _ p g n (f p g n b)) p g b
      where
        new : (n < d.received q j) ⊎ (d.received q j ≡ n) → Handed (l ++ (hand q j x ∷ [])) (d.queue j) q j n
        new (inl c) = handed-event l _ _ q j n (f q j n c)
        new (inr e) = (x, subst (λ (c : ℕ). At (d.queue j) c x) e t, in_right l top)
    handed-step l (D.safes q v x h c t z) f p g n b = handed-event l _ _ p g n (f p g n b)

    received-handed : {d : Outer M} {l : List (Event M)} → Run v₀ d l → (p g n : ℕ) → n < d.received p g → Handed l (d.queue g) p g n
    received-handed Run.begin p g n b = absurd (omega arith)
    received-handed (Run.then {l} r a) p g n b = handed-step l a (λ p g n b. received-handed r p g n b) p g n b

    -- all members of the view of the identifier g received x there
    abbrev pub ReceivedByAll : Outer M → List (Event M) → ℕ → Item M → Type 0
    ReceivedByAll d l g x = (v : View) × In v d.created × (id_of v ≡ g) × ((q : ℕ) → T (has v.set q) → In (hand q g x) l)

    safe-step : {d e : Outer M} {l k : List (Event M)} → Run v₀ d l → Act d e k → (p g : ℕ) (x : Item M) → In (safe p g x) k → ReceivedByAll d l g x
    safe-step r (D.create v m h) p g x i = absurd (in-nil i)
    safe-step r (D.order q j m t h) p g x i = absurd (in-nil i)
    safe-step r (D.new_view q v h t u) p g x (pop i) = absurd (in-nil i)
    safe-step r (D.registers q j h) p g x (pop i) = absurd (in-nil i)
    safe-step r (D.sends q j m h) p g x (pop i) = absurd (in-nil i)
    safe-step r (D.receives q j y h t) p g x (pop i) = absurd (in-nil i)
    safe-step {d} {l} r (D.safes q v y h c t z) p g x top = (v, c, refl, λ o m. there o (received-handed r o (id_of v) (d.safely q (id_of v)) (z o m)))
      where
        there : (o : ℕ) → Handed l (d.queue (id_of v)) o (id_of v) (d.safely q (id_of v)) → In (hand o (id_of v) y) l
        there o s = subst (λ (x : Item M). In (hand o (id_of v) x) l) (at_one (d.queue (id_of v)) (d.safely q (id_of v)) s.0 y s.1 t) s.2
    safe-step r (D.safes q v y h c t z) p g x (pop i) = absurd (in-nil i)

    pub safe-received : {d : Outer M} {l : List (Event M)} → Run v₀ d l → (p g : ℕ) (x : Item M) → In (safe p g x) l → ReceivedByAll d l g x
    safe-received Run.begin p g x i = absurd (in-nil i)
    safe-received (Run.then {d} {e} {l} {k} r a) p g x i = more (elim (in-append l i) [ inl h ↦ safe-received r p g x h | inr h ↦ safe-step r a p g x h ])
      where
        more : ReceivedByAll d l g x → ReceivedByAll e (l ++ k) g x
        more y = (y.0, created-stays a y.0 y.1, y.2, λ q m. in_left k (y.3 q m))

module _ {M : Type 0} (S : ℕ) where
  above_step : {d e : Outer M} {l k : List (Event M)} → Run (first_view S) d l → Act d e k → (p : ℕ) (v : View) → In (attempt p v) k → 0 < id_of v
  above_step r (D.create v m h) p u i = absurd (in-nil i)
  above_step r (D.order q g m t h) p u i = absurd (in-nil i)
  above_step r (D.new_view q v h t b) p u top = elim (dec_lt 0 (id_of v)) [
    | yes i ↦ i
    | no n ↦
        let e : id_of v ≡ 0 = omega arith in
        let s : v ≡ first_view S = created-one (first_view S) r v (first_view S) h (attempted-created (first_view S) r (first_view S) (inl refl)) e in
        absurd (omega (arith, first-current-on (first_view S) r q (subst (λ (w : View). T (has w.set q)) s t)))
  ]
  above_step r (D.new_view q v h t b) p u (pop i) = absurd (in-nil i)
  above_step r (D.registers q g h) p u (pop i) = absurd (in-nil i)
  above_step r (D.sends q g m h) p u (pop i) = absurd (in-nil i)
  above_step r (D.receives q g x h t) p u (pop i) = absurd (in-nil i)
  above_step r (D.safes q v x h c t z) p u (pop i) = absurd (in-nil i)

  -- the first view is attempted by nobody
  pub attempt-above : {d : Outer M} {l : List (Event M)} → Run (first_view S) d l → (p : ℕ) (v : View) → In (attempt p v) l → 0 < id_of v
  attempt-above Run.begin p v i = absurd (in-nil i)
  attempt-above (Run.then {l} r a) p v i = elim (in-append l i) [ inl h ↦ attempt-above r p v h | inr h ↦ above_step r a p v h ]
