-- The created views along a run of Figure 1: an identifier has one, and two of them share a member or have a totally registered view between them.
use mathlib.Core.Path.{◌≡◌, refl, sym, ◌∙◌}
use mathlib.Core.Logic.{◌≢◌, ◌⊎◌, inl, inr}
use mathlib.Core.Bool.{true}
use mathlib.Core.List.{List, []}
use Prim.Native.Nat.{ℕ, ◌<◌}
use native.Mathlib.Omega.{arith}
use lib.Dec.{T}
use Rattle.views.specs.declared.View.{View}
use Rattle.views.specs.Sets.{has}
use Rattle.views.specs.Lists.{id_of}
use Rattle.views.proofs.Members.{In, in-nil, in-cons}
use Rattle.views.proofs.PointLaws.{upd2-ind}
use Rattle.rules.specs.Data.{Event}
use Rattle.rules.specs.Figure1 as D
use Rattle.rules.specs.Figure1.{Outer, Total, Apart, Act, Run}
use Rattle.rules.proofs.Run.Listed.{same_id}
use Rattle.rules.proofs.Run.Events.{created-stays}

module _ {M : Type 0} where
  -- v is the lower of the two
  abbrev pub Linked : Outer M → View → View → Type 0
  Linked d v w =
      ((p : ℕ) × T (has v.set p) × T (has w.set p))
      ⊎ ((x : View) × Total d x × (id_of v < id_of x) × (id_of x < id_of w))

  registered-stays : {d e : Outer M} {k : List (Event M)} → Act d e k → (g p : ℕ) → T (d.registered g p) → T (e.registered g p)
  registered-stays (D.create v m h) g p t = t
  registered-stays (D.order q i m r h) g p t = t
  registered-stays (D.new_view q v h u l) g p t = t
  registered-stays {d} (D.registers q i h) g p t = upd2-ind i q true d.registered (λ g p b. T (d.registered g p) → T b) (λ _. tt) (λ g p _ u. u) g p t
  registered-stays (D.sends q i m h) g p t = t
  registered-stays (D.receives q i x h u) g p t = t
  registered-stays (D.safes q v x h c u z) g p t = t

  linked-stays : {d e : Outer M} {k : List (Event M)} → Act d e k → (v w : View) → Linked d v w → Linked e v w
  linked-stays a v w (inl s) = inl s
  linked-stays a v w (inr x) = inr (x.0, (created-stays a x.0 x.1.0, λ p m. registered-stays a (id_of x.0) p (x.1.1 p m)), x.2, x.3)

  -- every created view was there before, or is new: not the identifier of another, and apart from all
  abbrev New : Outer M → View → Type 0
  New d v = (w : View) → In w d.created → (id_of w ≢ id_of v) × Apart d v w

  created-step : {d e : Outer M} {k : List (Event M)} → Act d e k → (v : View) → In v e.created → In v d.created ⊎ New d v
  created-step {d} (D.create u m h) v i = elim (in-cons i) [ inl e ↦ inr (rw e h) | inr j ↦ inl j ]
  created-step (D.order q g m r h) v i = inl i
  created-step (D.new_view q u h t l) v i = inl i
  created-step (D.registers q g h) v i = inl i
  created-step (D.sends q g m h) v i = inl i
  created-step (D.receives q g x h t) v i = inl i
  created-step (D.safes q u x h c t z) v i = inl i

  -- two new ones are one
  new-one : {d e : Outer M} {k : List (Event M)} → Act d e k → (v w : View) → In v e.created → In w e.created → New d v → New d w → v ≡ w
  new-one {d} (D.create u m h) v w i j n o = go (in-cons i) (in-cons j)
    where
      go : (v ≡ u) ⊎ In v d.created → (w ≡ u) ⊎ In w d.created → v ≡ w
      go (inl e) (inl f) = e ∙ sym f
      go (inl e) (inr f) = absurd ((o w f).0 refl)
      go (inr e) _ = absurd ((n v e).0 refl)
  new-one (D.order q g m r h) v w i j n o = absurd ((n v i).0 refl)
  new-one (D.new_view q u h t l) v w i j n o = absurd ((n v i).0 refl)
  new-one (D.registers q g h) v w i j n o = absurd ((n v i).0 refl)
  new-one (D.sends q g m h) v w i j n o = absurd ((n v i).0 refl)
  new-one (D.receives q g x h t) v w i j n o = absurd ((n v i).0 refl)
  new-one (D.safes q u x h c t z) v w i j n o = absurd ((n v i).0 refl)

  above : (d : Outer M) (v w : View) → id_of v < id_of w → Apart d w v → Linked d v w
  above d v w l (inl s) = inl (s.0, s.2, s.1)
  above d v w l (inr (inl x)) = inr x
  above d v w l (inr (inr x)) = absurd (omega (arith, x.2, x.3))

  below : (d : Outer M) (v w : View) → id_of v < id_of w → Apart d v w → Linked d v w
  below d v w l (inl s) = inl s
  below d v w l (inr (inl x)) = absurd (omega (arith, x.2, x.3))
  below d v w l (inr (inr x)) = inr x

  module _ (v₀ : View) where
    pub created-one : {d : Outer M} {l : List (Event M)} → Run v₀ d l → (v w : View) → In v d.created → In w d.created → id_of v ≡ id_of w → v ≡ w
    created-one Run.begin v w i j e = only v (in-cons i) ∙ sym (only w (in-cons j))
      where
        only : (u : View) → (u ≡ v₀) ⊎ In u [] → u ≡ v₀
        only u (inl f) = f
        only u (inr h) = absurd (in-nil h)
    created-one (Run.then {d} r a) v w i j e = go (λ h k. created-one r v w h k e) (created-step a v i) (created-step a w j)
      where
        go : (In v d.created → In w d.created → v ≡ w) → In v d.created ⊎ New d v → In w d.created ⊎ New d w → v ≡ w
        go f (inl h) (inl k) = f h k
        go f (inl h) (inr n) = absurd ((n v h).0 e)
        go f (inr n) (inl k) = absurd ((n w k).0 (sym e))
        go f (inr n) (inr o) = new-one a v w i j n o

    -- the condition of create, kept: Invariant 3.3 of the report
    pub created-linked : {d : Outer M} {l : List (Event M)} → Run v₀ d l → (v w : View) → In v d.created → In w d.created → id_of v < id_of w → Linked d v w
    created-linked Run.begin v w i j l = absurd (omega (arith, only v (in-cons i), only w (in-cons j)))
      where
        only : (u : View) → (u ≡ v₀) ⊎ In u [] → id_of u ≡ id_of v₀
        only u (inl f) = same_id f
        only u (inr h) = absurd (in-nil h)
    created-linked (Run.then {d} {e} r a) v w i j l = linked-stays a v w (go (λ h k. created-linked r v w h k l) (created-step a v i) (created-step a w j))
      where
        go : (In v d.created → In w d.created → Linked d v w) → In v d.created ⊎ New d v → In w d.created ⊎ New d w → Linked d v w
        go f (inl h) (inl k) = f h k
        go f (inl h) (inr n) = above d v w l (n v h).1
        go f (inr n) (inl k) = below d v w l (n w k).1
        go f (inr n) (inr o) = absurd (omega (arith, same_id (new-one a v w i j n o)))
