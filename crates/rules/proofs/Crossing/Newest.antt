-- The views of a rising list that a test picks, newest first.
use mathlib.Core.Path.{◌≡◌, refl}
use mathlib.Core.Logic.{inl, inr}
use mathlib.Core.Bool.{Bool, true, false, cond}
use mathlib.Core.List.{List, [], ◌∷◌, ◌++◌, append-nil}
use Prim.Native.Nat.{ℕ, ◌<◌}
use native.Mathlib.Omega.{arith}
use lib.Dec.{ltb}
use borrow.Author.Tests.{ltb-true}
use Rattle.views.specs.declared.View.{View}
use Rattle.views.specs.Lists.{id_of, rises_above, is_rising}
use Rattle.views.proofs.Members.{In, top, pop, in-nil, in-cons, in_left, in_right, in-append}
use Rattle.views.proofs.SetLaws.{both_true}
use Rattle.rules.specs.Crossing.{newest_first, Falls}

module _ (f : View → Bool) where
  pub newest-has : (v : View) (l : List View) → In v l → f v ≡ true → In v (newest_first f l)
  unfolding newest_first
  newest-has v [] h e = absurd (in-nil h)
  newest-has v (w ∷ l) top e = rw e (in_right (newest_first f l) top)
  newest-has v (w ∷ l) (pop h) e = in_left _ (newest-has v l h e)

  picked : (v w : View) (t : Bool) → f w ≡ t → In v (cond t (w ∷ []) []) → (v ≡ w) × (f w ≡ true)
  picked v w true e h = elim (in-cons h) [ inl k ↦ (k, e) | inr k ↦ absurd (in-nil k) ]
  picked v w false e h = absurd (in-nil h)

  pub newest-only : (v : View) (l : List View) → In v (newest_first f l) → In v l × (f v ≡ true)
  unfolding newest_first
  newest-only v [] h = absurd (in-nil h)
  newest-only v (w ∷ l) h = elim (in-append (newest_first f l) h) [
    | inl k ↦ let r = newest-only v l k in (pop r.0, r.1)
    | inr k ↦ let r = picked v w (f w) refl k in (rw r.0 top, rw r.0 r.1)
  ]

falls-snoc : (l : List View) (v : View) → Falls l → ((w : View) → In w l → id_of v < id_of w) → Falls (l ++ (v ∷ []))
falls-snoc [] v h k = Falls.down (λ w i. absurd (in-nil i)) Falls.empty
falls-snoc (u ∷ l) v (Falls.down a h) k =
    Falls.down {v = u} (λ w i. elim (in-append l {m = v ∷ []} i) [ inl j ↦ a w j | inr j ↦ elim (in-cons j) [ inl e ↦ rw e (k u top) | inr e ↦ absurd (in-nil e) ] ])
    (falls-snoc l v h (λ w i. k w (pop i)))

above-all : (g : ℕ) (l : List View) → rises_above g l ≡ true → (w : View) → In w l → g < id_of w
unfolding rises_above
above-all g (v ∷ l) h w i =
    let t = both_true (ltb g (id_of v)) (rises_above (id_of v) l) h in
    elim (in-cons i) [ inl e ↦ rw e (ltb-true g (id_of v) t.0) | inr j ↦ omega (arith, ltb-true g (id_of v) t.0, above-all (id_of v) l t.1 w j) ]
above-all g [] h w i = absurd (in-nil i)

rises-tail : (v : View) (l : List View) → rises_above (id_of v) l ≡ true → is_rising l ≡ true
unfolding rises_above is_rising
rises-tail v [] h = refl
rises-tail v (w ∷ l) h = (both_true (ltb (id_of v) (id_of w)) (rises_above (id_of w) l) h).1

module _ (f : View → Bool) where
  newest-next : (v : View) (l : List View) → rises_above (id_of v) l ≡ true → (t : Bool) → Falls (newest_first f l) → Falls (newest_first f l ++ cond t (v ∷ []) [])
  newest-next v l h true r = falls-snoc (newest_first f l) v r (λ w i. above-all (id_of v) l h w (newest-only f w l i).0)
  newest-next v l h false r = rw (append-nil (newest_first f l)) r

  pub newest-falls : (l : List View) → is_rising l ≡ true → Falls (newest_first f l)
  unfolding newest_first is_rising
  newest-falls [] h = Falls.empty
  newest-falls (v ∷ l) h = newest-next v l h (f v) (newest-falls l (rises-tail v l h))
