-- Rising lists of views, one within another: the inner one is no longer; and a rising list with one more view behind it.
use mathlib.Core.Path.{◌≡◌, refl, ap}
use mathlib.Core.Logic.{⊎_elim}
use mathlib.Core.Bool.{true}
use mathlib.Core.List.{List, [], ◌∷◌, ◌++◌}
use Prim.Native.Nat.{ℕ, ◌+◌, ◌≤◌, ◌<◌}
use native.Mathlib.Omega.{arith}
use lib.ListN.{length}
use Rattle.views.specs.declared.View.{View}
use Rattle.views.specs.Lists.{id_of, is_rising, rises_above}
use Rattle.views.proofs.Members.{In, top, pop, in-nil, in-cons}
use Rattle.views.proofs.ListLaws.{rises-front, rises-cons, rises-all, rising-tail}

-- every view of the first list is in the second
abbrev pub Within : List View → List View → Type 0
Within k l = (w : View) → In w k → In w l

-- what is above the front is behind it
behind : (y : View) (l : List View) (w : View) → id_of y < id_of w → In w (y ∷ l) → In w l
behind y l w h i = ⊎_elim (λ (e : w ≡ y). absurd (omega (arith, ap id_of e))) (λ (j : In w l). j) (in-cons i)

pub within-shorter : (l k : List View) → is_rising l ≡ true → is_rising k ≡ true → Within k l → length k ≤ length l
unfolding is_rising
within-shorter [] [] r q h = omega arith
within-shorter [] (x ∷ k) r q h = absurd (in-nil (h x top))
within-shorter (y ∷ l) [] r q h = omega arith
within-shorter (y ∷ l) (x ∷ k) r q h =
    let later : (w : View) → In w k → id_of x < id_of w = rises-all (id_of x) k q in
    ⊎_elim
    (λ (e : x ≡ y).
    omega (arith, within-shorter l k (rising-tail y l r) (rising-tail x k q) (λ w i. behind y l w (omega (arith, ap id_of e, later w i)) (h w (pop i)))))
    (λ (j : In x l).
    let above : id_of y < id_of x = rises-all (id_of y) l r x j in
    omega (
      arith,
      within-shorter l (x ∷ k) (rising-tail y l r) q
          (λ w i. behind y l w (⊎_elim (λ (e : w ≡ x). omega (arith, ap id_of e)) (λ (n : In w k). omega (arith, later w n)) (in-cons i)) (h w i)),
    ))
    (in-cons (h x top))

-- views that rise above one, all of them in a rising list, are fewer than that list's
pub above-fewer : (l : List View) (v : View) (k : List View) → is_rising l ≡ true → rises_above (id_of v) k ≡ true → Within (v ∷ k) l → length k + 1 ≤ length l
unfolding is_rising
above-fewer l v k r q h = omega (arith, within-shorter l (v ∷ k) r q h)

rises-snoc : (g : ℕ) (l : List View) (v : View) → rises_above g l ≡ true → g < id_of v → ((w : View) → In w l → id_of w < id_of v) → rises_above g (l ++ (v ∷ [])) ≡ true
unfolding rises_above
rises-snoc g [] v r h f = rises-cons g v [] h refl
rises-snoc g (x ∷ l) v r h f = let t = rises-front g x l r in rises-cons g x (l ++ (v ∷ [])) t.0 (rises-snoc (id_of x) l v t.1 (f x top) (λ w i. f w (pop i)))

-- a view above all behind a rising list
pub rising_snoc : (l : List View) (v : View) → is_rising l ≡ true → ((w : View) → In w l → id_of w < id_of v) → is_rising (l ++ (v ∷ [])) ≡ true
unfolding is_rising rises_above
rising_snoc [] v r f = refl
rising_snoc (x ∷ l) v r f = rises-snoc (id_of x) l v r (f x top) (λ w i. f w (pop i))
