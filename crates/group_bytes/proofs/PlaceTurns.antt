-- The place of a view in a list that rises, sought from behind.
use mathlib.Core.Path.{◌≡◌, refl, sym, ap, ◌∙◌}
use mathlib.Core.Logic.{⊎_elim}
use mathlib.Core.Bool.{true, false}
use mathlib.Core.List.{List, [], ◌∷◌}
use Prim.Native.Nat.{ℕ, zero, suc, ◌+◌, ◌*◌, ◌<◌, ◌≤◌}
use native.Mathlib.Omega.{arith}
use borrow.Author.Tests.{ltb-true, ltb-false, eqb-true, eqb-false, eq-eqb, ne_eqb}
use lib.Dec.{eqb, ltb}
use lib.ListN.{length, get_or}
use Rattle.numbers.specs.Number.{get}
use Rattle.views.specs.declared.View.{View}
use Rattle.views.specs.Lists.{id_of, is_rising, rises_above, no_view}
use Rattle.views.proofs.SetLaws.{known}
use Rattle.views.proofs.Members.{In, top, pop}
use Rattle.views.proofs.ListLaws.{rises-front, rises-all, rising-tail}
use Rattle.wire.specs.Reader.{views_in}
use Rattle.wire.proofs.ReaderLaws.{length-views_in, views-at}
use Rattle.group_bytes.specs.Groups.{place_of}
use Rattle.group_bytes.proofs.PlaceLaws.{place-id, place-most}

pub in-at : (l : List View) (i : ℕ) → i < length l → In (get_or l i no_view) l
in-at [] i h = absurd (omega arith)
in-at (v ∷ l) zero h = top
in-at (v ∷ l) (suc i) h = pop (in-at l i (omega arith))

-- in a rising list the view at i has the place i
pub place_at : (l : List View) → is_rising l ≡ true → (i : ℕ) → i < length l → place_of (id_of (get_or l i no_view)) l ≡ i
unfolding place_of is_rising
place_at [] r i h = absurd (omega arith)
place_at (v ∷ l) r zero h = rw (eq-eqb (id_of v) (id_of v) refl)
place_at (v ∷ l) r (suc i) h =
    let w = get_or l i no_view in
    let above : id_of v < id_of w = rises-all (id_of v) l r w (in-at l i (omega arith)) in
    let e : eqb (id_of v) (id_of w) ≡ false = ne_eqb _ _ (λ (k : id_of v ≡ id_of w). omega arith) in
    rw e (ap suc (place_at l (rising-tail v l r) i (omega arith)))

-- and an identifier of i or more
above_place : (g : ℕ) (l : List View) → rises_above g l ≡ true → (i : ℕ) → i < length l → g + i < id_of (get_or l i no_view)
above_place g [] r i h = absurd (omega arith)
above_place g (v ∷ l) r zero h = omega (arith, (rises-front g v l r).0)
above_place g (v ∷ l) r (suc i) h =
    let f = rises-front g v l r in
    omega (arith, f.0, above_place (id_of v) l f.1 i (omega arith))

place-low : (l : List View) → is_rising l ≡ true → (i : ℕ) → i < length l → i ≤ id_of (get_or l i no_view)
unfolding is_rising
place-low [] r i h = absurd (omega arith)
place-low (v ∷ l) r zero h = omega arith
place-low (v ∷ l) r (suc i) h = omega (arith, above_place (id_of v) l r i (omega arith))

-- ---- the list in bytes

-- the identifier at a place of the list, which begins at 0
id-at : (b : List ℕ) (n i : ℕ) → i < n → id_of (get_or (views_in b 0 n) i no_view) ≡ get b (5 * i) 4
id-at b n i h = let e : 0 + 5 * i ≡ 5 * i = omega arith in ap id_of (views-at b 0 n i h) ∙ ap (λ (z : ℕ). get b z 4) e

-- none of the n views from place i on has the identifier g
abbrev pub NoneFrom : List ℕ → ℕ → ℕ → ℕ → Type 0
NoneFrom b g n i = (k : ℕ) → i ≤ k → k < n → get b (5 * k) 4 ≡ g → ⊥

-- one place before them has it neither
pub none_more : (b : List ℕ) (g n i j : ℕ) → i ≡ suc j → NoneFrom b g n i → (get b (5 * j) 4 ≡ g → ⊥) → NoneFrom b g n j
none_more b g n i j e f h = λ k l m s.
    ⊎_elim (λ (t : eqb k j ≡ true). h (ap (λ (z : ℕ). get b (5 * z) 4) (sym (eqb-true k j t)) ∙ s))
    (λ (t : eqb k j ≡ false). f k (omega (arith, eqb-false k j t)) m s)
    (known (eqb k j))

module _ (b : List ℕ) (n : ℕ) (r : is_rising (views_in b 0 n) ≡ true) where
  long : length (views_in b 0 n) ≡ n
  long = length-views_in b 0 n

  -- those past place g have higher ones
  pub none-past : (g i : ℕ) → g < i → NoneFrom b g n i
  none-past g i h = λ k l m s. omega (arith, place-low (views_in b 0 n) r k (omega (arith, long)), id-at b n k m)

  pub place-found-at : (g i : ℕ) → i < n → get b (5 * i) 4 ≡ g → i ≡ place_of g (views_in b 0 n)
  place-found-at g i h e =
      sym (place_at (views_in b 0 n) r i (omega (arith, long))) ∙ ap (λ (x : ℕ). place_of x (views_in b 0 n)) (id-at b n i h ∙ e)

pub place-of-none : (b : List ℕ) (n g i : ℕ) → i ≡ 0 → NoneFrom b g n i → n ≡ place_of g (views_in b 0 n)
place-of-none b n g i z f =
    let l = views_in b 0 n in
    let p = place_of g l in
    let long : length l ≡ n = length-views_in b 0 n in
    let most : p ≤ length l = place-most g l in
    ⊎_elim
    (λ (t : ltb p n ≡ true).
    let h : p < n = ltb-true p n t in
    absurd (f p (omega arith) h (sym (id-at b n p h) ∙ place-id g l (omega (arith, long)))))
    (λ (t : ltb p n ≡ false). omega (arith, long, most, ltb-false p n t))
    (known (ltb p n))
