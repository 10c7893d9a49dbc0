-- What insert and prune do at each place of a list, what rising and find answer of a list, and a walk over two lists, where each turn is a choice.
use mathlib.Core.Path.{◌≡◌, refl, sym, ap, ◌∙◌}
use mathlib.Core.Logic.{⊎_elim}
use mathlib.Core.Bool.{Bool, true, false}
use mathlib.Core.List.{List, [], ◌∷◌}
use Prim.Native.Nat.{ℕ, zero, suc, ◌+◌, ◌<◌, ◌≤◌}
use native.Mathlib.Nat.{add-zero}
use native.Mathlib.Omega.{arith}
use lib.Dec.{eqb, ltb}
use lib.ListN.{length, get_or, drop, drop_of_length-le}
use borrow.Author.Tests.{lt-ltb, le-ltb, ltb-true, ltb-false, eq-eqb, ne_eqb}
use Rattle.std.proofs.Common.{Option, Some, None}
use Rattle.std.specs.List.{find, slice_get, IsAllAdjacentAnswer}
use Rattle.std.specs.Option.{MatchOption}
use Rattle.std.proofs.lemmas.Option.{slice_get-get_or, slice_get_past}
use Rattle.views.specs.declared.View.{View}
use Rattle.views.specs.declared.list.Choice.{Choice}
use Rattle.views.specs.Lists.{id_of, rises_above, is_rising, find_of, insert_of, union_of, above_of, no_view}
use Rattle.views.specs.ChoiceParts.{choice, choice_of}
use Rattle.views.specs.Sets.{both}
use Rattle.views.proofs.SetLaws.{known}
use Rattle.views.proofs.ListLaws.{union-nil, union-front}
use Rattle.views.proofs.PlaceLaws.{drop_here}

-- ---- one list, which stands at i

-- a view is kept above g, or left out
pub above-cons : (g : ℕ) (v : View) (l : List View) → g < id_of v → above_of g (v ∷ l) ≡ v ∷ above_of g l
unfolding above_of
above-cons g v l h = rw (lt-ltb g (id_of v) h)

pub above-skip : (g : ℕ) (v : View) (l : List View) → id_of v ≤ g → above_of g (v ∷ l) ≡ above_of g l
unfolding above_of
above-skip g v l h = rw (le-ltb g (id_of v) h)

-- the view at i of a list is kept above g, or left out
module _ (l : List View) (i : ℕ) (h : i < length l) (g : ℕ) where
  pub above-here : g < id_of (get_or l i no_view) → above_of g (drop i l) ≡ get_or l i no_view ∷ above_of g (drop (i + 1) l)
  above-here e = ap (above_of g) (drop_here l i h) ∙ above-cons g (get_or l i no_view) (drop (i + 1) l) e

  pub above_on : id_of (get_or l i no_view) ≤ g → above_of g (drop i l) ≡ above_of g (drop (i + 1) l)
  above_on e = ap (above_of g) (drop_here l i h) ∙ above-skip g (get_or l i no_view) (drop (i + 1) l) e

-- a view met on the way of x to its place: below it, with its identifier, above it
module _ (x y : View) (l : List View) where
  pub insert-on : id_of y < id_of x → insert_of x (y ∷ l) ≡ y ∷ insert_of x l
  unfolding insert_of
  insert-on h = rw (lt-ltb (id_of y) (id_of x) h)

  pub insert-same : id_of x ≡ id_of y → insert_of x (y ∷ l) ≡ y ∷ l
  unfolding insert_of
  insert-same h = rw (le-ltb (id_of y) (id_of x) (omega arith), eq-eqb (id_of x) (id_of y) h)

  pub insert-here : id_of x < id_of y → insert_of x (y ∷ l) ≡ x ∷ y ∷ l
  unfolding insert_of
  insert-here h = rw (le-ltb (id_of y) (id_of x) (omega arith), ne_eqb (id_of x) (id_of y) (λ e. omega arith))

-- ---- one list, by its neighbours or by the first that a test picks

none-after : (a b : Bool) → false ≡ b → false ≡ both a b
none-after true b h = h
none-after false b h = refl

-- the answer whether each view is below the next
pub adjacent-rising : (l : List View) (r : Bool) → IsAllAdjacentAnswer (λ v w b. b ≡ ltb (id_of v) (id_of w)) l r → r ≡ is_rising l
unfolding is_rising rises_above
adjacent-rising [] true h = refl
adjacent-rising [] false h = absurd (omega (arith, h.1))
adjacent-rising (v ∷ []) true h = refl
adjacent-rising (v ∷ []) false h = absurd (omega (arith, h.1))
adjacent-rising (v ∷ w ∷ l) true h =
    let next : (k : ℕ) → suc k + 1 ≡ suc (k + 1) = λ k. omega arith in
    rw (sym (h 0 v (omega arith))) (adjacent-rising (w ∷ l) true (λ k d m. rw next at (h (suc k) d (omega arith))))
adjacent-rising (v ∷ w ∷ l) false (zero, m, f) = rw (sym (f v)) refl
adjacent-rising (v ∷ w ∷ l) false (suc k, m, f) =
    let next : suc k + 1 ≡ suc (k + 1) = omega arith in
    none-after _ _ (adjacent-rising (w ∷ l) false (k, omega arith, λ d. rw next at (f d)))

-- the first view with the identifier is the one that `find` gives
pub find-looked : (g : ℕ) (l : List View) → find_of g l ≡ find (λ v. eqb (id_of v) g) l
unfolding find_of
find-looked g [] = refl
find-looked g (v ∷ l) =
    ⊎_elim
    (λ (t : eqb (id_of v) g ≡ true). rw t refl)
    (λ (t : eqb (id_of v) g ≡ false). rw t (find-looked g l))
    (known (eqb (id_of v) g))

-- ---- two lists, which stand at i and j

-- what a choice says of the union of what is left
abbrev pub Chosen : List View → List View → ℕ → ℕ → Choice → Type 0
Chosen k l i j c =
    (i + c.left ≤ length k) × (j + c.right ≤ length l) × (1 ≤ c.left + c.right)
    × (union_of (drop i k) (drop j l) ≡ c.view ∷ union_of (drop (i + c.left) k) (drop (j + c.right) l))

module _ (k l : List View) (i j : ℕ) (x y : View)
    (at_x : i < length k → drop i k ≡ x ∷ drop (i + 1) k) (at_y : j < length l → drop j l ≡ y ∷ drop (j + 1) l) where
  only-y : length k ≤ i → i ≤ length k → j < length l → Chosen k l i j (choice y 0 1)
  unfolding union_of
  only-y h h' m = (omega arith, omega arith, omega arith, rw (add-zero i, drop_of_length-le k h, at_y m))

  only_x : i < length k → length l ≤ j → j ≤ length l → Chosen k l i j (choice x 1 0)
  only_x m h h' = (
    omega arith,
    omega arith,
    omega arith,
    rw (add-zero j, drop_of_length-le l h, union-nil (drop i k), union-nil (drop (i + 1) k), at_x m),
  )

  module _ (p : i < length k) (q : j < length l) where
    lower : ltb (id_of y) (id_of x) ≡ true → Chosen k l i j (choice y 0 1)
    lower t = (omega arith, omega arith, omega arith, rw (add-zero i, at_x p, at_y q, union-front, t))

    same : ltb (id_of y) (id_of x) ≡ false → eqb (id_of x) (id_of y) ≡ true → Chosen k l i j (choice x 1 1)
    same t u = (omega arith, omega arith, omega arith, rw (at_x p, at_y q, union-front, t, u))

    higher : ltb (id_of y) (id_of x) ≡ false → eqb (id_of x) (id_of y) ≡ false → Chosen k l i j (choice x 1 0)
    higher t u = (omega arith, omega arith, omega arith, rw (add-zero j, at_x p, at_y q, union-front, t, u))

    either : MatchOption (choice_of (Some x) (Some y)) ((length k ≤ i) × (length l ≤ j)) (Chosen k l i j)
    either =
        ⊎_elim (λ (t : ltb (id_of y) (id_of x) ≡ true). rw t (lower t))
        (λ (t : ltb (id_of y) (id_of x) ≡ false).
        ⊎_elim (λ (u : eqb (id_of x) (id_of y) ≡ true). rw (t, u) (same t u))
        (λ (u : eqb (id_of x) (id_of y) ≡ false). rw (t, u) (higher t u)) (known (eqb (id_of x) (id_of y))))
        (known (ltb (id_of y) (id_of x)))

-- a list with a view where it is, and one at its end
here : (l : List View) (i : ℕ) → ltb i (length l) ≡ true → slice_get l i ≡ Some (get_or l i no_view)
here l i t = slice_get-get_or l i no_view (ltb-true i (length l) t)

past : (l : List View) (i : ℕ) → ltb i (length l) ≡ false → slice_get l i ≡ None
past l i t = slice_get_past l i (ltb-false i (length l) t)

-- the choice of what is at i and j, none where both lists are at their ends
pub chosen : (k l : List View) (i j : ℕ) (r : Option Choice) → r ≡ choice_of (slice_get k i) (slice_get l j) → i ≤ length k → j ≤ length l
    → MatchOption r ((length k ≤ i) × (length l ≤ j)) (Chosen k l i j)
chosen k l i j r e hi hj =
    let x = get_or k i no_view in
    let y = get_or l j no_view in
    let at_x = drop_here k i in
    let at_y = drop_here l j in
    rw e
    (⊎_elim
    (λ (t : ltb i (length k) ≡ true).
    let p : i < length k = ltb-true i (length k) t in
    ⊎_elim
    (λ (u : ltb j (length l) ≡ true). rw (here k i t, here l j u) (either k l i j x y at_x at_y p (ltb-true j (length l) u)))
    (λ (u : ltb j (length l) ≡ false). rw (here k i t, past l j u) (only_x k l i j x y at_x at_y p (ltb-false j (length l) u) hj))
    (known (ltb j (length l))))
    (λ (t : ltb i (length k) ≡ false).
    let p : length k ≤ i = ltb-false i (length k) t in
    ⊎_elim
    (λ (u : ltb j (length l) ≡ true). rw (past k i t, here l j u) (only-y k l i j x y at_x at_y p hi (ltb-true j (length l) u)))
    (λ (u : ltb j (length l) ≡ false). rw (past k i t, past l j u) (p, ltb-false j (length l) u))
    (known (ltb j (length l))))
    (known (ltb i (length k))))
