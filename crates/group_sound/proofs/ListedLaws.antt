-- Views among those of a list that rises: one by its place, and several that rise by one walk along the list.
use mathlib.Core.Path.{◌≡◌, refl, sym, ap, ◌∙◌}
use mathlib.Core.Logic.{⊎_elim}
use mathlib.Core.Bool.{Bool, true, false}
use mathlib.Core.List.{List, [], ◌∷◌}
use Prim.Native.Nat.{ℕ, zero, suc, ◌+◌, ◌-◌, ◌*◌, ◌<◌, ◌≤◌}
use native.Mathlib.Omega.{arith}
use borrow.Author.Tests.{ltb-true, ltb-false, eqb-true, eqb-false, eq-eqb}
use lib.Dec.{eqb, ltb}
use lib.ListN.{length, get_or, drop}
use Rattle.views.specs.declared.View.{View}
use Rattle.views.specs.Lists.{id_of, is_rising, rises_above, no_view}
use Rattle.views.proofs.SetLaws.{known, both_true}
use Rattle.views.proofs.Members.{In, top, pop, in-nil, in-cons, in_top}
use Rattle.views.proofs.ListLaws.{rises-cons, rises-all, rising-tail, rising-unique}
use Rattle.wire.specs.Reader.{view_in, views_in}
use Rattle.wire.proofs.InBytesLaws.{rows-turn}
use Rattle.wire.proofs.ReaderLaws.{length-views_in, views-at}
use Rattle.rules.specs.Member.{all}
use Rattle.rules.specs.Sound.{listed}
use Rattle.rules.proofs.TestLaws.{both-from, all-at, all_from, listed_in, listed-from}
use Rattle.rules.proofs.Truth.{alike, unmet, both-unit}
use Rattle.group_bytes.specs.Groups.{place_of}
use Rattle.group_bytes.proofs.PlaceLaws.{place-id, place_in}
use Rattle.group_bytes.proofs.PlaceTurns.{in-at}
use Rattle.group_sound.specs.Parts.{views_known}

pub one-view : (v w : View) → id_of v ≡ id_of w → v.set ≡ w.set → v ≡ w
one-view v w g m = λ i. record { id = record { 0 = g i }; set = m i }

-- ---- one view

-- at its place stands the view, or another with its identifier
listed-there : (l : List View) → is_rising l ≡ true → (v : View) → place_of (id_of v) l < length l
    → eqb (get_or l (place_of (id_of v) l) no_view).set v.set ≡ listed l v
listed-there l r v h =
    let w = get_or l (place_of (id_of v) l) no_view in
    let here : In w l = in-at l (place_of (id_of v) l) h in
    let g : id_of w ≡ id_of v = place-id (id_of v) l h in
    alike (eqb w.set v.set) (listed l v)
    (λ t. listed-from l v (rw (one-view v w (sym g) (sym (eqb-true _ _ t))) here))
    (λ t. eq-eqb w.set v.set (ap (λ (x : View). x.set) (rising-unique l r w v here (listed_in l v t) g)))

-- the list in bytes, and the view's place in it
module _ (list : List ℕ) (made : ℕ) (v : View) (p : ℕ) (e : p ≡ place_of (id_of v) (views_in list 0 made)) where
  pub view-nowhere : made ≤ p → listed (views_in list 0 made) v ≡ false
  view-nowhere h =
      let l = views_in list 0 made in
      unmet (listed l v) (λ t. omega (arith, place_in v l (listed_in l v t), length-views_in list 0 made))

  pub view-there : is_rising (views_in list 0 made) ≡ true → p < made → eqb (get_or list (5 * p + 4) 0) v.set ≡ listed (views_in list 0 made) v
  view-there r h =
      let l = views_in list 0 made in
      let k : 0 + 5 * p ≡ 5 * p = omega arith in
      let w : get_or l p no_view ≡ view_in list (5 * p) = views-at list 0 made p h ∙ ap (view_in list) k in
      ap (λ (x : View). eqb x.set v.set) (sym w) ∙ ap (λ (x : ℕ). eqb (get_or l x no_view).set v.set) e
      ∙ listed-there l r v (omega (arith, length-views_in list 0 made))

-- ---- views that rise, by the list's front

known-says : (l r : List View) → views_known l r ≡ true → (is_rising r ≡ true) × ((x : View) → In x r → In x l)
known-says l r h =
    let t = both_true (is_rising r) (all (listed l) r) h in
    (t.0, λ x i. listed_in l x (all-at (listed l) r t.1 x i))

known_from : (l r : List View) → is_rising r ≡ true → ((x : View) → In x r → In x l) → views_known l r ≡ true
known_from l r h f = both-from (is_rising r) (all (listed l) r) h (all_from (listed l) r (λ x i. listed-from l x (f x i)))

pub known-end : (l : List View) → views_known l [] ≡ true
known-end l = known_from l [] (unfold is_rising in refl) (λ x i. absurd (in-nil i))

-- one alone rises
pub known-single : (l : List View) (v : View) → listed l v ≡ views_known l (v ∷ [])
unfolding is_rising rises_above all
known-single l v = sym (both-unit (listed l v))

pub known-none : (v : View) (r : List View) → views_known [] (v ∷ r) ≡ false
known-none v r = unmet (views_known [] (v ∷ r)) (λ t. in-nil ((known-says [] (v ∷ r) t).1 v top))

module _ (w : View) (l : List View) (rise : is_rising (w ∷ l) ≡ true) (v : View) (r : List View) where
  -- behind w all are above it
  above : (x : View) → In x l → id_of w < id_of x
  unfolding is_rising
  above x i = rises-all (id_of w) l rise x i

  behind : is_rising (v ∷ r) ≡ true → (x : View) → In x r → id_of v < id_of x
  unfolding is_rising
  behind h x i = rises-all (id_of v) r h x i

  -- w is below them all
  pub known-skip : id_of w < id_of v → views_known (w ∷ l) (v ∷ r) ≡ views_known l (v ∷ r)
  known-skip h = alike (views_known (w ∷ l) (v ∷ r)) (views_known l (v ∷ r))
      (λ t.
      let (up, there) = known-says (w ∷ l) (v ∷ r) t in
      let most : (x : View) → In x (v ∷ r) → id_of v ≤ id_of x
      = λ x i. ⊎_elim (λ (e : x ≡ v). omega (arith, ap id_of e)) (λ (j : In x r). omega (arith, behind up x j)) (in-cons i) in
      known_from l (v ∷ r) up (λ x i.
      ⊎_elim (λ (e : x ≡ w). absurd (omega (arith, ap id_of e, most x i))) (λ (j : In x l). j) (in-cons (there x i))))
      (λ t. let (up, there) = known-says l (v ∷ r) t in known_from (w ∷ l) (v ∷ r) up (λ x i. pop (there x i)))

  -- v would stand at w's place or before it, and is another view
  pub known-stop : id_of v ≤ id_of w → (v ≡ w → ⊥) → views_known (w ∷ l) (v ∷ r) ≡ false
  known-stop h n = unmet (views_known (w ∷ l) (v ∷ r)) (λ t.
      ⊎_elim (λ (e : v ≡ w). n e) (λ (j : In v l). omega (arith, above v j)) (in-cons ((known-says (w ∷ l) (v ∷ r) t).1 v top)))

  joined : (k : List View) → id_of v ≡ id_of w → is_rising k ≡ true → ((x : View) → In x k → In x l) → is_rising (v ∷ k) ≡ true
  unfolding is_rising rises_above
  joined [] e up there = refl
  joined (x ∷ k) e up there = rises-cons (id_of v) x k (omega (arith, above x (there x top))) up

  -- w is v, and the others stand behind it
  pub known_on : v ≡ w → views_known (w ∷ l) (v ∷ r) ≡ views_known l r
  known_on e = alike (views_known (w ∷ l) (v ∷ r)) (views_known l r)
      (λ t.
      let (up, there) = known-says (w ∷ l) (v ∷ r) t in
      known_from l r (rising-tail v r up) (λ x i.
      ⊎_elim (λ (f : x ≡ w). absurd (omega (arith, ap id_of f, ap id_of e, behind up x i))) (λ (j : In x l). j) (in-cons (there x (pop i)))))
      (λ t.
      let (up, there) = known-says l r t in
      known_from (w ∷ l) (v ∷ r) (joined r (ap id_of e) up there) (λ x i. ⊎_elim (λ (f : x ≡ v). in_top (f ∙ e)) (λ (j : In x r). pop (there x j)) (in-cons i)))

-- ---- from the first one's place on

known_past : (w : View) (l : List View) → is_rising (w ∷ l) ≡ true → (v : View) (r : List View) → (id_of w ≡ id_of v → ⊥)
    → views_known (w ∷ l) (v ∷ r) ≡ views_known l (v ∷ r)
known_past w l rise v r n =
    ⊎_elim (λ (t : ltb (id_of w) (id_of v) ≡ true). known-skip w l rise v r (ltb-true _ _ t))
    (λ (t : ltb (id_of w) (id_of v) ≡ false).
    let h : id_of v < id_of w = omega (arith, ltb-false (id_of w) (id_of v) t, n) in
    let gone : views_known l (v ∷ r) ≡ false
    = unmet (views_known l (v ∷ r)) (λ u. omega (arith, above w l rise v r v ((known-says l (v ∷ r) u).1 v top))) in
    known-stop w l rise v r (omega arith) (λ e. omega (arith, ap id_of e)) ∙ sym gone)
    (known (ltb (id_of w) (id_of v)))

pub known-place : (l : List View) → is_rising l ≡ true → (v : View) (r : List View)
    → views_known l (v ∷ r) ≡ views_known (drop (place_of (id_of v) l) l) (v ∷ r)
unfolding place_of
known-place [] rise v r = refl
known-place (w ∷ l) rise v r =
    ⊎_elim (λ (e : eqb (id_of w) (id_of v) ≡ true). rw e)
    (λ (e : eqb (id_of w) (id_of v) ≡ false). rw e (known_past w l rise v r (eqb-false _ _ e) ∙ known-place l (rising-tail w l rise) v r))
    (known (eqb (id_of w) (id_of v)))

rising-drop : (l : List View) → is_rising l ≡ true → (k : ℕ) → is_rising (drop k l) ≡ true
rising-drop l h zero = h
rising-drop [] h (suc k) = h
rising-drop (v ∷ l) h (suc k) = rising-drop l (rising-tail v l h) k

-- ---- the lists in bytes

views-drop : (b : List ℕ) (at n k : ℕ) → drop k (views_in b at n) ≡ views_in b (at + 5 * k) (n - k)
unfolding views_in
views-drop b at n zero = let e : at + 5 * 0 ≡ at = omega arith in let f : n - 0 ≡ n = omega arith in rw (e, f)
views-drop b at zero (suc k) = let f : 0 - suc k ≡ 0 = omega arith in rw f
views-drop b at (suc n) (suc k) =
    let e : at + 5 + 5 * k ≡ at + 5 * suc k = omega arith in
    let f : suc n - suc k ≡ n - k = omega arith in
    rw (f, ← e) (views-drop b (at + 5) n k)

pub no-views : (l : List View) (b : List ℕ) (from count : ℕ) → count ≡ 0 → views_known l (views_in b from count) ≡ true
unfolding views_in
no-views l b from count z = rw z (known-end l)

-- the list from place j on, and the views from the i-th on
abbrev pub rest : List ℕ → ℕ → ℕ → List View
rest list made j = views_in list (5 * j) (made - j)

list-drop : (list : List ℕ) (made j : ℕ) → drop j (views_in list 0 made) ≡ rest list made j
list-drop list made j = let e : 0 + 5 * j ≡ 5 * j = omega arith in rw (← e) (views-drop list 0 made j)

pub rest-rises : (list : List ℕ) (made j : ℕ) → is_rising (views_in list 0 made) ≡ true → is_rising (rest list made j) ≡ true
rest-rises list made j h = rw (← list-drop list made j) (rising-drop (views_in list 0 made) h j)

abbrev pub all_known_from : List ℕ → ℕ → List ℕ → ℕ → ℕ → ℕ → ℕ → Bool
all_known_from list made b from count j i = views_known (rest list made j) (views_in b (from + 5 * i) (count - i))

module _ (list : List ℕ) (made : ℕ) (b : List ℕ) (from count : ℕ) where
  -- with no views left all are known, and at the end of the list no other is
  pub walk_end : (j i : ℕ) → count ≤ i → all_known_from list made b from count j i ≡ true
  unfolding views_in
  walk_end j i h = let z : count - i ≡ 0 = omega arith in rw z (known-end (rest list made j))

  pub walk-past : (j i : ℕ) → made ≤ j → i < count → all_known_from list made b from count j i ≡ false
  unfolding views_in
  walk-past j i h k =
      let z : made - j ≡ 0 = omega arith in
      rw (z, rows-turn b from count i k) (known-none (view_in b (from + 5 * i)) (views_in b (from + 5 * (i + 1)) (count - (i + 1))))

  pub walk_start : is_rising (views_in list 0 made) ≡ true → 0 < count → (v : View) → v ≡ view_in b from → (j : ℕ) → j ≡ place_of (id_of v) (views_in list 0 made)
      → views_known (views_in list 0 made) (views_in b from count) ≡ all_known_from list made b from count j 0
  unfolding views_in
  walk_start rise h v e j f =
      let m : count ≡ suc (count - 1) = omega arith in
      let first : from + 5 * 0 ≡ from = omega arith in
      let whole : count - 0 ≡ count = omega arith in
      let k : views_in b from count ≡ v ∷ views_in b (from + 5) (count - 1) = ap (views_in b from) m ∙ ap (λ (x : View). x ∷ views_in b (from + 5) (count - 1)) (sym e) in
      rw (first, whole, k) (known-place (views_in list 0 made) rise v (views_in b (from + 5) (count - 1))
      ∙ ap (λ (l : List View). views_known l (v ∷ views_in b (from + 5) (count - 1))) (ap (λ (x : ℕ). drop x (views_in list 0 made)) (sym f) ∙ list-drop list made j))

  module _ (j i : ℕ) (h : j < made) (k : i < count) (rise : is_rising (views_in list 0 made) ≡ true) (v w : View) (ev : v ≡ view_in b (from + 5 * i)) (ew : w ≡ view_in list (5 * j)) where
    list-turn : rest list made j ≡ w ∷ rest list made (j + 1)
    list-turn =
        let here : 0 + 5 * j ≡ 5 * j = omega arith in
        let next : 0 + 5 * (j + 1) ≡ 5 * (j + 1) = omega arith in
        let t = rows-turn list 0 made j h in
        rw (ew, ← here, ← next) t

    view-turn : views_in b (from + 5 * i) (count - i) ≡ v ∷ views_in b (from + 5 * (i + 1)) (count - (i + 1))
    view-turn = rw ev (rows-turn b from count i k)

    front-rises : is_rising (w ∷ rest list made (j + 1)) ≡ true
    front-rises = rw (← list-turn) (rest-rises list made j rise)

    pub walk-skip : id_of w < id_of v → all_known_from list made b from count j i ≡ all_known_from list made b from count (j + 1) i
    walk-skip l = rw (list-turn, view-turn) (known-skip w (rest list made (j + 1)) front-rises v (views_in b (from + 5 * (i + 1)) (count - (i + 1))) l)

    pub walk-stop : id_of v ≤ id_of w → (v ≡ w → ⊥) → all_known_from list made b from count j i ≡ false
    walk-stop l n = rw (list-turn, view-turn) (known-stop w (rest list made (j + 1)) front-rises v (views_in b (from + 5 * (i + 1)) (count - (i + 1))) l n)

    pub walk-on : v ≡ w → all_known_from list made b from count j i ≡ all_known_from list made b from count (j + 1) (i + 1)
    walk-on e = rw (list-turn, view-turn) (known_on w (rest list made (j + 1)) front-rises v (views_in b (from + 5 * (i + 1)) (count - (i + 1))) e)
