-- What the code finds place by place, from the last view made down, is what the query gives.
use mathlib.Core.Path.{◌≡◌, refl, sym, ap, ◌∙◌}
use mathlib.Core.Logic.{⊎_elim}
use mathlib.Core.Bool.{Bool, true, false, cond}
use mathlib.Core.List.{List, [], ◌∷◌, ◌++◌}
use Prim.Native.Nat.{ℕ, zero, suc, ◌+◌, ◌-◌, ◌*◌, ◌≤◌, ◌<◌}
use native.Mathlib.Omega.{arith}
use lib.ListN.{length, get_or}
use Rattle.std.proofs.Common.{add-one}
use Rattle.numbers.specs.Number.{get, put}
use Rattle.views.specs.declared.View.{View}
use Rattle.views.specs.Sets.{both, has}
use Rattle.views.specs.Lists.{id_of, no_view}
use Rattle.views.specs.Sizes.{view_size, identifier_size}
use Rattle.views.proofs.SetLaws.{known, both_true}
use Rattle.wire.specs.Reader.{view_in, views_in}
use Rattle.wire.proofs.ReaderLaws.{views_in-snoc, views-at}
use Rattle.rules.specs.Crossing.{newest_first, picked}
use Rattle.rules.specs.Sound.{sound}
use Rattle.rules.proofs.Sound.{sound-says}
use Rattle.group_bytes.specs.Groups.{Ranges, made_of, views_made, place_of, marks_of, marks_in, group_in, ranges_fit, ranges_sound}
use Rattle.group_bytes.specs.Crossing.{picked_in}
use Rattle.group_bytes.proofs.PlaceLaws.{length-made}
use Rattle.group_bytes.proofs.PlaceTurns.{place_at}
use Rattle.group_crossing.specs.Queries.{is_wanted, ids_of, found_in, store_ids}
use Rattle.group_crossing.specs.QueryParts.{pick_at, ids_below}

-- ---- one more view at the end comes first

pub newest-snoc : (f : View → Bool) (l : List View) (v : View) → newest_first f (l ++ (v ∷ [])) ≡ cond (f v) (v ∷ newest_first f l) (newest_first f l)
unfolding newest_first
newest-snoc f [] v = ⊎_elim (λ (t : f v ≡ true). rw t) (λ (t : f v ≡ false). rw t) (known (f v))
newest-snoc f (w ∷ l) v =
    ⊎_elim (λ (t : f v ≡ true). let e = newest-snoc f l v in rw t (ap (λ (k : List View). k ++ cond (f w) (w ∷ []) []) (rw t at e)))
    (λ (t : f v ≡ false). let e = newest-snoc f l v in rw t (ap (λ (k : List View). k ++ cond (f w) (w ∷ []) []) (rw t at e)))
    (known (f v))

-- one more view to read
pub last_view : (list : List ℕ) (n : ℕ) → views_in list 0 (suc n) ≡ views_in list 0 n ++ (view_in list (view_size * n) ∷ [])
last_view list n =
    let a : suc n ≡ n + 1 = omega arith in
    let b : 0 + 5 * n ≡ view_size * n = omega arith in
    ap (views_in list 0) a ∙ views_in-snoc list 0 n ∙ ap (λ (k : ℕ). views_in list 0 n ++ (view_in list k ∷ [])) b

-- place by place
below-newest : (list : List ℕ) (F : View → Bool) (t : ℕ → Bool) (n : ℕ) → ((i : ℕ) → i < n → F (view_in list (view_size * i)) ≡ t i)
    → ids_of (newest_first F (views_in list 0 n)) ≡ ids_below list t n
unfolding ids_below newest_first views_in
below-newest list F t zero h = refl
below-newest list F t (suc n) h =
    let e : views_in list 0 (suc n) ≡ views_in list 0 n ++ (view_in list (view_size * n) ∷ []) = last_view list n in
    let k = h n (omega arith) in
    let before = below-newest list F t n (λ i l. h i (omega arith)) in
    ap (λ (l : List View). ids_of (newest_first F l)) e ∙ ap ids_of (newest-snoc F (views_in list 0 n) (view_in list (view_size * n))) ∙ step k before
  where
    step : F (view_in list (view_size * n)) ≡ t n → ids_of (newest_first F (views_in list 0 n)) ≡ ids_below list t n
        → ids_of (cond (F (view_in list (view_size * n))) (view_in list (view_size * n) ∷ newest_first F (views_in list 0 n)) (newest_first F (views_in list 0 n)))
        ≡ cond (t n) (get list (view_size * n) identifier_size ∷ ids_below list t n) (ids_below list t n)
    step k b = ⊎_elim (λ (u : t n ≡ true). rw (k, u) (ap (λ (l : List ℕ). get list (view_size * n) identifier_size ∷ l) b)) (λ (u : t n ≡ false). rw (k, u) b) (known (t n))

-- ---- in sound ranges

module _ (r : Ranges) (s : ranges_sound r ≡ true) where
  first : (i : ℕ) → 0 + 5 * i ≡ view_size * i
  first i = omega arith

  pub mark-at : (i : ℕ) → i < made_of r → marks_in r (id_of (view_in r.list (view_size * i))) ≡ has (marks_of r) i
  unfolding marks_in ranges_sound group_in
  mark-at i h =
      let rising = (sound-says (group_in r) (both_true (ranges_fit r) (sound (group_in r)) s).1).rising in
      let here : get_or (views_made r) i no_view ≡ view_in r.list (view_size * i) = views-at r.list 0 (made_of r) i h ∙ ap (view_in r.list) (first i) in
      let place : place_of (id_of (view_in r.list (view_size * i))) (views_made r) ≡ i
      = ap (λ (v : View). place_of (id_of v) (views_made r)) (sym here) ∙ place_at (views_made r) rising i (omega (arith, length-made r)) in
      rw place

  pub found_below : (hold : Bool) (T : ℕ) → found_in r hold T ≡ ids_below r.list (pick_at r.list (marks_of r) hold T) (made_of r)
  unfolding found_in picked_in picked pick_at
  found_below hold T =
      below-newest r.list (λ v. both (marks_in r (id_of v)) (is_wanted hold T v)) _ (made_of r)
      (λ i h. ap (λ (b : Bool). both b (is_wanted hold T (view_in r.list (view_size * i)))) (mark-at i h))

-- ---- turns of the loops

module _ (list : List ℕ) (t : ℕ → Bool) where
  pub few-below : (n : ℕ) → length (ids_below list t n) ≤ n
  unfolding ids_below
  few-below zero = omega arith
  few-below (suc n) = ⊎_elim (λ (e : t n ≡ true). rw e (omega (arith, few-below n))) (λ (e : t n ≡ false). rw e (omega (arith, few-below n))) (known (t n))

  pub count_few : (i k : ℕ) → k ≡ length (ids_below list t i) → k ≤ i
  count_few i k e = omega (arith, few-below i, e)

  -- upwards
  pub ids-more : (i : ℕ) → t i ≡ true → ids_below list t (i + 1) ≡ get list (view_size * i) identifier_size ∷ ids_below list t i
  unfolding ids_below
  ids-more i e = rw (add-one i, e)

  pub ids-same : (i : ℕ) → t i ≡ false → ids_below list t (i + 1) ≡ ids_below list t i
  unfolding ids_below
  ids-same i e = rw (add-one i, e)

  -- downwards
  pub ids_first : (i : ℕ) → 0 < i → t (i - 1) ≡ true → ids_below list t i ≡ get list (view_size * (i - 1)) identifier_size ∷ ids_below list t (i - 1)
  unfolding ids_below
  ids_first zero h e = absurd (omega arith)
  ids_first (suc i) h e = let k : suc i - 1 ≡ i = omega arith in let f : t i ≡ true = rw k at e in rw (k, f)

  pub ids_on : (i : ℕ) → 0 < i → t (i - 1) ≡ false → ids_below list t i ≡ ids_below list t (i - 1)
  unfolding ids_below
  ids_on zero h e = absurd (omega arith)
  ids_on (suc i) h e = let k : suc i - 1 ≡ i = omega arith in let f : t i ≡ false = rw k at e in rw (k, f)

  pub room_here : (i at m : ℕ) → 0 < i → t (i - 1) ≡ true → at + identifier_size * length (ids_below list t i) ≤ m
      → at + identifier_size + identifier_size * length (ids_below list t (i - 1)) ≤ m
  room_here i at m h e r = omega (arith, ap length (ids_first i h e), r)

  pub store_turn : (i at : ℕ) (out z : List ℕ) → 0 < i → t (i - 1) ≡ true → store_ids out at (ids_below list t i) ≡ z
      → store_ids (put out at identifier_size (get list (view_size * (i - 1)) identifier_size)) (at + identifier_size) (ids_below list t (i - 1)) ≡ z
  unfolding store_ids
  store_turn i at out z h e s = rw (ids_first i h e) at s

  pub store_end : (at : ℕ) (out : List ℕ) → store_ids out at (ids_below list t 0) ≡ out
  unfolding ids_below store_ids
  store_end at out = refl
