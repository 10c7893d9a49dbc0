-- The whole list by value: place after place it is the list in its places. A list laid afresh, place by place.
use mathlib.Core.Path.{◌≡◌, refl, sym, ◌∙◌, ap}
use mathlib.Core.List.{List, [], ◌∷◌, ◌++◌}
use Prim.Native.Nat.{ℕ, zero, suc, ◌+◌, ◌-◌, ◌≤◌, ◌<◌, min}
use native.Mathlib.Decide.{dec_le}
use native.Mathlib.Omega.{arith}
use lib.ListN.{length, get_or, set, take, drop, replicate, length-set}
use lib.Seq.{get_or-set_same, get_or-set_other}
use Rattle.views.specs.declared.View.{View}
use Rattle.views.specs.Limits.{max_views}
use Rattle.views.specs.Lists.{no_view, places, placed}
use Rattle.group_listed.specs.SliceParts.{laid}

-- one more place below the last
falls : (i : ℕ) → i < max_views → max_views - i ≡ suc (max_views - (i + 1))
falls i h = omega arith

pub laid-last : (l : List View) (i : ℕ) (v : View) → max_views ≤ i → l ≡ laid (max_views - i) l i v
unfolding laid
laid-last l i v h = let e : max_views - i ≡ 0 = omega arith in rw e refl

pub laid-step : (l : List View) (i : ℕ) (v : View) → i < max_views → laid (max_views - (i + 1)) (set l i v) (i + 1) no_view ≡ laid (max_views - i) l i v
unfolding laid
laid-step l i v h = rw (falls i h) refl

-- ---- the records that are laid

pub laid-length : (k : ℕ) (l : List View) (i : ℕ) (v : View) → length (laid k l i v) ≡ length l
unfolding laid
laid-length zero l i v = refl
laid-length (suc k) l i v = laid-length k (set l i v) (i + 1) no_view ∙ length-set l i v

-- below the place nothing changes
pub laid-below : (k : ℕ) (l : List View) (i j : ℕ) (v : View) → j < i → get_or (laid k l i v) j no_view ≡ get_or l j no_view
unfolding laid
laid-below zero l i j v h = refl
laid-below (suc k) l i j v h = laid-below k (set l i v) (i + 1) j no_view (omega (arith, h)) ∙ get_or-set_other l i j v no_view (λ e. omega (arith, e, h))

pub laid-here : (k : ℕ) (l : List View) (i : ℕ) (v : View) → i < length l → get_or (laid (suc k) l i v) i no_view ≡ v
unfolding laid
laid-here k l i v h = laid-below k (set l i v) (i + 1) i no_view (omega arith) ∙ get_or-set_same l i v no_view h

pub laid-behind : (k : ℕ) (l : List View) (i j : ℕ) (v : View) → i < j → j < i + k → j < length l → get_or (laid k l i v) j no_view ≡ no_view
unfolding laid
laid-behind zero l i j v a b c = absurd (omega (arith, a, b))
laid-behind (suc zero) l i j v a b c = absurd (omega (arith, a, b))
laid-behind (suc (suc k)) l i j v a b c =
    let n : j < length (set l i v) = let m : length (set l i v) ≡ length l = length-set l i v in omega (arith, m, c) in
    elim (dec_le j (i + 1)) [ yes h ↦ next n (omega arith) | no h ↦ laid-behind (suc k) (set l i v) (i + 1) j no_view (omega arith) (omega (arith, b)) n ]
  where
    next : j < length (set l i v) → j ≡ i + 1 → get_or (laid (suc k) (set l i v) (i + 1) no_view) j no_view ≡ no_view
    next n e = ap (λ (m : ℕ). get_or (laid (suc k) (set l i v) (i + 1) no_view) m no_view) e ∙ laid-here k (set l i v) (i + 1) no_view (omega (arith, n, e))

-- ---- all places

-- the first k views of a list, none where it has no more
firsts : ℕ → List View → List View
firsts zero l = []
firsts (suc k) [] = no_view ∷ firsts k []
firsts (suc k) (v ∷ l) = v ∷ firsts k l

firsts-are : (k m : ℕ) (l : List View) → k ≤ m → take k (l ++ replicate m no_view) ≡ firsts k l
unfolding firsts
firsts-are zero m l h = refl
firsts-are (suc k) zero [] h = absurd (omega (arith, h))
firsts-are (suc k) (suc m) [] h = ap (λ (t : List View). no_view ∷ t) (firsts-are k m [] (omega arith))
firsts-are (suc k) m (v ∷ l) h = ap (λ (t : List View). v ∷ t) (firsts-are k m l (omega arith))

-- the first views copied over unused places
copied : (k : ℕ) (l : List View) (n : ℕ) → n ≡ min (length l) k → take n l ++ drop n (replicate k no_view) ≡ firsts k l
unfolding firsts
copied zero l n e = let z : n ≡ 0 = omega (arith, e) in rw z
copied (suc k) [] n e = let z : n ≡ 0 = omega (arith, e) in rw z (ap (λ (t : List View). no_view ∷ t) (copied k [] 0 (omega arith)))
copied (suc k) (v ∷ l) zero e = absurd (omega (arith, e))
copied (suc k) (v ∷ l) (suc n) e = ap (λ (t : List View). v ∷ t) (copied k l n (omega (arith, e)))

pub placed-copied : (l : List View) (n : ℕ) → n ≡ min (length l) max_views → (a : List View) → a ≡ take n l
    → record { count = length l; at = a ++ drop n (replicate max_views no_view) } ≡ placed l
unfolding places
placed-copied l n e a f =
    ap (λ (t : List View). record { count = length l; at = t }) (rw f (copied max_views l n e ∙ sym (firsts-are max_views max_views l (omega arith))))
