-- A list in the places of a record: read back, filled a view at a time, and looked through a place at a time.
use mathlib.Core.Path.{◌≡◌, refl, sym, ap, ap₂, ◌∙◌}
use mathlib.Core.List.{List, [], ◌∷◌, ◌++◌, append_assoc, append-nil}
use Prim.Native.Nat.{ℕ, zero, suc, ◌+◌, ◌-◌, ◌<◌, ◌≤◌, min}
use native.Mathlib.Numerals.{add-one}
use native.Mathlib.Omega.{arith}
use lib.ListN.{length, get_or, take, drop, set, replicate, length-append, length-replicate, length-take}
use lib.Seq.{drop-cons, get_or-take, take-append-add, take-append-le, take-append_seam, set_at, append_snoc}
use Rattle.std.proofs.lemmas.List.{take_min}
use Rattle.views.specs.declared.View.{View}
use Rattle.views.specs.Limits.{max_views}
use Rattle.views.specs.Lists.{no_view, list_of, places, placed}

-- ---- n places, for any n

fit : ℕ → List View → List View
fit n l = take n (l ++ replicate n no_view)

take-replicate : (k n : ℕ) → k ≤ n → take k (replicate n no_view) ≡ replicate k no_view
take-replicate zero n h = refl
take-replicate (suc k) zero h = absurd (omega arith)
take-replicate (suc k) (suc n) h = ap (λ (l : List View). no_view ∷ l) (take-replicate k n (omega arith))

length-fit : (n : ℕ) (l : List View) → length (fit n l) ≡ n
unfolding fit
length-fit n l = simp (length-take, length-append, length-replicate) (omega arith)

-- a list with room: the unused places stand behind it
fit-short : (n : ℕ) (l : List View) → length l ≤ n → fit n l ≡ l ++ replicate (n - length l) no_view
unfolding fit
fit-short n l h =
    let e : n ≡ length l + (n - length l) = omega arith in
    ap (λ (m : ℕ). take m (l ++ replicate n no_view)) e ∙ take-append-add l (replicate n no_view) (n - length l)
    ∙ ap (λ (r : List View). l ++ r) (take-replicate (n - length l) n (omega arith))

-- a list with no room: what is put behind it is lost
fit-long : (n : ℕ) (l m : List View) → n ≤ length l → fit n (l ++ m) ≡ fit n l
unfolding fit
fit-long n l m h = rw append_assoc (take-append-le n l (m ++ replicate n no_view) h ∙ sym (take-append-le n l (replicate n no_view) h))

fit-snoc : (n : ℕ) (l : List View) (v : View) → length l < n → set (fit n l) (length l) v ≡ fit n (l ++ v ∷ [])
fit-snoc n l v h =
    let e : n - length l ≡ suc (n - (length l + 1)) = omega arith in
    let f : length (l ++ v ∷ []) ≡ length l + 1 = length-append l (v ∷ []) in
    rw (fit-short n l (omega arith), fit-short n (l ++ v ∷ []) (omega arith), e, f, append_snoc l v (replicate (n - (length l + 1)) no_view))
    (set_at l no_view (replicate (n - (length l + 1)) no_view) v (length l) refl)

take-fit : (n : ℕ) (l : List View) → length l ≤ n → take (length l) (fit n l) ≡ l
take-fit n l h = rw (fit-short n l h) (take-append_seam l (replicate (n - length l) no_view))

-- ---- the places of a record

places-fit : (l : List View) → places l ≡ fit max_views l
unfolding places fit
places-fit l = refl

pub length-places : (l : List View) → length (places l) ≡ max_views
length-places l = ap length (places-fit l) ∙ length-fit max_views l

-- the unused places stand behind a list that fits its places
pub places-short : (l : List View) → length l ≤ max_views → places l ≡ l ++ replicate (max_views - length l) no_view
places-short l h = places-fit l ∙ fit-short max_views l h

-- a list that fits its places is read back
pub list-placed : (l : List View) → length l ≤ max_views → list_of (placed l) ≡ l
list-placed l h = ap (λ (p : List View). take (length l) p) (places-fit l) ∙ take-fit max_views l h

pub places-snoc : (l : List View) (v : View) → length l < max_views → set (places l) (length l) v ≡ places (l ++ v ∷ [])
places-snoc l v h = ap (λ (p : List View). set p (length l) v) (places-fit l) ∙ fit-snoc max_views l v h ∙ sym (places-fit (l ++ v ∷ []))

pub places-full : (l : List View) (v : View) → max_views ≤ length l → places (l ++ v ∷ []) ≡ places l
places-full l v h = places-fit (l ++ v ∷ []) ∙ fit-long max_views l (v ∷ []) h ∙ sym (places-fit l)

-- ---- filling the places with a list

-- k views of the whole list lie in the places, and the rest is to come
abbrev pub Filling : List View → List View → List View → ℕ → Type 0
Filling whole rest at k = (done : List View) × (k ≡ length done) × (at ≡ places done) × (whole ≡ done ++ rest)

pub filling-start : (whole : List View) → Filling whole whole (replicate max_views no_view) 0
unfolding places
filling-start whole = ([], refl, refl, refl)

module _ (whole rest at : List View) (k : ℕ) (v : View) (f : Filling whole (v ∷ rest) at k) where
  later : whole ≡ (f.0 ++ v ∷ []) ++ rest
  later = f.3 ∙ sym (append_snoc f.0 v rest)

  counted : k + 1 ≡ length (f.0 ++ v ∷ [])
  counted = omega (arith, f.1, length-append f.0 (v ∷ []))

  pub filling-more : k < max_views → Filling whole rest (set at k v) (k + 1)
  filling-more h = (f.0 ++ v ∷ [], counted, ap₂ (λ (a : List View) (n : ℕ). set a n v) f.2 f.1 ∙ places-snoc f.0 v (omega (arith, f.1)), later)

  pub filling-full : max_views ≤ k → Filling whole rest at (k + 1)
  filling-full h = (f.0 ++ v ∷ [], counted, f.2 ∙ sym (places-full f.0 v (omega (arith, f.1))), later)

-- the rest by another name
pub filling_skip : (whole rest next at : List View) (k : ℕ) → rest ≡ next → Filling whole rest at k → Filling whole next at k
filling_skip whole rest next at k e f = (f.0, f.1, f.2, f.3 ∙ ap (λ (l : List View). f.0 ++ l) e)

pub filling-end : (whole at : List View) (k : ℕ) → Filling whole [] at k → record { count = k; at = at } ≡ placed whole
filling-end whole at k f =
    let e : whole ≡ f.0 = f.3 ∙ append-nil f.0 in
    rw e (ap₂ (λ (n : ℕ) (p : List View). record { count = n; at = p }) f.1 f.2)

-- ---- a record's list, a place at a time

-- the views that a record's count uses are as many as there are places for
pub length-used : (count : ℕ) (at : List View) → length at ≡ max_views → length (take count at) ≡ min count max_views
length-used count at h = length-take count at ∙ ap (λ (n : ℕ). min count n) h

-- those views, by the number of places in use
pub take-used : (count : ℕ) (at : List View) → length at ≡ max_views → take (min count max_views) at ≡ take count at
take-used count at h = rw (← h) (take_min count at)

-- what is left of a list at a place: the view there, and what is left behind it
pub drop_here : (l : List View) (i : ℕ) → i < length l → drop i l ≡ get_or l i no_view ∷ drop (i + 1) l
drop_here l i h = rw (add-one i, drop-cons l i no_view h)

pub drop-used : (count : ℕ) (at : List View) (i : ℕ) → i < length (take count at) → drop i (take count at) ≡ get_or at i no_view ∷ drop (i + 1) (take count at)
drop-used count at i h =
    drop_here (take count at) i h ∙ rw (get_or-take count at i no_view (omega (arith, length-take count at)))
