-- The place of an identifier among the views made: where it is, that no two share one, and what a view more at the end changes.
use mathlib.Core.Path.{◌≡◌, refl, sym, ap, ◌∙◌}
use mathlib.Core.Logic.{◌≢◌, ⊎_elim}
use mathlib.Core.Bool.{true, false}
use mathlib.Core.List.{List, [], ◌∷◌, ◌++◌}
use Prim.Native.Nat.{ℕ, suc, ◌≤◌, ◌<◌}
use native.Mathlib.Omega.{arith}
use borrow.Author.Tests.{eqb-true, eqb-false, eq-eqb, ne_eqb}
use lib.Dec.{eqb}
use lib.ListN.{length, get_or}
use Rattle.views.specs.declared.View.{View}
use Rattle.std.specs.Prelude.{Option, Some, None}
use Rattle.views.specs.Lists.{id_of, find_of, no_view}
use Rattle.views.proofs.SetLaws.{known}
use Rattle.views.proofs.Members.{In, in-nil, in-cons}
use Rattle.wire.proofs.ReaderLaws.{length-views_in}
use Rattle.group_bytes.specs.Groups.{Ranges, made_of, views_made, place_of}

pub length-made : (r : Ranges) → length (views_made r) ≡ made_of r
length-made r = length-views_in r.list 0 (made_of r)

-- ---- where an identifier is

-- at its place stands a view of the identifier
pub place-id : (g : ℕ) (l : List View) → place_of g l < length l → id_of (get_or l (place_of g l) no_view) ≡ g
unfolding place_of
place-id g [] h = absurd (omega arith)
place-id g (v ∷ l) h =
    ⊎_elim (λ (e : eqb (id_of v) g ≡ true). rw e (eqb-true (id_of v) g e))
    (λ (e : eqb (id_of v) g ≡ false). let k : suc (place_of g l) < suc (length l) = rw e at h in rw e (place-id g l (omega arith)))
    (known (eqb (id_of v) g))

-- so two identifiers do not share a place
pub place-one : (g h : ℕ) (l : List View) → place_of g l < length l → place_of h l ≡ place_of g l → h ≡ g
place-one g h l i e =
    sym (place-id h l (rw e i)) ∙ ap (λ (k : ℕ). id_of (get_or l k no_view)) e ∙ place-id g l i

pub place_found : (g : ℕ) (l : List View) (v : View) → find_of g l ≡ Some v → (place_of g l < length l) × (get_or l (place_of g l) no_view ≡ v) × (id_of v ≡ g)
unfolding place_of find_of
place_found g [] v h = let z : ◌≡◌ {A = ℕ} 0 1 = cc in absurd (omega arith)
place_found g (x ∷ l) v h =
    ⊎_elim
    (λ (e : eqb (id_of x) g ≡ true).
    let f : ◌≡◌ {A = (Option View)} (Some x) (Some v) = rw e at h in
    let k : x ≡ v = cc in
    rw e (omega arith, k, sym (ap id_of k) ∙ eqb-true (id_of x) g e))
    (λ (e : eqb (id_of x) g ≡ false).
    let f : find_of g l ≡ Some v = rw e at h in
    let (i, j, k) = place_found g l v f in
    rw e (omega arith, j, k))
    (known (eqb (id_of x) g))

pub place-missing : (g : ℕ) (l : List View) → find_of g l ≡ None → place_of g l ≡ length l
unfolding place_of find_of
place-missing g [] h = refl
place-missing g (x ∷ l) h =
    ⊎_elim
    (λ (e : eqb (id_of x) g ≡ true). let f : ◌≡◌ {A = (Option View)} (Some x) None = rw e at h in let z : ◌≡◌ {A = ℕ} 0 1 = cc in absurd (omega arith))
    (λ (e : eqb (id_of x) g ≡ false). let f : find_of g l ≡ None = rw e at h in rw e (ap suc (place-missing g l f)))
    (known (eqb (id_of x) g))

pub place_in : (v : View) (l : List View) → In v l → place_of (id_of v) l < length l
unfolding place_of
place_in v [] i = absurd (in-nil i)
place_in v (x ∷ l) i =
    ⊎_elim (λ (e : eqb (id_of x) (id_of v) ≡ true). rw e (omega arith))
    (λ (e : eqb (id_of x) (id_of v) ≡ false).
    rw e (⊎_elim (λ (p : v ≡ x). absurd (eqb-false (id_of x) (id_of v) e (ap id_of (sym p)))) (λ (j : In v l). omega (arith, place_in v l j)) (in-cons i)))
    (known (eqb (id_of x) (id_of v)))

-- ---- a view more at the end

-- an identifier that was there is where it was
pub snoc-place-old : (g : ℕ) (l : List View) (w : View) → place_of g l < length l → place_of g (l ++ (w ∷ [])) ≡ place_of g l
unfolding place_of
snoc-place-old g [] w h = absurd (omega arith)
snoc-place-old g (x ∷ l) w h =
    ⊎_elim (λ (e : eqb (id_of x) g ≡ true). rw e)
    (λ (e : eqb (id_of x) g ≡ false). let k : suc (place_of g l) < suc (length l) = rw e at h in rw e (ap suc (snoc-place-old g l w (omega arith))))
    (known (eqb (id_of x) g))

-- the new one's is the last, and any other's is past it
pub snoc-place-new : (g : ℕ) (l : List View) (w : View) → place_of g l ≡ length l → id_of w ≡ g → place_of g (l ++ (w ∷ [])) ≡ length l
unfolding place_of
snoc-place-new g [] w h e = rw (eq-eqb (id_of w) g e)
snoc-place-new g (x ∷ l) w h e =
    ⊎_elim (λ (t : eqb (id_of x) g ≡ true). let k : ◌≡◌ {A = ℕ} 0 (suc (length l)) = rw t at h in absurd (omega arith))
    (λ (t : eqb (id_of x) g ≡ false). let k : suc (place_of g l) ≡ suc (length l) = rw t at h in rw t (ap suc (snoc-place-new g l w (omega arith) e)))
    (known (eqb (id_of x) g))

pub snoc-place-none : (g : ℕ) (l : List View) (w : View) → place_of g l ≡ length l → id_of w ≢ g → place_of g (l ++ (w ∷ [])) ≡ suc (length l)
unfolding place_of
snoc-place-none g [] w h n = rw (ne_eqb (id_of w) g n)
snoc-place-none g (x ∷ l) w h n =
    ⊎_elim (λ (t : eqb (id_of x) g ≡ true). let k : ◌≡◌ {A = ℕ} 0 (suc (length l)) = rw t at h in absurd (omega arith))
    (λ (t : eqb (id_of x) g ≡ false). let k : suc (place_of g l) ≡ suc (length l) = rw t at h in rw t (ap suc (snoc-place-none g l w (omega arith) n)))
    (known (eqb (id_of x) g))

-- no place is past the end
pub place-most : (g : ℕ) (l : List View) → place_of g l ≤ length l
unfolding place_of
place-most g [] = omega arith
place-most g (x ∷ l) =
    ⊎_elim (λ (t : eqb (id_of x) g ≡ true). rw t (omega arith)) (λ (t : eqb (id_of x) g ≡ false). rw t (omega (arith, place-most g l))) (known (eqb (id_of x) g))
