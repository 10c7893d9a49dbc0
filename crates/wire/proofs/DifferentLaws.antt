-- How many different identifiers two rising lists have: as many as there are views in both together.
use mathlib.Core.Path.{◌≡◌, refl, sym, ap, ◌∙◌}
use mathlib.Core.Logic.{⊎_elim}
use mathlib.Core.Bool.{true, false, cond, true≢false}
use mathlib.Core.List.{List, [], ◌∷◌, ◌++◌, append-nil}
use Prim.Native.Nat.{ℕ, suc, ◌≤◌}
use native.Mathlib.Omega.{arith}
use lib.Dec.{eqb}
use lib.ListN.{length}
use borrow.Author.Tests.{eqb-false, eq-eqb, ne_eqb}
use Rattle.views.specs.declared.View.{View}
use Rattle.views.specs.Lists.{id_of, rises_above, is_rising, union_of}
use Rattle.views.proofs.SetLaws.{known}
use Rattle.views.proofs.ListLaws.{rises-front, rises-cons, rising-tail, union-ind}
use Rattle.wire.specs.Merges.{has_id, different_in}

-- ---- which identifiers a list has

-- none that is not above what the list rises above
has-below : (g h : ℕ) (l : List View) → g ≤ h → rises_above h l ≡ true → has_id g l ≡ false
unfolding has_id
has-below g h [] i r = refl
has-below g h (v ∷ l) i r =
    let f = rises-front h v l r in
    rw (ne_eqb (id_of v) g (λ e. omega arith)) (has-below g (id_of v) l (omega arith) f.1)

has-append : (g : ℕ) (k l : List View) → has_id g k ≡ false → has_id g l ≡ false → has_id g (k ++ l) ≡ false
unfolding has_id
has-append g [] l a b = b
has-append g (v ∷ k) l a b =
    ⊎_elim (λ (e : eqb (id_of v) g ≡ true). absurd (true≢false (rw e at a)))
    (λ (e : eqb (id_of v) g ≡ false). rw e (has-append g k l (rw e at a) b)) (known (eqb (id_of v) g))

-- of a view in the middle, its own
has-middle : (g : ℕ) (k : List View) (y : View) (l : List View) → has_id g (k ++ y ∷ l) ≡ cond (eqb (id_of y) g) true (has_id g (k ++ l))
unfolding has_id
has-middle g [] y l = refl
has-middle g (v ∷ k) y l =
    ⊎_elim (λ (e : eqb (id_of v) g ≡ true). ⊎_elim (λ (f : eqb (id_of y) g ≡ true). rw (e, f)) (λ (f : eqb (id_of y) g ≡ false). rw (e, f)) (known (eqb (id_of y) g)))
    (λ (e : eqb (id_of v) g ≡ false). rw e (has-middle g k y l)) (known (eqb (id_of v) g))

-- ---- how many they are

-- one more by a view in the middle whose identifier no other has
different-middle : (k : List View) (y : View) (l : List View) → has_id (id_of y) k ≡ false → has_id (id_of y) l ≡ false
    → different_in (k ++ y ∷ l) ≡ suc (different_in (k ++ l))
unfolding different_in has_id
different-middle [] y l a b = rw b
different-middle (v ∷ k) y l a b =
    ⊎_elim (λ (e : eqb (id_of v) (id_of y) ≡ true). absurd (true≢false (rw e at a)))
    (λ (e : eqb (id_of v) (id_of y) ≡ false).
    let r = different-middle k y l (rw e at a) b in
    let m : has_id (id_of v) (k ++ y ∷ l) ≡ has_id (id_of v) (k ++ l) =
    has-middle (id_of v) k y l ∙ rw (ne_eqb (id_of y) (id_of v) (λ g. eqb-false (id_of v) (id_of y) e (sym g))) in
    ⊎_elim (λ (t : has_id (id_of v) (k ++ l) ≡ true). rw (m, t) r) (λ (t : has_id (id_of v) (k ++ l) ≡ false). rw (m, t) (ap suc r)) (known (has_id (id_of v) (k ++ l))))
    (known (eqb (id_of v) (id_of y)))

-- in a rising list each view has one of its own
rising-different : (l : List View) → is_rising l ≡ true → length l ≡ different_in l
unfolding is_rising different_in
rising-different [] r = refl
rising-different (v ∷ l) r = rw (has-below (id_of v) (id_of v) l (omega arith) r) (ap suc (rising-different l (rising-tail v l r)))

pub union-different : (k l : List View) → is_rising k ≡ true → is_rising l ≡ true → length (union_of k l) ≡ different_in (k ++ l)
unfolding is_rising different_in
union-different = union-ind (λ k l m. is_rising k ≡ true → is_rising l ≡ true → length m ≡ different_in (k ++ l))
    (λ l a b. rising-different l b)
    (λ k a b. rw (append-nil k) (rising-different k a))
    (λ x k y l m h r a b.
    ap suc (r a (rising-tail y l b))
    ∙ sym (different-middle (x ∷ k) y l (has-below (id_of y) (id_of y) (x ∷ k) (omega arith) (rises-cons (id_of y) x k h a)) (has-below (id_of y) (id_of y) l (omega arith) b)))
    (λ x k y l m h r a b.
    rw (has-middle (id_of x) k y l, eq-eqb (id_of y) (id_of x) (sym h))
    (ap suc (r (rising-tail x k a) (rising-tail y l b))
    ∙ sym (different-middle k y l (has-below (id_of y) (id_of x) k (omega arith) a) (has-below (id_of y) (id_of y) l (omega arith) b))))
    (λ x k y l m h r a b.
    rw (has-append (id_of x) k (y ∷ l) (has-below (id_of x) (id_of x) k (omega arith) a) (has-below (id_of x) (id_of x) (y ∷ l) (omega arith) (rises-cons (id_of x) y l h b)))
    (ap suc (r (rising-tail x k a) b)))
