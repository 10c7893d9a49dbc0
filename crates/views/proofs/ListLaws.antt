-- Laws of lists of views: rising, find, insert, union and above, on plain lists. They hold of every list unless a law asks for a rising one.
use mathlib.Core.Path.{◌≡◌, refl, sym, ap, ◌∙◌}
use mathlib.Core.Logic.{◌⊎◌, inl, inr, ⊎_elim}
use mathlib.Core.Bool.{true, false, cond}
use mathlib.Core.List.{List, [], ◌∷◌}
use Prim.Native.Nat.{ℕ, ◌+◌, ◌<◌, ◌≤◌, max}
use native.Mathlib.Omega.{arith}
use lib.Dec.{eqb, ltb}
use lib.ListN.{length}
use borrow.Author.Tests.{lt-ltb, le-ltb, ltb-true, ltb-false, eqb-true, eqb-false, eq-eqb, ne_eqb}
use Rattle.views.specs.declared.View.{View}
use Rattle.std.specs.Prelude.{Option, Some, None}
use Rattle.views.specs.Lists.{id_of, rises_above, is_rising, find_of, insert_of, among, union_of, above_of}
use Rattle.views.proofs.SetLaws.{known, both_true}
use Rattle.views.proofs.Members.{In, top, pop, in-nil, in-cons, in_top}

-- ---- rising

-- a list that rises above g, by its front
pub rises-front : (g : ℕ) (v : View) (l : List View) → rises_above g (v ∷ l) ≡ true → (g < id_of v) × (rises_above (id_of v) l ≡ true)
unfolding rises_above
rises-front g v l h = let b = both_true (ltb g (id_of v)) (rises_above (id_of v) l) h in (ltb-true g (id_of v) b.0, b.1)

pub rises-cons : (g : ℕ) (v : View) (l : List View) → g < id_of v → rises_above (id_of v) l ≡ true → rises_above g (v ∷ l) ≡ true
unfolding rises_above
rises-cons g v l h r = rw (lt-ltb g (id_of v) h) r

pub rises-less : (g h : ℕ) (l : List View) → g ≤ h → rises_above h l ≡ true → rises_above g l ≡ true
unfolding rises_above
rises-less g h [] i r = refl
rises-less g h (v ∷ l) i r = let f = rises-front h v l r in rises-cons g v l (omega arith) f.1

pub rises-all : (g : ℕ) (l : List View) → rises_above g l ≡ true → (v : View) → In v l → g < id_of v
rises-all g [] r v i = absurd (in-nil i)
rises-all g (x ∷ l) r v i =
    let f = rises-front g x l r in
    ⊎_elim (λ (e : v ≡ x). omega (arith, ap id_of e)) (λ (j : In v l). omega (arith, rises-all (id_of x) l f.1 v j)) (in-cons i)

pub rises-rising : (g : ℕ) (l : List View) → rises_above g l ≡ true → is_rising l ≡ true
unfolding is_rising
rises-rising g [] r = refl
rises-rising g (v ∷ l) r = (rises-front g v l r).1

pub rising-tail : (v : View) (l : List View) → is_rising (v ∷ l) ≡ true → is_rising l ≡ true
unfolding is_rising
rising-tail v l h = rises-rising (id_of v) l h

pub rising-unique : (l : List View) → is_rising l ≡ true → (v w : View) → In v l → In w l → id_of v ≡ id_of w → v ≡ w
unfolding is_rising
rising-unique [] h v w i j e = absurd (in-nil i)
rising-unique (x ∷ l) h v w i j e =
    ⊎_elim
    (λ (p : v ≡ x).
    ⊎_elim (λ (q : w ≡ x). p ∙ sym q) (λ (q : In w l). absurd (omega (arith, ap id_of p, rises-all (id_of x) l h w q))) (in-cons j))
    (λ (p : In v l).
    ⊎_elim (λ (q : w ≡ x). absurd (omega (arith, ap id_of q, rises-all (id_of x) l h v p))) (λ (q : In w l). rising-unique l (rising-tail x l h) v w p q e) (in-cons j))
    (in-cons i)

-- ---- find

pub find-in : (g : ℕ) (l : List View) (v : View) → find_of g l ≡ Some v → In v l × (id_of v ≡ g)
unfolding find_of
find-in g [] v h = let z : ◌≡◌ {A = ℕ} 0 1 = cc in absurd (omega arith)
find-in g (x ∷ l) v h =
    ⊎_elim
    (λ (e : eqb (id_of x) g ≡ true). let f : ◌≡◌ {A = (Option View)} (Some x) (Some v) = rw e at h in let k : v ≡ x = cc in (in_top k, ap id_of k ∙ eqb-true (id_of x) g e))
    (λ (e : eqb (id_of x) g ≡ false). let f : find_of g l ≡ Some v = rw e at h in let r = find-in g l v f in (pop r.0, r.1))
    (known (eqb (id_of x) g))

pub find-missing : (g : ℕ) (l : List View) → find_of g l ≡ None → (v : View) → In v l → id_of v ≡ g → ⊥
unfolding find_of
find-missing g [] h v i e = in-nil i
find-missing g (x ∷ l) h v i e =
    ⊎_elim
    (λ (t : eqb (id_of x) g ≡ true). let f : ◌≡◌ {A = (Option View)} (Some x) None = rw t at h in let z : ◌≡◌ {A = ℕ} 0 1 = cc in omega arith)
    (λ (t : eqb (id_of x) g ≡ false).
    let f : find_of g l ≡ None = rw t at h in
    ⊎_elim (λ (p : v ≡ x). eqb-false (id_of x) g t (sym (ap id_of p) ∙ e)) (λ (j : In v l). find-missing g l f v j e) (in-cons i))
    (known (eqb (id_of x) g))

-- ---- above

pub above_in : (g : ℕ) (l : List View) (w : View) → In w (above_of g l) → In w l × (g < id_of w)
unfolding above_of
above_in g [] w i = absurd (in-nil i)
above_in g (v ∷ l) w i =
    ⊎_elim
    (λ (t : ltb g (id_of v) ≡ true).
    let j : In w (v ∷ above_of g l) = rw t at i in
    ⊎_elim (λ (e : w ≡ v). (in_top e, omega (arith, ap id_of e, ltb-true g (id_of v) t))) (λ (k : In w (above_of g l)). let r = above_in g l w k in (pop r.0, r.1)) (in-cons j))
    (λ (t : ltb g (id_of v) ≡ false). let j : In w (above_of g l) = rw t at i in let r = above_in g l w j in (pop r.0, r.1))
    (known (ltb g (id_of v)))

pub above-keep : (g : ℕ) (l : List View) (w : View) → In w l → g < id_of w → In w (above_of g l)
unfolding above_of
above-keep g [] w i h = absurd (in-nil i)
above-keep g (v ∷ l) w i h =
    ⊎_elim
    (λ (t : ltb g (id_of v) ≡ true). rw t (⊎_elim (λ (e : w ≡ v). in_top e) (λ (j : In w l). pop (above-keep g l w j h)) (in-cons i)))
    (λ (t : ltb g (id_of v) ≡ false).
    rw t (⊎_elim (λ (e : w ≡ v). absurd (omega (arith, ap id_of e, ltb-false g (id_of v) t))) (λ (j : In w l). above-keep g l w j h) (in-cons i)))
    (known (ltb g (id_of v)))

-- what is kept of a list that rises above h rises above both
pub above-rises-both : (g h : ℕ) (l : List View) → rises_above h l ≡ true → rises_above (max g h) (above_of g l) ≡ true
unfolding above_of rises_above
above-rises-both g h [] r = refl
above-rises-both g h (v ∷ l) r =
    let f = rises-front h v l r in
    let k = above-rises-both g (id_of v) l f.1 in
    ⊎_elim
    (λ (t : ltb g (id_of v) ≡ true).
    let u : g < id_of v = ltb-true g (id_of v) t in
    rw t (rises-cons (max g h) v (above_of g l) (omega arith) (rises-less (id_of v) (max g (id_of v)) (above_of g l) (omega arith) k)))
    (λ (t : ltb g (id_of v) ≡ false). rw t (rises-less (max g h) (max g (id_of v)) (above_of g l) (omega arith) k))
    (known (ltb g (id_of v)))

pub above-rises : (g h : ℕ) (l : List View) → rises_above h l ≡ true → rises_above g (above_of g l) ≡ true
above-rises g h l r = rises-less g (max g h) (above_of g l) (omega arith) (above-rises-both g h l r)

pub length_above : (g : ℕ) (l : List View) → length (above_of g l) ≤ length l
unfolding above_of
length_above g [] = omega arith
length_above g (v ∷ l) =
    ⊎_elim (λ (t : ltb g (id_of v) ≡ true). rw t (omega (arith, length_above g l))) (λ (t : ltb g (id_of v) ≡ false). rw t (omega (arith, length_above g l))) (known (ltb g (id_of v)))

-- ---- union

pub union-nil : (k : List View) → union_of k [] ≡ k
unfolding union_of among
union-nil [] = refl
union-nil (x ∷ k) = ap (λ (l : List View). x ∷ l) (union-nil k)

-- two lists at their fronts
pub union-front : (x : View) (k : List View) (y : View) (l : List View)
    → union_of (x ∷ k) (y ∷ l) ≡ cond (ltb (id_of y) (id_of x)) (y ∷ union_of (x ∷ k) l) (x ∷ union_of k (cond (eqb (id_of x) (id_of y)) l (y ∷ l)))
unfolding union_of among
union-front x k y l = refl

-- what holds of a union holds by its fronts: the second's is lower, both have one identifier, or the first's is lower
module _ (P : List View → List View → List View → Type 0)
    (none : (l : List View) → P [] l l)
    (left : (k : List View) → P k [] k)
    (lower : (x : View) (k : List View) (y : View) (l m : List View) → id_of y < id_of x → P (x ∷ k) l m → P (x ∷ k) (y ∷ l) (y ∷ m))
    (same : (x : View) (k : List View) (y : View) (l m : List View) → id_of x ≡ id_of y → P k l m → P (x ∷ k) (y ∷ l) (x ∷ m))
    (higher : (x : View) (k : List View) (y : View) (l m : List View) → id_of x < id_of y → P k (y ∷ l) m → P (x ∷ k) (y ∷ l) (x ∷ m)) where
  among-ind : (x : View) (k : List View) → ((l : List View) → P k l (union_of k l)) → (l : List View) → P (x ∷ k) l (union_of (x ∷ k) l)
  among-ind x k h [] = rw (union-nil (x ∷ k)) (left (x ∷ k))
  among-ind x k h (y ∷ l) =
      let r = among-ind x k h l in
      ⊎_elim (λ (t : ltb (id_of y) (id_of x) ≡ true). rw (union-front x k y l, t) (lower x k y l (union_of (x ∷ k) l) (ltb-true _ _ t) r))
      (λ (t : ltb (id_of y) (id_of x) ≡ false).
      ⊎_elim (λ (u : eqb (id_of x) (id_of y) ≡ true). rw (union-front x k y l, t, u) (same x k y l (union_of k l) (eqb-true _ _ u) (h l)))
      (λ (u : eqb (id_of x) (id_of y) ≡ false).
      rw (union-front x k y l, t, u) (higher x k y l (union_of k (y ∷ l)) (omega (arith, ltb-false (id_of y) (id_of x) t, eqb-false (id_of x) (id_of y) u)) (h (y ∷ l))))
      (known (eqb (id_of x) (id_of y))))
      (known (ltb (id_of y) (id_of x)))

  pub union-ind : (k l : List View) → P k l (union_of k l)
  unfolding union_of
  union-ind [] l = none l
  union-ind (x ∷ k) l = among-ind x k (λ (m : List View). union-ind k m) l

pub union-in : (w : View) (k l : List View) → In w (union_of k l) → In w k ⊎ In w l
union-in w = union-ind (λ k l m. In w m → In w k ⊎ In w l)
    (λ l i. inr i)
    (λ k i. inl i)
    (λ x k y l m h r i. ⊎_elim (λ (e : w ≡ y). inr (in_top e)) (λ (j : In w m). ⊎_elim (λ (a : In w (x ∷ k)). inl a) (λ (b : In w l). inr (pop b)) (r j)) (in-cons i))
    (λ x k y l m h r i. ⊎_elim (λ (e : w ≡ x). inl (in_top e)) (λ (j : In w m). ⊎_elim (λ (a : In w k). inl (pop a)) (λ (b : In w l). inr (pop b)) (r j)) (in-cons i))
    (λ x k y l m h r i. ⊎_elim (λ (e : w ≡ x). inl (in_top e)) (λ (j : In w m). ⊎_elim (λ (a : In w k). inl (pop a)) (λ (b : In w (y ∷ l)). inr b) (r j)) (in-cons i))

pub union_left : (w : View) (k l : List View) → In w k → In w (union_of k l)
union_left w = union-ind (λ k l m. In w k → In w m)
    (λ l i. absurd (in-nil i))
    (λ k i. i)
    (λ x k y l m h r i. pop (r i))
    (λ x k y l m h r i. ⊎_elim (λ (e : w ≡ x). in_top e) (λ (j : In w k). pop (r j)) (in-cons i))
    (λ x k y l m h r i. ⊎_elim (λ (e : w ≡ x). in_top e) (λ (j : In w k). pop (r j)) (in-cons i))

-- a view of the second list is there, or the first has its identifier
abbrev Covered : View → List View → List View → Type 0
Covered w k m = In w m ⊎ ((v : View) × In v k × (id_of v ≡ id_of w))

pub union_right : (w : View) (k l : List View) → In w l → In w (union_of k l) ⊎ ((v : View) × In v k × (id_of v ≡ id_of w))
union_right w = union-ind (λ k l m. In w l → Covered w k m)
    (λ l i. inl i)
    (λ k i. absurd (in-nil i))
    (λ x k y l m h r i. ⊎_elim (λ (e : w ≡ y). inl (in_top e)) (λ (j : In w l). ⊎_elim (λ (a : In w m). inl (pop a)) (λ b. inr b) (r j)) (in-cons i))
    (λ x k y l m h r i. ⊎_elim (λ (e : w ≡ y). inr (x, top, h ∙ sym (ap id_of e))) (λ (j : In w l). ⊎_elim (λ (a : In w m). inl (pop a)) (λ b. inr (b.0, pop b.1, b.2)) (r j)) (in-cons i))
    (λ x k y l m h r i. ⊎_elim (λ (a : In w m). inl (pop a)) (λ b. inr (b.0, pop b.1, b.2)) (r i))

pub union-rises : (g : ℕ) (k l : List View) → rises_above g k ≡ true → rises_above g l ≡ true → rises_above g (union_of k l) ≡ true
union-rises g k l a b = union-ind (λ k l m. (g : ℕ) → rises_above g k ≡ true → rises_above g l ≡ true → rises_above g m ≡ true)
    (λ l g a b. b)
    (λ k g a b. a)
    (λ x k y l m h r g a b. let f = rises-front g y l b in rises-cons g y m f.0 (r (id_of y) (rises-cons (id_of y) x k h (rises-front g x k a).1) f.1))
    (λ x k y l m h r g a b. let f = rises-front g x k a in rises-cons g x m f.0 (r (id_of x) f.1 (rises-less (id_of x) (id_of y) l (omega arith) (rises-front g y l b).1)))
    (λ x k y l m h r g a b. let f = rises-front g x k a in rises-cons g x m f.0 (r (id_of x) f.1 (rises-cons (id_of x) y l h (rises-front g y l b).1)))
    k l g a b

pub length_union : (k l : List View) → length (union_of k l) ≤ length k + length l
length_union = union-ind (λ k l m. length m ≤ length k + length l)
    (λ l. omega arith)
    (λ k. omega arith)
    (λ x k y l m h r. omega arith)
    (λ x k y l m h r. omega arith)
    (λ x k y l m h r. omega arith)

-- ---- insert: the union with a list of one view

pub insert-union : (x : View) (l : List View) → insert_of x l ≡ union_of l (x ∷ [])
unfolding insert_of
insert-union x [] = unfold union_of in refl
insert-union x (y ∷ l) =
    ⊎_elim
    (λ (t : ltb (id_of y) (id_of x) ≡ true).
    let h : id_of y < id_of x = ltb-true _ _ t in
    rw (t, union-front y l x [], le-ltb (id_of x) (id_of y) (omega arith), ne_eqb (id_of y) (id_of x) (λ e. omega arith), insert-union x l))
    (λ (t : ltb (id_of y) (id_of x) ≡ false).
    let h : id_of x ≤ id_of y = ltb-false _ _ t in
    ⊎_elim
    (λ (u : eqb (id_of x) (id_of y) ≡ true).
    let e : id_of x ≡ id_of y = eqb-true _ _ u in
    rw (t, u, union-front y l x [], le-ltb (id_of x) (id_of y) (omega arith), eq-eqb (id_of y) (id_of x) (sym e), union-nil l))
    (λ (u : eqb (id_of x) (id_of y) ≡ false).
    let i : id_of x < id_of y = omega (arith, eqb-false (id_of x) (id_of y) u) in
    rw (t, u, union-front y l x [], lt-ltb (id_of x) (id_of y) i, union-nil (y ∷ l)))
    (known (eqb (id_of x) (id_of y))))
    (known (ltb (id_of y) (id_of x)))

pub insert-in : (x : View) (l : List View) (w : View) → In w (insert_of x l) → (w ≡ x) ⊎ In w l
insert-in x l w i =
    ⊎_elim (λ (j : In w l). inr j) (λ (j : In w (x ∷ [])). ⊎_elim (λ (e : w ≡ x). inl e) (λ (n : In w []). absurd (in-nil n)) (in-cons j))
    (union-in w l (x ∷ []) (rw (insert-union x l) at i))

pub insert-keep : (x : View) (l : List View) (w : View) → In w l → In w (insert_of x l)
insert-keep x l w i = rw (insert-union x l) (union_left w l (x ∷ []) i)

-- its identifier is there afterwards
pub insert-there : (x : View) (l : List View) → (v : View) × In v (insert_of x l) × (id_of v ≡ id_of x)
insert-there x l =
    ⊎_elim (λ (i : In x (union_of l (x ∷ []))). (x, rw (insert-union x l) i, refl))
    (λ (r : (v : View) × In v l × (id_of v ≡ id_of x)). (r.0, insert-keep x l r.0 r.1, r.2))
    (union_right x l (x ∷ []) top)

pub insert-rises : (g : ℕ) (x : View) (l : List View) → rises_above g l ≡ true → g < id_of x → rises_above g (insert_of x l) ≡ true
unfolding rises_above
insert-rises g x l r h = rw (insert-union x l) (union-rises g l (x ∷ []) r (rises-cons g x [] h refl))
