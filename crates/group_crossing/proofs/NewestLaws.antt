-- What the code finds from the last view made down is the newest attempted view before the identifier.
use mathlib.Core.Path.{◌≡◌, refl, ap, ◌∙◌}
use mathlib.Core.Bool.{Bool, true, false, cond}
use mathlib.Core.List.{List, ◌∷◌}
use Prim.Native.Nat.{ℕ, zero, suc, ◌-◌, ◌*◌, ◌<◌}
use native.Mathlib.Omega.{arith}
use lib.Dec.{ltb}
use Rattle.views.specs.declared.View.{View}
use Rattle.std.specs.Prelude.{Option, Some, None}
use Rattle.views.specs.Sets.{both}
use Rattle.views.specs.Lists.{id_of}
use Rattle.views.specs.Sizes.{view_size}
use Rattle.wire.specs.Reader.{view_in, views_in}
use Rattle.rules.specs.Crossing.{newest_first, picked, first_of, newest_before}
use Rattle.group_bytes.specs.Groups.{Ranges, made_of, marks_of, marks_in, ranges_sound}
use Rattle.group_bytes.specs.Crossing.{newest_in}
use Rattle.group_crossing.specs.QueryParts.{earlier_at, last_below}
use Rattle.group_crossing.proofs.QueryLaws.{newest-snoc, last_view, mark-at}

first_by : (b : Bool) (v : View) (l : List View) → first_of (cond b (v ∷ l) l) ≡ cond b (Some v) (first_of l)
first_by true v l = refl
first_by false v l = refl

below-first : (list : List ℕ) (F : View → Bool) (t : ℕ → Bool) (n : ℕ) → ((i : ℕ) → i < n → F (view_in list (view_size * i)) ≡ t i)
    → first_of (newest_first F (views_in list 0 n)) ≡ last_below list t n
unfolding last_below newest_first views_in
below-first list F t zero h = refl
below-first list F t (suc n) h =
    let v = view_in list (view_size * n) in
    let l = newest_first F (views_in list 0 n) in
    ap (λ (k : List View). first_of (newest_first F k)) (last_view list n)
    ∙ ap (λ (k : List View). first_of k) (newest-snoc F (views_in list 0 n) v) ∙ first_by (F v) v l
    ∙ ap (λ (b : Bool). cond b (Some v) (first_of l)) (h n (omega arith))
    ∙ ap (λ (k : Option View). cond (t n) (Some v) k) (below-first list F t n (λ i j. h i (omega arith)))

pub newest-below : (r : Ranges) → ranges_sound r ≡ true → (g : ℕ) → newest_in r g ≡ last_below r.list (earlier_at r.list (marks_of r) g) (made_of r)
unfolding newest_in newest_before picked earlier_at
newest-below r s g =
    below-first r.list (λ v. both (marks_in r (id_of v)) (ltb (id_of v) g)) _ (made_of r)
    (λ i h. ap (λ (b : Bool). both b (ltb (id_of (view_in r.list (view_size * i))) g)) (mark-at r s i h))

-- ---- turns of the loop, downwards

module _ (list : List ℕ) (t : ℕ → Bool) where
  pub last_found : (i : ℕ) → 0 < i → t (i - 1) ≡ true → last_below list t i ≡ Some (view_in list (view_size * (i - 1)))
  unfolding last_below
  last_found zero h e = absurd (omega arith)
  last_found (suc i) h e = let k : suc i - 1 ≡ i = omega arith in let f : t i ≡ true = rw k at e in rw (k, f)

  pub last_on : (i : ℕ) → 0 < i → t (i - 1) ≡ false → last_below list t i ≡ last_below list t (i - 1)
  unfolding last_below
  last_on zero h e = absurd (omega arith)
  last_on (suc i) h e = let k : suc i - 1 ≡ i = omega arith in let f : t i ≡ false = rw k at e in rw (k, f)

  pub last_none : (i : ℕ) → i ≡ 0 → last_below list t i ≡ None
  unfolding last_below
  last_none i e = rw e
