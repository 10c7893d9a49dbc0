-- What a walk over views in bytes does at each, n views from a place on of which i are passed; and a told's count by the two
-- halves of its eight bytes.
use mathlib.Core.Path.{◌≡◌, sym, ap, ◌∙◌}
use mathlib.Core.Bool.{true, false}
use mathlib.Core.List.{List, ◌∷◌}
use Prim.Native.Nat.{ℕ, suc, ◌+◌, ◌-◌, ◌*◌, ◌<◌, ◌≤◌}
use native.Mathlib.Omega.{arith}
use borrow.Author.Tests.{lt-ltb, le-ltb, lt-leb, le-leb, eq-eqb, ne_eqb}
use lib.Dec.{leb}
use lib.ListN.{get_or}
use Rattle.views.specs.declared.View.{View}
use Rattle.std.specs.Prelude.{Some, None}
use Rattle.views.specs.Limits.{max_ordered}
use Rattle.views.specs.Lists.{id_of, is_rising, rises_above, find_of}
use Rattle.views.specs.Sets.{both}
use Rattle.wire.specs.Format.{some_empty}
use Rattle.wire.specs.Reader.{view_in, views_in}

-- ---- a walk over views

module _ (b : List ℕ) (at n : ℕ) where
  first : at + 5 * 0 ≡ at
  first = omega arith

  pub none_passed : n - 0 ≡ n
  none_passed = omega arith

  pub rows_start : views_in b at n ≡ views_in b (at + 5 * 0) (n - 0)
  rows_start = rw (first, none_passed)

module _ (b : List ℕ) (at n i : ℕ) (h : i < n) where
  left : n - i ≡ suc (n - (i + 1))
  left = omega arith

  next : at + 5 * i + 5 ≡ at + 5 * (i + 1)
  next = omega arith

  pub rows-turn : views_in b (at + 5 * i) (n - i) ≡ view_in b (at + 5 * i) ∷ views_in b (at + 5 * (i + 1)) (n - (i + 1))
  unfolding views_in
  rows-turn = rw (left, next)

  pub empty-here : get_or b (at + 5 * i + 4) 0 ≡ 0 → some_empty (views_in b (at + 5 * i) (n - i)) ≡ true
  unfolding some_empty
  empty-here e = rw (rows-turn, eq-eqb _ _ e)

  pub empty-on : (get_or b (at + 5 * i + 4) 0 ≡ 0 → ⊥)
      → some_empty (views_in b (at + 5 * i) (n - i)) ≡ some_empty (views_in b (at + 5 * (i + 1)) (n - (i + 1)))
  unfolding some_empty
  empty-on e = rw (rows-turn, ne_eqb _ _ e)

  module _ (v : View) (e : v ≡ view_in b (at + 5 * i)) where
    -- the view's identifier, as it is read from the bytes
    read : id_of v ≡ id_of (view_in b (at + 5 * i))
    read = ap id_of e

    pub rises-stop : (g : ℕ) → id_of v ≤ g → rises_above g (views_in b (at + 5 * i) (n - i)) ≡ false
    unfolding rises_above
    rises-stop g k = rw (rows-turn, ← read, le-ltb g (id_of v) k)

    pub rises-on : (g : ℕ) → g < id_of v → rises_above g (views_in b (at + 5 * i) (n - i)) ≡ rises_above (id_of v) (views_in b (at + 5 * (i + 1)) (n - (i + 1)))
    unfolding rises_above
    rises-on g k = rw (rows-turn, ← read, lt-ltb g (id_of v) k)

    pub find-here : (g : ℕ) → id_of v ≡ g → find_of g (views_in b (at + 5 * i) (n - i)) ≡ Some v
    unfolding find_of
    find-here g k = rw (rows-turn, eq-eqb (id_of (view_in b (at + 5 * i))) g (sym read ∙ k)) (ap (λ (w : View). Some w) (sym e))

    pub find-on : (g : ℕ) → (id_of v ≡ g → ⊥) → find_of g (views_in b (at + 5 * i) (n - i)) ≡ find_of g (views_in b (at + 5 * (i + 1)) (n - (i + 1)))
    unfolding find_of
    find-on g k = rw (rows-turn, ← read, ne_eqb (id_of v) g k)

module _ (b : List ℕ) (at n : ℕ) (z : n ≡ 0) where
  pub empty-end : some_empty (views_in b at n) ≡ false
  unfolding some_empty views_in
  empty-end = rw z

  pub rises-end : (g : ℕ) → rises_above g (views_in b at n) ≡ true
  unfolding rises_above views_in
  rises-end g = rw z

  pub find-end : (g : ℕ) → find_of g (views_in b at n) ≡ None
  unfolding find_of views_in
  find-end g = rw z

  pub rising_none : is_rising (views_in b at n) ≡ true
  unfolding is_rising views_in
  rising_none = rw z

pub rising-first : (b : List ℕ) (at n k : ℕ) → n ≡ suc k → is_rising (views_in b at n) ≡ rises_above (id_of (view_in b at)) (views_in b (at + 5) k)
unfolding is_rising views_in
rising-first b at n k e = rw e

-- ---- a told's count x, by its halves

module _ (x high low : ℕ) (sum : x ≡ high * 4294967296 + low) where
  pub told-high : (high ≡ 0 → ⊥) → both (leb 1 x) (leb x max_ordered) ≡ false
  told-high h =
      let some : 0 < high = omega (arith, h) in
      rw (le-leb 1 x (omega arith), lt-leb x max_ordered (omega arith))
