-- Laws of numerals as the code reads them: a digit at a time, with a test before each product.
use mathlib.Core.Path.{◌≡◌, refl, ◌∙◌}
use mathlib.Core.Logic.{⊎_elim}
use mathlib.Core.Bool.{true, false, cond, not}
use mathlib.Core.List.{List, [], ◌∷◌}
use Prim.Native.Nat.{ℕ, suc, ◌+◌, ◌-◌, ◌*◌, ◌<◌, ◌≤◌}
use native.Mathlib.Numerals.{add-one}
use native.Mathlib.Omega.{arith}
use lib.Dec.{eqb, leb}
use lib.ListN.{length, get_or, drop}
use lib.Seq.{drop-cons, drop-length}
use borrow.Author.Tests.{le-leb, lt-leb, eqb-true}
use Rattle.views.specs.Sets.{both}
use Rattle.views.proofs.SetLaws.{known}
use Rattle.std.proofs.Common.{Option, Some, None}
use Rattle.bench_lines.specs.Words.{space, place_of}
use Rattle.bench_lines.specs.Numerals.{is_digit, digits_only, begun, value_from, numeral_of}
use Rattle.bench_lines.specs.TextParts.{within}
use Rattle.std.specs.Char.{is_ascii_digit}

-- ---- how a word begins

pub begun-empty : (w : List ℕ) → length w ≡ 0 → begun w ≡ false
unfolding begun
begun-empty [] e = refl
begun-empty (c ∷ w) e = absurd (omega arith)

pub begun-one : (w : List ℕ) → length w ≡ 1 → begun w ≡ true
unfolding begun
begun-one [] e = absurd (omega arith)
begun-one (c ∷ []) e = refl
begun-one (c ∷ d ∷ w) e = absurd (omega arith)

pub begun_more : (w : List ℕ) → 1 < length w → begun w ≡ not (eqb (get_or w 0 0) 48)
unfolding begun
begun_more [] h = absurd (omega arith)
begun_more (c ∷ []) h = absurd (omega arith)
begun_more (c ∷ d ∷ w) h = refl

-- ---- the digits

-- what the digits w behind the number x say, at most max
unfoldable pub rest_of : ℕ → ℕ → List ℕ → Option ℕ
rest_of max x w = cond (both (digits_only w) (leb (value_from x w) max)) (Some (value_from x w)) None

pub numeral-unbegun : (max : ℕ) (w : List ℕ) → begun w ≡ false → numeral_of max w ≡ None
unfolding numeral_of
numeral-unbegun max w e = rw e

pub numeral-begun : (max : ℕ) (w : List ℕ) → begun w ≡ true → numeral_of max w ≡ rest_of max 0 w
unfolding numeral_of rest_of
numeral-begun max w e = rw e

-- digits only add to a number
value_grows : (x : ℕ) (w : List ℕ) → x ≤ value_from x w
unfolding value_from
value_grows x [] = omega arith
value_grows x (c ∷ w) = omega (arith, value_grows (x * 10 + (c - 48)) w)

rest-digit : (max x c : ℕ) (w : List ℕ) → is_digit c ≡ true → rest_of max x (c ∷ w) ≡ rest_of max (x * 10 + (c - 48)) w
unfolding rest_of digits_only value_from
rest-digit max x c w e = rw e

rest-other : (max x c : ℕ) (w : List ℕ) → is_digit c ≡ false → rest_of max x (c ∷ w) ≡ None
unfolding rest_of digits_only
rest-other max x c w e = rw e

rest-large : (max x : ℕ) (w : List ℕ) → max < x → rest_of max x w ≡ None
unfolding rest_of
rest-large max x w h =
    let l : leb (value_from x w) max ≡ false = lt-leb (value_from x w) max (omega (arith, value_grows x w)) in
    ⊎_elim (λ (e : digits_only w ≡ true). rw (e, l)) (λ (e : digits_only w ≡ false). rw e) (known (digits_only w))

-- ---- a turn of the loop, at place i of the word w

-- a digit by the standard library's test
pub digit-is : (c : ℕ) → is_ascii_digit c ≡ is_digit c
digit-is c =
    ⊎_elim (λ (e : leb 48 c ≡ true). rw e)
    (λ (e : leb 48 c ≡ false). rw e)
    (known (leb 48 c))

pub turn-other : (max x i : ℕ) (w : List ℕ) → i < length w → is_digit (get_or w i 0) ≡ false → rest_of max x (drop i w) ≡ None
turn-other max x i w h e = rw (drop-cons w i 0 h) (rest-other max x (get_or w i 0) (drop (suc i) w) e)

pub turn-digit : (max x i : ℕ) (w : List ℕ) → i < length w → is_digit (get_or w i 0) ≡ true
    → rest_of max x (drop i w) ≡ rest_of max (x * 10 + (get_or w i 0 - 48)) (drop (i + 1) w)
turn-digit max x i w h e = rw (add-one i, drop-cons w i 0 h) (rest-digit max x (get_or w i 0) (drop (suc i) w) e)

pub turn-large : (max x i : ℕ) (w : List ℕ) → i < length w → is_digit (get_or w i 0) ≡ true → max < x * 10 + (get_or w i 0 - 48)
    → rest_of max x (drop i w) ≡ None
turn-large max x i w h e m = turn-digit max x i w h e ∙ rest-large max (x * 10 + (get_or w i 0 - 48)) (drop (i + 1) w) m

pub turn_end : (max x i : ℕ) (w : List ℕ) → i ≡ length w → x ≤ max → rest_of max x (drop i w) ≡ Some x
unfolding rest_of digits_only value_from
turn_end max x i w e h = rw (e, drop-length w, le-leb x max h)

-- ---- what a numeral is

pub numeral-within : (max : ℕ) (w : List ℕ) → within max (numeral_of max w) ≡ true
unfolding numeral_of
numeral-within max w =
    ⊎_elim (λ (l : leb (value_from 0 w) max ≡ true).
    ⊎_elim (λ (e : begun w ≡ true).
    ⊎_elim (λ (d : digits_only w ≡ true). rw (e, d, l) l) (λ (d : digits_only w ≡ false). rw (e, d)) (known (digits_only w)))
    (λ (e : begun w ≡ false). rw e)
    (known (begun w)))
    (λ (l : leb (value_from 0 w) max ≡ false).
    ⊎_elim (λ (e : begun w ≡ true).
    ⊎_elim (λ (d : digits_only w ≡ true). rw (e, d, l)) (λ (d : digits_only w ≡ false). rw (e, d)) (known (digits_only w)))
    (λ (e : begun w ≡ false). rw e)
    (known (begun w)))
    (known (leb (value_from 0 w) max))

-- a space is no digit
digits-no-space : (w : List ℕ) → place_of space w < length w → digits_only w ≡ false
unfolding digits_only place_of
digits-no-space [] h = absurd (omega arith)
digits-no-space (c ∷ w) h =
    ⊎_elim (λ (e : eqb c space ≡ true). rw (eqb-true c space e))
    (λ (e : eqb c space ≡ false).
    let k : suc (place_of space w) < suc (length w) = rw e at h in
    ⊎_elim (λ (d : is_digit c ≡ true). rw d (digits-no-space w (omega arith))) (λ (d : is_digit c ≡ false). rw d) (known (is_digit c)))
    (known (eqb c space))

pub numeral-no-space : (max : ℕ) (w : List ℕ) → place_of space w < length w → numeral_of max w ≡ None
unfolding numeral_of
numeral-no-space max w h =
    ⊎_elim (λ (e : begun w ≡ true). rw (e, digits-no-space w h)) (λ (e : begun w ≡ false). rw e) (known (begun w))
