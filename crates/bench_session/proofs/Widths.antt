-- The operands of any line that is read are within their widths.
use mathlib.Core.Path.{◌≡◌, refl}
use mathlib.Core.Logic.{⊎_elim}
use mathlib.Core.Bool.{Bool, true, false}
use Rattle.std.proofs.Common.{Option, Some, None, option_and_then}
use mathlib.Core.List.{List, [], ◌∷◌}
use Prim.Native.Nat.{ℕ}
use native.Mathlib.Omega.{arith}
use borrow.Author.Tests.{leb-true, le-leb}
use lib.Dec.{eqb, leb}
use lib.ListN.{length}
use Rattle.views.specs.Sets.{both}
use Rattle.std.proofs.lemmas.Option.{none-some, same_Some}
use Rattle.views.proofs.SetLaws.{known, both_true}
use Rattle.group_bytes.specs.Promises.{Given}
use Rattle.group.specs.StepCalls.{asked}
use Rattle.bench_lines.specs.Words.{same, words}
use Rattle.bench_lines.specs.Numerals.{numeral_of}
use Rattle.bench_lines.specs.TextParts.{within}
use Rattle.bench_lines.proofs.NumeralLaws.{numeral-within}
use Rattle.bench_lines.specs.declared.lines.Line.{Line}
use Rattle.bench_lines.specs.declared.lines.Line.TheVariants.{Group, Step}
use Rattle.bench_lines.specs.declared.lines.names.Form.{Form}
use Rattle.bench_lines.specs.Lines.{Row, row, table, largest, longest_line, form_of, made, with_operands, asks, line_of}

-- the two within the widths of the first and the second operand
abbrev pub wide : ℕ → ℕ → Bool
wide x y = both (leb x (largest 4)) (leb y (largest 8))

unfoldable pub line_wide : Option Line → Bool
line_wide None = true
line_wide (Some (Group s)) = true
line_wide (Some (Step c)) = wide c.first c.second

rows_wide : List Row → Bool
rows_wide [] = true
rows_wide (row n f ∷ rows) = both (wide f.first f.second) (rows_wide rows)

rows-wide : (rows : List Row) (w : List ℕ) (f : Form) → rows_wide rows ≡ true → form_of rows w ≡ Some f → wide f.first f.second ≡ true
unfolding form_of rows_wide
rows-wide [] w f h e = absurd (none-some f e)
rows-wide (row n g ∷ rows) w f h e =
    let t = both_true (wide g.first g.second) (rows_wide rows) h in
    ⊎_elim (λ (q : same w n ≡ true). rw (same_Some g f (rw q at e)) at t.0) (λ (q : same w n ≡ false). rows-wide rows w f t.1 (rw q at e)) (known (same w n))

form-wide : (w : List ℕ) (f : Form) → form_of table w ≡ Some f → wide f.first f.second ≡ true
unfolding rows_wide
form-wide w f e = rows-wide table w f refl e

narrower : (f s x y : ℕ) → wide f s ≡ true → leb x f ≡ true → leb y s ≡ true → wide x y ≡ true
narrower f s x y h p q =
    let u = both_true (leb f (largest 4)) _ h in
    let a : leb x (largest 4) ≡ true = le-leb x (largest 4) (omega (arith, leb-true x f p, leb-true f (largest 4) u.0)) in
    let b : leb y (largest 8) ≡ true = le-leb y (largest 8) (omega (arith, leb-true y s q, leb-true s (largest 8) u.1)) in
    rw (a, b)

made_wide : (f : Form) (a b : Option ℕ) → wide f.first f.second ≡ true → within f.first a ≡ true → within f.second b ≡ true
    → line_wide (made f a b) ≡ true
unfolding made line_wide
made_wide f None b h p q = refl
made_wide f (Some x) None h p q = refl
made_wide f (Some x) (Some y) h p q =
    ⊎_elim (λ (e : eqb f.kind 0 ≡ true). rw e) (λ (e : eqb f.kind 0 ≡ false). rw e (narrower f.first f.second x y h p q)) (known (eqb f.kind 0))

zero-within : (m : ℕ) → within m (Some 0) ≡ true
zero-within m = le-leb 0 m (omega arith)

operands-wide : (f : Form) (l : List (List ℕ)) → wide f.first f.second ≡ true → line_wide (with_operands f l) ≡ true
unfolding with_operands line_wide
operands-wide f [] h = refl
operands-wide f (w ∷ []) h =
    ⊎_elim (λ (e : eqb f.second 0 ≡ true). rw e (made_wide f (numeral_of f.first w) (Some 0) h (numeral-within f.first w) (zero-within f.second)))
    (λ (e : eqb f.second 0 ≡ false). rw e) (known (eqb f.second 0))
operands-wide f (w ∷ v ∷ []) h =
    ⊎_elim (λ (e : eqb f.second 0 ≡ true). rw e)
    (λ (e : eqb f.second 0 ≡ false). rw e (made_wide f (numeral_of f.first w) (numeral_of f.second v) h (numeral-within f.first w) (numeral-within f.second v)))
    (known (eqb f.second 0))
operands-wide f (w ∷ v ∷ u ∷ ws) h = refl

named-wide : (o : Option Form) (ws : List (List ℕ)) → ((f : Form) → o ≡ Some f → wide f.first f.second ≡ true)
    → line_wide (option_and_then (λ f. with_operands f ws) o) ≡ true
unfolding line_wide
named-wide None ws h = refl
named-wide (Some f) ws h = operands-wide f ws (h f refl)

asks-wide : (l : List (List ℕ)) → line_wide (asks l) ≡ true
unfolding asks line_wide
asks-wide [] = refl
asks-wide (w ∷ ws) = named-wide (form_of table w) ws (form-wide w)

pub line-wide : (s : List ℕ) → line_wide (line_of s) ≡ true
unfolding line_of line_wide
line-wide s =
    ⊎_elim (λ (e : leb (length s) longest_line ≡ true). rw e (asks-wide (words s))) (λ (e : leb (length s) longest_line ≡ false). rw e)
    (known (leb (length s) longest_line))

-- such a step can be given
pub wide-given : (k x y : ℕ) → wide x y ≡ true → Given (asked k x y)
wide-given k x y h =
    let u = both_true (leb x (largest 4)) _ h in
    record { first = omega (arith, leb-true x 4294967295 u.0); second = omega (arith, leb-true y 18446744073709551615 u.1) }
