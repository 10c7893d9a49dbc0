-- Laws of a line: the row of a name, the operands behind it, and what the whole asks.
use mathlib.Core.Path.{◌≡◌, refl}
use mathlib.Core.Logic.{⊎_elim}
use mathlib.Core.Bool.{Bool, true, false, cond}
use mathlib.Core.List.{List, [], ◌∷◌}
use Prim.Native.Nat.{ℕ, ◌≤◌}
use lib.Dec.{eqb}
use borrow.Author.Tests.{leb-true, eq-eqb, ne_eqb}
use Rattle.views.specs.Sets.{both}
use Rattle.std.proofs.lemmas.Option.{none-some, same_Some}
use Rattle.views.proofs.SetLaws.{known, both_true}
use Rattle.std.proofs.Common.{Option, Some, None}
use Rattle.bench_lines.specs.Words.{same}
use Rattle.bench_lines.specs.TextParts.{within}
use Rattle.bench_lines.specs.declared.lines.Line.TheVariants.{Group, Step}
use Rattle.bench_lines.specs.declared.lines.names.Form.{Form}
use Rattle.bench_lines.specs.Lines.{Row, row, table, form_of, made}
use Rattle.bench_lines.specs.LineParts.{fitting, fits}

-- ---- the row of a name

pub row-found : (w n : List ℕ) (f : Form) (rows : List Row) → same w n ≡ true → form_of (row n f ∷ rows) w ≡ Some f
unfolding form_of
row-found w n f rows e = rw e

pub row_other : (w n : List ℕ) (f : Form) (rows : List Row) → same w n ≡ false → form_of (row n f ∷ rows) w ≡ form_of rows w
unfolding form_of
row_other w n f rows e = rw e

fits_rows : List Row → Bool
fits_rows [] = true
fits_rows (row n f ∷ rows) = both (fitting f) (fits_rows rows)

rows_fit : (rows : List Row) (w : List ℕ) (f : Form) → fits_rows rows ≡ true → form_of rows w ≡ Some f → fitting f ≡ true
unfolding form_of fits_rows
rows_fit [] w f h e = absurd (none-some f e)
rows_fit (row n g ∷ rows) w f h e =
    let t = both_true (fitting g) (fits_rows rows) h in
    ⊎_elim (λ (q : same w n ≡ true). rw (same_Some g f (rw q at e)) at t.0)
    (λ (q : same w n ≡ false). rows_fit rows w f t.1 (rw q at e))
    (known (same w n))

-- every form that a name has fits
pub form-fits : (w : List ℕ) (f : Form) → form_of table w ≡ Some f → fitting f ≡ true
unfolding fits_rows fitting
form-fits w f e = rows_fit table w f refl e

-- ---- what operands make

pub made-no-first : (f : Form) (a b : Option ℕ) → a ≡ None → made f a b ≡ None
unfolding made
made-no-first f a b e = rw e

pub made-no-second : (f : Form) (a b : Option ℕ) → b ≡ None → made f a b ≡ None
unfolding made
made-no-second f None b e = refl
made-no-second f (Some x) b e = rw e

pub made-group : (f : Form) (a b : Option ℕ) (x y : ℕ) → a ≡ Some x → b ≡ Some y → f.kind ≡ 0
    → made f a b ≡ Some (Group (record { members = x; set = y }))
unfolding made
made-group f a b x y p q e = rw (p, q, eq-eqb f.kind 0 e)

pub made-step : (f : Form) (a b : Option ℕ) (x y : ℕ) → a ≡ Some x → b ≡ Some y → (f.kind ≡ 0 → ⊥)
    → made f a b ≡ Some (Step (record { kind = f.kind; first = x; second = y }))
unfolding made
made-step f a b x y p q e = rw (p, q, ne_eqb f.kind 0 e)

-- what fits is within the types of the fields
pub fits-first : (f : Form) (a b : Option ℕ) (x : ℕ) → fits f a b ≡ true → a ≡ Some x → x ≤ 4294967295
unfolding fits
fits-first f a b x h p =
    let t : within 4294967295 a ≡ true = (both_true (within 4294967295 a) _ h).0 in
    leb-true x 4294967295 (rw p at t)

pub fits-group : (f : Form) (a b : Option ℕ) (x y : ℕ) → fits f a b ≡ true → f.kind ≡ 0 → a ≡ Some x → b ≡ Some y → (x ≤ 255) × (y ≤ 255)
unfolding fits
fits-group f a b x y h e p q =
    let t : cond (eqb f.kind 0) (both (within 255 a) (within 255 b)) true ≡ true = (both_true (within 4294967295 a) _ h).1 in
    let u : both (within 255 a) (within 255 b) ≡ true = rw (eq-eqb f.kind 0 e) at t in
    let v = both_true (within 255 a) (within 255 b) u in
    let first : within 255 a ≡ true = v.0 in
    let second : within 255 b ≡ true = v.1 in
    (leb-true x 255 (rw p at first), leb-true y 255 (rw q at second))
