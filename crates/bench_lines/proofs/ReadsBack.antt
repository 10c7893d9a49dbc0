-- Printing and reading are inverse: the numeral of a number below 2 to the 64 is read as that number.
use mathlib.Core.Path.{◌≡◌, refl, ap, ◌∙◌}
use mathlib.Core.Logic.{⊎_elim}
use mathlib.Core.Bool.{true, false}
use mathlib.Core.List.{List, [], ◌∷◌, ◌++◌}
use Prim.Native.Nat.{ℕ, zero, suc, ◌+◌, ◌-◌, ◌*◌, ◌/◌, ◌%◌, ◌^◌, ◌<◌}
use native.Mathlib.Omega.{arith}
use lib.Dec.{eqb, ltb}
use borrow.Author.Tests.{le-leb, ltb-true, ltb-false, ne_eqb, eqb-true, eqb-false}
use Rattle.views.proofs.SetLaws.{known}
use Rattle.bench_lines.specs.Promises.{ReadsBack}
use Rattle.bench_lines.specs.Numerals.{is_digit, digits_only, begun, value_from, numeral_of, decimal_by, decimal}
use Rattle.bench_lines.proofs.DecimalLaws.{by-none, by-small, by-step, tenth}

-- ---- one digit more at the end

value-snoc : (y : ℕ) (w : List ℕ) (c : ℕ) → value_from y (w ++ (c ∷ [])) ≡ value_from y w * 10 + (c - 48)
unfolding value_from
value-snoc y [] c = refl
value-snoc y (d ∷ w) c = value-snoc (y * 10 + (d - 48)) w c

digits-snoc : (w : List ℕ) (c : ℕ) → digits_only w ≡ true → is_digit c ≡ true → digits_only (w ++ (c ∷ [])) ≡ true
unfolding digits_only
digits-snoc [] c h k = rw k
digits-snoc (d ∷ w) c h k =
    ⊎_elim (λ (e : is_digit d ≡ true). let t : digits_only w ≡ true = rw e at h in rw e (digits-snoc w c t k))
    (λ (e : is_digit d ≡ false). let z : false ≡ true = rw e at h in rw e z)
    (known (is_digit d))

a-digit : (x : ℕ) → x < 10 → is_digit (48 + x) ≡ true
a-digit x h = rw (le-leb 48 (48 + x) (omega arith), le-leb (48 + x) 57 (omega arith))

-- ---- the numeral of a number

value-by : (k x : ℕ) → x < 10 ^ k → value_from 0 (decimal_by k x) ≡ x
unfolding value_from
value-by zero x h = rw (by-none x) (omega arith)
value-by (suc k) x h =
    ⊎_elim (λ (e : ltb x 10 ≡ true). rw (by-small k x (ltb-true x 10 e)) (omega arith))
    (λ (e : ltb x 10 ≡ false).
    rw (by-step k x (ltb-false x 10 e), value-snoc 0 (decimal_by k (x / 10)) (48 + x % 10), value-by k (x / 10) (tenth k x h)) (omega arith))
    (known (ltb x 10))

digits-by : (k x : ℕ) → digits_only (decimal_by k x) ≡ true
unfolding digits_only
digits-by zero x = rw (by-none x)
digits-by (suc k) x =
    ⊎_elim (λ (e : ltb x 10 ≡ true). rw (by-small k x (ltb-true x 10 e), a-digit x (ltb-true x 10 e)))
    (λ (e : ltb x 10 ≡ false).
    rw (by-step k x (ltb-false x 10 e)) (digits-snoc (decimal_by k (x / 10)) (48 + x % 10) (digits-by k (x / 10)) (a-digit (x % 10) (omega arith))))
    (known (ltb x 10))

-- the word begins with a digit other than 0
Leads : List ℕ → Type 0
Leads w = (c : ℕ) × (v : List ℕ) × (w ≡ c ∷ v) × (c ≡ 48 → ⊥)

leads-by : (k x : ℕ) → 0 < x → x < 10 ^ k → Leads (decimal_by k x)
unfolding Leads
leads-by zero x p h = absurd (omega arith)
leads-by (suc k) x p h =
    ⊎_elim (λ (e : ltb x 10 ≡ true). (48 + x, [], by-small k x (ltb-true x 10 e), λ (z : 48 + x ≡ 48). omega arith))
    (λ (e : ltb x 10 ≡ false).
    let l = ltb-false x 10 e in
    let t = leads-by k (x / 10) (omega arith) (tenth k x h) in
    (t.0, t.1 ++ ((48 + x % 10) ∷ []), by-step k x l ∙ ap (λ (w : List ℕ). w ++ ((48 + x % 10) ∷ [])) t.2, t.3))
    (known (ltb x 10))

leads-begun : (w : List ℕ) → Leads w → begun w ≡ true
unfolding Leads begun
leads-begun w (c, [], e, n) = rw e
leads-begun w (c, d ∷ v, e, n) = rw (e, ne_eqb c 48 n)

begun-by : (x : ℕ) → x < 10 ^ 20 → begun (decimal x) ≡ true
unfolding begun decimal_by
begun-by x h =
    ⊎_elim (λ (e : eqb x 0 ≡ true). rw (eqb-true x 0 e))
    (λ (e : eqb x 0 ≡ false). leads-begun (decimal x) (leads-by 20 x (omega (arith, eqb-false x 0 e)) h))
    (known (eqb x 0))

-- ---- the theorem

pub reads-back : ReadsBack
unfolding numeral_of
reads-back x max h l =
    let k : x < 10 ^ 20 = omega arith in
    rw (begun-by x k, digits-by 20 x, value-by 20 x k, le-leb x max l)
