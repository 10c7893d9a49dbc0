-- Laws of the operands behind a name, and of the whole line, in the parts in which the code reads it.
use mathlib.Core.Path.{◌≡◌, refl, sym, ap, ◌∙◌}
use mathlib.Core.Logic.{⊎_elim}
use mathlib.Core.Bool.{true, false}
use mathlib.Core.List.{List, [], ◌∷◌}
use Prim.Native.Nat.{ℕ, suc, ◌+◌, ◌-◌, ◌<◌, ◌≤◌}
use native.Mathlib.Numerals.{add-one}
use native.Mathlib.Omega.{arith}
use lib.Dec.{eqb, leb, ltb}
use lib.ListN.{length, take, drop, length-drop}
use lib.Seq.{take_all, take-length}
use borrow.Author.Tests.{le-leb, lt-leb, leb-true, eq-eqb, ne_eqb, ltb-true, ltb-false}
use Rattle.views.specs.Sets.{both}
use Rattle.views.proofs.SetLaws.{known, both_true}
use Rattle.std.proofs.Common.{Option, Some, None}
use Rattle.bench_lines.specs.Words.{space, words, place_of, find_from}
use Rattle.bench_lines.specs.Numerals.{numeral_of}
use Rattle.bench_lines.specs.TextParts.{within}
use Rattle.bench_lines.proofs.WordLaws.{place-le, find-front, words-one, words_more}
use Rattle.bench_lines.proofs.NumeralLaws.{numeral-within, numeral-no-space}
use Rattle.bench_lines.specs.declared.lines.Line.{Line}
use Rattle.bench_lines.specs.declared.lines.names.Form.{Form}
use Rattle.bench_lines.specs.Lines.{longest_line, table, form_of, made, with_operands, asks, line_of}
use Rattle.bench_lines.specs.LineParts.{fitting, fits}
use Rattle.bench_lines.proofs.LineLaws.{made-no-first, made-no-second}

-- ---- operands fit where their form does

within_wider : (m n : ℕ) (a : Option ℕ) → within m a ≡ true → m ≤ n → within n a ≡ true
within_wider m n None h l = refl
within_wider m n (Some x) h l = le-leb x n (omega (arith, leb-true x m h))

fits-from : (f : Form) (a b : Option ℕ) → fitting f ≡ true → within f.first a ≡ true → within f.second b ≡ true → fits f a b ≡ true
unfolding fitting fits
fits-from f a b h p q =
    let t = both_true (leb f.first 4294967295) _ h in
    let w : within 4294967295 a ≡ true = within_wider f.first 4294967295 a p (leb-true f.first 4294967295 t.0) in
    ⊎_elim
    (λ (e : eqb f.kind 0 ≡ true).
    let u : both (leb f.first 255) (leb f.second 255) ≡ true = rw e at t.1 in
    let v = both_true (leb f.first 255) (leb f.second 255) u in
    let x : within 255 a ≡ true = within_wider f.first 255 a p (leb-true f.first 255 v.0) in
    let y : within 255 b ≡ true = within_wider f.second 255 b q (leb-true f.second 255 v.1) in
    rw (w, e, x) y)
    (λ (e : eqb f.kind 0 ≡ false). rw (w, e))
    (known (eqb f.kind 0))

pub fits_one : (f : Form) (s : List ℕ) (a : Option ℕ) → fitting f ≡ true → a ≡ numeral_of f.first s → fits f a (Some 0) ≡ true
fits_one f s a h e = fits-from f a (Some 0) h (rw e (numeral-within f.first s)) (le-leb 0 f.second (omega arith))

pub fits-two : (f : Form) (s t : List ℕ) (a b : Option ℕ) → fitting f ≡ true → a ≡ numeral_of f.first s → b ≡ numeral_of f.second t
    → fits f a b ≡ true
fits-two f s t a b h p q = fits-from f a b h (rw p (numeral-within f.first s)) (rw q (numeral-within f.second t))

-- ---- words behind words

-- there is always a first word
words-some : (s : List ℕ) → (w : List ℕ) × (ws : List (List ℕ)) × (words s ≡ w ∷ ws)
words-some s =
    ⊎_elim (λ (e : ltb (place_of space s) (length s) ≡ true). (take (place_of space s) s, words (drop (suc (place_of space s)) s), words_more s (ltb-true _ _ e)))
    (λ (e : ltb (place_of space s) (length s) ≡ false). (s, [], words-one s (omega (arith, ltb-false (place_of space s) (length s) e, place-le space s))))
    (known (ltb (place_of space s) (length s)))

two-for-one : (f : Form) (w v : List ℕ) (ws : List (List ℕ)) → f.second ≡ 0 → with_operands f (w ∷ v ∷ ws) ≡ None
unfolding with_operands
two-for-one f w v [] e = rw (eq-eqb f.second 0 e)
two-for-one f w v (u ∷ ws) e = refl

-- one operand is the whole rest of the line
pub operands-one : (f : Form) (s : List ℕ) (a : Option ℕ) → f.second ≡ 0 → a ≡ numeral_of f.first s
    → with_operands f (words s) ≡ made f a (Some 0)
unfolding with_operands
operands-one f s a e p =
    ⊎_elim
    (λ (h : ltb (place_of space s) (length s) ≡ true).
    let l = ltb-true (place_of space s) (length s) h in
    let t = words-some (drop (suc (place_of space s)) s) in
    ap (with_operands f) (words_more s l ∙ ap (λ (ws : List (List ℕ)). take (place_of space s) s ∷ ws) t.2)
    ∙ two-for-one f (take (place_of space s) s) t.0 t.1 e
    ∙ sym (made-no-first f a (Some 0) (p ∙ numeral-no-space f.first s l)))
    (λ (h : ltb (place_of space s) (length s) ≡ false).
    rw (words-one s (omega (arith, ltb-false (place_of space s) (length s) h, place-le space s)), eq-eqb f.second 0 e, p))
    (known (ltb (place_of space s) (length s)))

-- the second of two operands is missing
pub operands_short : (f : Form) (s : List ℕ) (end : ℕ) → (f.second ≡ 0 → ⊥) → end ≡ find_from space s 0 → end ≡ length s
    → with_operands f (words s) ≡ None
unfolding with_operands
operands_short f s end e p q = rw (words-one s (sym (find-front space s) ∙ sym p ∙ q), ne_eqb f.second 0 e)

-- what stands behind a space
behind : (s : List ℕ) (end : ℕ) → take (length s - (end + 1)) (drop (end + 1) s) ≡ drop (suc end) s
behind s end = rw (add-one end) (take_all (length s - suc end) (drop (suc end) s) (omega (arith, length-drop (suc end) s)))

-- two operands stand before and behind the first space
pub operands-two : (f : Form) (s : List ℕ) (end : ℕ) (a b : Option ℕ) → (f.second ≡ 0 → ⊥) → end ≡ find_from space s 0 → (end ≡ length s → ⊥)
    → a ≡ numeral_of f.first (take end s) → b ≡ numeral_of f.second (take (length s - (end + 1)) (drop (end + 1) s))
    → with_operands f (words s) ≡ made f a b
unfolding with_operands
operands-two f s end a b e p n q r =
    let at : end ≡ place_of space s = p ∙ find-front space s in
    let l : place_of space s < length s = omega (arith, place-le space s) in
    let t = drop (suc end) s in
    let split : words s ≡ take end s ∷ words t = rw at (words_more s l) in
    let u : b ≡ numeral_of f.second t = r ∙ ap (numeral_of f.second) (behind s end) in
    ap (with_operands f) split
    ∙ ⊎_elim
    (λ (h : ltb (place_of space t) (length t) ≡ true).
    let k = ltb-true (place_of space t) (length t) h in
    let v = words-some (drop (suc (place_of space t)) t) in
    ap (λ (ws : List (List ℕ)). with_operands f (take end s ∷ ws)) (words_more t k ∙ ap (λ (ws : List (List ℕ)). take (place_of space t) t ∷ ws) v.2)
    ∙ sym (made-no-second f a b (u ∙ numeral-no-space f.second t k)))
    (λ (h : ltb (place_of space t) (length t) ≡ false).
    rw (words-one t (omega (arith, ltb-false (place_of space t) (length t) h, place-le space t)), ne_eqb f.second 0 e, q, u))
    (known (ltb (place_of space t) (length t)))

-- ---- the whole line

pub line-long : (s : List ℕ) → longest_line < length s → line_of s ≡ None
unfolding line_of
line-long s h = rw (lt-leb (length s) longest_line h)

line-short : (s : List ℕ) → length s ≤ longest_line → line_of s ≡ asks (words s)
unfolding line_of
line-short s h = rw (le-leb (length s) longest_line h)

asks-unknown : (w : List ℕ) (ws : List (List ℕ)) → form_of table w ≡ None → asks (w ∷ ws) ≡ None
unfolding asks
asks-unknown w ws e = rw e

asks-known : (w : List ℕ) (ws : List (List ℕ)) (f : Form) → form_of table w ≡ Some f → asks (w ∷ ws) ≡ with_operands f ws
unfolding asks
asks-known w ws f e = rw e

-- the name is what stands before the first space, or the whole line
first_word : (s : List ℕ) (end : ℕ) → end ≡ find_from space s 0 → (ws : List (List ℕ)) × (words s ≡ take end s ∷ ws)
first_word s end p =
    let at : end ≡ place_of space s = p ∙ find-front space s in
    ⊎_elim (λ (e : ltb (place_of space s) (length s) ≡ true). (words (drop (suc (place_of space s)) s), rw at (words_more s (ltb-true _ _ e))))
    (λ (e : ltb (place_of space s) (length s) ≡ false).
    let l : place_of space s ≡ length s = omega (arith, ltb-false (place_of space s) (length s) e, place-le space s) in
    ([], words-one s l ∙ rw (at, l, take-length s)))
    (known (ltb (place_of space s) (length s)))

pub line-unknown : (s : List ℕ) (end : ℕ) → length s ≤ longest_line → end ≡ find_from space s 0 → form_of table (take end s) ≡ None
    → line_of s ≡ None
line-unknown s end h p e =
    let t = first_word s end p in
    line-short s h ∙ ap asks t.1 ∙ asks-unknown (take end s) t.0 e

-- a known name alone
pub line-bare : (s : List ℕ) (end : ℕ) (f : Form) → length s ≤ longest_line → end ≡ find_from space s 0 → form_of table (take end s) ≡ Some f
    → end ≡ length s → line_of s ≡ None
unfolding with_operands
line-bare s end f h p e l =
    let w : words s ≡ s ∷ [] = words-one s (sym (find-front space s) ∙ sym p ∙ l) in
    let t : take end s ≡ s = rw (l, take-length s) in
    line-short s h ∙ ap asks w ∙ asks-known s [] f (rw t at e)

-- a name with operands
pub line-whole : (s : List ℕ) (end : ℕ) (f : Form) (r : Option Line) → length s ≤ longest_line → end ≡ find_from space s 0
    → form_of table (take end s) ≡ Some f → (end ≡ length s → ⊥) → r ≡ with_operands f (words (take (length s - (end + 1)) (drop (end + 1) s)))
    → line_of s ≡ r
line-whole s end f r h p e n k =
    let at : end ≡ place_of space s = p ∙ find-front space s in
    let l : place_of space s < length s = omega (arith, place-le space s) in
    let split : words s ≡ take end s ∷ words (drop (suc end) s) = rw at (words_more s l) in
    line-short s h
    ∙ ap asks split
    ∙ asks-known (take end s) (words (drop (suc end) s)) f e
    ∙ sym (k ∙ rw (behind s end))
