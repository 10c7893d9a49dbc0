-- Laws of a byte looked for, of words compared, and of a line's words.
use mathlib.Core.Path.{◌≡◌, refl}
use mathlib.Core.Logic.{⊎_elim}
use mathlib.Core.Bool.{true, false}
use mathlib.Core.List.{List, [], ◌∷◌}
use Prim.Native.Nat.{ℕ, suc, ◌+◌, ◌<◌, ◌≤◌}
use native.Mathlib.Numerals.{add-one}
use native.Mathlib.Omega.{arith}
use lib.Dec.{eqb}
use lib.ListN.{length, get_or, take, drop}
use Rattle.std.specs.Str.{bytes_eq}
use lib.Seq.{drop-cons}
use borrow.Author.Tests.{eq-eqb, ne_eqb}
use Rattle.views.proofs.SetLaws.{known}
use Rattle.bench_lines.specs.Words.{space, before, words, same, place_of, find_from}

-- ---- a byte looked for

pub place-le : (c : ℕ) (s : List ℕ) → place_of c s ≤ length s
unfolding place_of
place-le c [] = omega arith
place-le c (d ∷ s) =
    ⊎_elim (λ (e : eqb d c ≡ true). rw e (omega arith))
    (λ (e : eqb d c ≡ false). rw e (omega (arith, place-le c s)))
    (known (eqb d c))

place-hit : (c d : ℕ) (s : List ℕ) → eqb d c ≡ true → place_of c (d ∷ s) ≡ 0
unfolding place_of
place-hit c d s e = rw e

place-miss : (c d : ℕ) (s : List ℕ) → eqb d c ≡ false → place_of c (d ∷ s) ≡ suc (place_of c s)
unfolding place_of
place-miss c d s e = rw e

pub find-hit : (c : ℕ) (s : List ℕ) (i : ℕ) → i < length s → get_or s i 0 ≡ c → find_from c s i ≡ i
unfolding find_from
find-hit c s i h e =
    let z : place_of c (drop i s) ≡ 0 = rw (drop-cons s i 0 h) (place-hit c (get_or s i 0) (drop (suc i) s) (eq-eqb _ _ e)) in
    rw z (omega arith)

pub find-miss : (c : ℕ) (s : List ℕ) (i : ℕ) → i < length s → (get_or s i 0 ≡ c → ⊥) → find_from c s i ≡ find_from c s (i + 1)
unfolding find_from
find-miss c s i h e =
    let z : place_of c (drop i s) ≡ suc (place_of c (drop (suc i) s)) =
    rw (drop-cons s i 0 h) (place-miss c (get_or s i 0) (drop (suc i) s) (ne_eqb _ _ e))
    in
    rw (z, add-one i) (omega arith)

pub find_none : (c : ℕ) (s : List ℕ) (i : ℕ) → length s ≤ i → find_from c s i ≡ length s
unfolding find_from
find_none c s i h = omega arith

pub find-le : (c : ℕ) (s : List ℕ) (i : ℕ) → find_from c s i ≤ length s
unfolding find_from
find-le c s i = omega arith

-- a byte is looked for from a place on
pub find-from : (c : ℕ) (s : List ℕ) (i : ℕ) → i ≤ length s → i ≤ find_from c s i
unfolding find_from
find-from c s i h = omega arith

-- from the front it is the place itself
pub find-front : (c : ℕ) (s : List ℕ) → find_from c s 0 ≡ place_of c s
unfolding find_from
find-front c s = omega (arith, place-le c s)

-- ---- words compared

-- what `==` says of two slices
pub same-bytes : (s t : List ℕ) → bytes_eq s t ≡ same s t
unfolding same
same-bytes [] [] = refl
same-bytes [] (d ∷ t) = refl
same-bytes (c ∷ s) [] = refl
same-bytes (c ∷ s) (d ∷ t) =
    ⊎_elim (λ (e : eqb c d ≡ true). rw e (same-bytes s t))
    (λ (e : eqb c d ≡ false). rw e)
    (known (eqb c d))

-- ---- a line's words

-- no space: the line is one word
pub words-one : (s : List ℕ) → place_of space s ≡ length s → words s ≡ s ∷ []
unfolding words before
words-one [] e = refl
words-one (c ∷ s) e =
    ⊎_elim (λ (q : eqb c space ≡ true). absurd (omega (arith, place-hit space c s q)))
    (λ (q : eqb c space ≡ false). rw (q, words-one s (omega (arith, place-miss space c s q))))
    (known (eqb c space))

-- a space: the word before it, and the words behind it
pub words_more : (s : List ℕ) → place_of space s < length s → words s ≡ take (place_of space s) s ∷ words (drop (suc (place_of space s)) s)
unfolding words before
words_more [] h = absurd (omega arith)
words_more (c ∷ s) h =
    ⊎_elim (λ (q : eqb c space ≡ true). rw (place-hit space c s q, q))
    (λ (q : eqb c space ≡ false). let p = place-miss space c s q in rw (p, q, words_more s (omega arith)))
    (known (eqb c space))
