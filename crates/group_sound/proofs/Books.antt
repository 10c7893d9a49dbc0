-- The members' books as an iterator gives them: chunks of a book's size, each the book of its member.
use mathlib.Core.Path.{◌≡◌, refl, sym, ap, ◌∙◌}
use mathlib.Core.Bool.{Bool}
use mathlib.Core.List.{List, [], ◌∷◌, map, ◌++◌}
use Prim.Native.Nat.{ℕ, zero, suc, ◌+◌, ◌*◌, ◌≤◌}
use native.Mathlib.Omega.{arith}
use Rattle.std.specs.Prelude.{◌&&◌}
use lib.ListN.{length, take, drop, length-append, length-drop}
use lib.Seq.{drop-drop}
use denote.Ref.{Bor}
use Rattle.std.proofs.Common.{Some}
use Rattle.std.specs.Iterator.{AlwaysYields, Yields}
use Rattle.std.specs.Iterator.Adapters.{take_steps, take_source}
use Rattle.std.specs.Slice.Iter.{chunks_exact_steps, chunks_exact_rest, chunks_exact_size}
use Rattle.std.specs.List.{list_all, range_with_len, zip}
use Rattle.std.proofs.Math.Seq.{take-append_seam, drop-append_seam}
use Rattle.std.proofs.lemmas.Iterator.{YieldsList}
use Rattle.book_bytes.specs.Places.{book_size}
use Rattle.group_bytes.specs.Places.{books_size, book_bytes}

module _ (books : List ℕ) where
  -- k books are left, from the book of a on
  in_turn : (k a : ℕ) (s : _) → chunks_exact_size s ≡ book_size → chunks_exact_rest s ≡ drop (book_size * a) books → length books ≡ book_size * (a + k)
      → AlwaysYields chunks_exact_steps (λ y. y.now) s (map (book_bytes books) (range_with_len a k))
  unfolding book_bytes
  in_turn zero a s size rest long = λ x j e. omega (arith, e.1.1, size, ap length e.1.0, length-append x.now (chunks_exact_rest j), ap length rest, length-drop (book_size * a) books, long)
  in_turn (suc k) a s size rest long = (
    (λ j e. omega (arith, e.1.0, size, ap length rest, length-drop (book_size * a) books, long)),
    λ x j e. let whole : length x.now ≡ book_size = e.1.1 ∙ size in
        let split : drop (book_size * a) books ≡ x.now ++ chunks_exact_rest j = sym rest ∙ e.1.0 in
        let here : x.now ≡ book_bytes books a = sym (take-append_seam x.now (chunks_exact_rest j)) ∙ ap (λ n. take n (x.now ++ chunks_exact_rest j)) whole ∙ ap (take book_size) (sym split) in
        let next : book_size * a + book_size ≡ book_size * (a + 1) = omega arith in
        let behind : chunks_exact_rest j ≡ drop (book_size * (a + 1)) books
        = sym (drop-append_seam x.now (chunks_exact_rest j)) ∙ ap (λ n. drop n (x.now ++ chunks_exact_rest j)) whole ∙ ap (drop book_size) (sym split)
        ∙ drop-drop book_size (book_size * a) books ∙ ap (λ n. drop n books) next in
        (here, in_turn k (a + 1) j (e.0 ∙ size) behind (omega (arith, long))),
  )

  pub books_in_turn : (s : _) → chunks_exact_size s ≡ book_size → chunks_exact_rest s ≡ books → length books ≡ books_size
      → YieldsList chunks_exact_steps (λ y. y.now) s (map (book_bytes books) (range_with_len 0 8))
  books_in_turn s size rest long = record { runs = in_turn 8 0 s size rest (omega (arith, long)) }

  -- asked of each number with its book
  pub zipped : (test : ℕ × List ℕ → Bool) (n m a : ℕ) → n ≤ m → list_all test (zip (range_with_len a n) (map (book_bytes books) (range_with_len a m))) ≡ list_all (λ p. test (p, book_bytes books p)) (range_with_len a n)
  zipped test zero m a h = refl
  zipped test (suc n) zero a h = absurd (omega arith)
  zipped test (suc n) (suc m) a h = ap (λ t. test (a, book_bytes books a) && t) (zipped test n m (a + 1) (omega arith))

  -- the same, of the first n books alone
  pub taken : (test : List ℕ → Bool) (n m a : ℕ) → n ≤ m → list_all test (take n (map (book_bytes books) (range_with_len a m))) ≡ list_all (λ p. test (book_bytes books p)) (range_with_len a n)
  taken test zero m a h = refl
  taken test (suc n) zero a h = absurd (omega arith)
  taken test (suc n) (suc m) a h = ap (λ t. test (book_bytes books a) && t) (taken test n m (a + 1) (omega arith))

-- a chunk that comes has the size that was asked for
same_size : (xs : List (Bor (List ℕ))) (s t : _) → Yields (take_steps (chunks_exact_steps {A = ℕ})) s xs t → chunks_exact_size (take_source t) ≡ chunks_exact_size (take_source s)
same_size [] s t y = ap (λ z. chunks_exact_size (take_source z)) (sym y)
same_size (x ∷ xs) s t y = same_size xs y.0 t y.2 ∙ y.1.0.0

pub chunk_size : (xs : List (Bor (List ℕ))) (s t u : _) (x : Bor (List ℕ)) → Yields (take_steps chunks_exact_steps) s xs t → take_steps chunks_exact_steps t (Some x) u
    → length x.now ≡ chunks_exact_size (take_source s)
chunk_size xs s t u x y e = e.0.1.1 ∙ same_size xs s t y
