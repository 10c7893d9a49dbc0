-- Laws of the operands of a line, a byte at a time, and of views laid in their places.
use mathlib.Core.Path.{◌≡◌, refl, sym, ap, ◌∙◌}
use mathlib.Core.List.{List, [], ◌∷◌, append-nil}
use Prim.Native.Nat.{ℕ, zero, suc, ◌+◌, ◌-◌, ◌*◌, ◌/◌, ◌<◌, ◌≤◌}
use native.Mathlib.Numerals.{add-one}
use native.Mathlib.Omega.{arith}
use lib.ListN.{length, get_or, set, drop, replicate}
use lib.Seq.{drop-cons}
use mathlib.Core.Logic.{⊎_elim}
use mathlib.Core.Bool.{true, false}
use Prim.Native.Nat.{min}
use lib.Dec.{leb}
use Rattle.views.proofs.SetLaws.{known}
use borrow.Author.Tests.{eq-eqb, ne_eqb, leb-true, leb-false}
use Rattle.views.specs.declared.View.{View}
use Rattle.views.specs.declared.list.Views.{Views}
use Rattle.views.specs.Limits.{max_views}
use Rattle.views.specs.Lists.{no_view, placed}
use Rattle.views.proofs.PlaceLaws.{Filling, filling-start, filling_skip, filling-more, filling-full, filling-end}
use Rattle.wire.specs.declared.Message.{Message}
use Rattle.wire.specs.Reader.{message_of}
use Rattle.test_script.specs.ParseParts.{pushed}
use Rattle.test_script.proofs.ParseLaws.{drop-none}
use Rattle.test_vectors.specs.LineParts.{ends_at, numbers_from, count_from, Numbered}
use Rattle.test_vectors.specs.LineParts.{as_identifier, as_byte, view_at, views_from, frame_of}

-- ---- the numbers

-- the numbers of all bytes are those of the bytes from a place on, put behind what is read so far
pub record Halfway (s line entry xs : List ℕ) (n i : ℕ) : Type 0 where
  pub room : n < 640
  pub count : count_from 0 s ≡ count_from n (drop i line)
  pub places : numbers_from 0 entry s ≡ numbers_from n xs (drop i line)

pub half-start : (line entry : List ℕ) (from : ℕ) → Halfway (drop from line) line entry entry 0 from
half-start line entry from = record { room = omega arith; count = refl; places = refl }

count-full : (n c : ℕ) (s : List ℕ) → n ≡ 639 → count_from n (c ∷ s) ≡ n
unfolding count_from
count-full n c s e = rw (eq-eqb n 639 e)

count-more : (n c : ℕ) (s : List ℕ) → (n ≡ 639 → ⊥) → count_from n (c ∷ s) ≡ count_from (n + ends_at c) s
unfolding count_from
count-more n c s h = rw (ne_eqb n 639 h)

places-full : (n : ℕ) (xs : List ℕ) (c : ℕ) (s : List ℕ) → n ≡ 639 → numbers_from n xs (c ∷ s) ≡ xs
unfolding numbers_from
places-full n xs c s e = rw (eq-eqb n 639 e)

places-more : (n : ℕ) (xs : List ℕ) (c : ℕ) (s : List ℕ) → (n ≡ 639 → ⊥) → numbers_from n xs (c ∷ s) ≡ numbers_from (n + ends_at c) (set xs n (pushed (get_or xs n 0) c)) s
unfolding numbers_from
places-more n xs c s h = rw (ne_eqb n 639 h)

count-empty : (n : ℕ) → count_from n [] ≡ n + 1
unfolding count_from
count-empty n = refl

places-empty : (n : ℕ) (xs : List ℕ) → numbers_from n xs [] ≡ xs
unfolding numbers_from
places-empty n xs = refl

next : (line : List ℕ) (i : ℕ) → i < length line → drop i line ≡ get_or line i 0 ∷ drop (i + 1) line
next line i h = rw (add-one i) (drop-cons line i 0 h)

pub half-turn : (s line entry xs : List ℕ) (n i x e : ℕ) → Halfway s line entry xs n i → i < length line → (n ≡ 639 → ⊥) → n + e < 640
    → x ≡ pushed (get_or xs n 0) (get_or line i 0) → e ≡ ends_at (get_or line i 0) → Halfway s line entry (set xs n x) (n + e) (i + 1)
half-turn s line entry xs n i x e w h k l p q =
    record {
      room = l;
      count = w.count ∙ rw (next line i h, q) (count-more n (get_or line i 0) (drop (i + 1) line) k);
      places = w.places ∙ rw (next line i h, p, q) (places-more n xs (get_or line i 0) (drop (i + 1) line) k);
    }

pub half_full : (s line entry xs : List ℕ) (n i : ℕ) → Halfway s line entry xs n i → i < length line → n ≡ 639 → Numbered s entry xs n
half_full s line entry xs n i w h e =
    record {
      count = sym (w.count ∙ rw (next line i h) (count-full n (get_or line i 0) (drop (i + 1) line) e));
      places = sym (w.places ∙ rw (next line i h) (places-full n xs (get_or line i 0) (drop (i + 1) line) e));
    }

pub half-end : (s line entry xs : List ℕ) (n i : ℕ) → Halfway s line entry xs n i → length line ≤ i → Numbered s entry xs (n + 1)
half-end s line entry xs n i w h =
    record {
      count = sym (w.count ∙ rw (drop-none line i h) (count-empty n));
      places = sym (w.places ∙ rw (drop-none line i h) (places-empty n xs));
    }

-- ---- the views

length-views : (xs : List ℕ) (at k : ℕ) → length (views_from xs at k) ≡ k
unfolding views_from
length-views xs at zero = refl
length-views xs at (suc k) = ap suc (length-views xs (at + 2) k)

views-more : (xs : List ℕ) (at k : ℕ) → views_from xs at (suc k) ≡ view_at xs at ∷ views_from xs (at + 2) k
unfolding views_from
views-more xs at k = refl

views-none : (xs : List ℕ) (at : ℕ) → views_from xs at 0 ≡ []
unfolding views_from
views-none xs at = refl

-- a turn takes the first of those that are left
views-turn : (xs : List ℕ) (n i : ℕ) → i < n → views_from xs (4 + 2 * i) (n - i) ≡ view_at xs (4 + 2 * i) ∷ views_from xs (4 + 2 * (i + 1)) (n - (i + 1))
views-turn xs n i h =
    let k : n - i ≡ suc (n - (i + 1)) = omega arith in
    let l : 4 + 2 * i + 2 ≡ 4 + 2 * (i + 1) = omega arith in
    rw k (views-more xs (4 + 2 * i) (n - (i + 1)) ∙ ap (λ (m : ℕ). view_at xs (4 + 2 * i) ∷ views_from xs m (n - (i + 1))) l)

pub views-start : (xs : List ℕ) (n : ℕ) → Filling (views_from xs 4 n) (views_from xs (4 + 2 * 0) (n - 0)) (replicate max_views no_view) 0
views-start xs n = filling_skip (views_from xs 4 n) (views_from xs 4 n) (views_from xs 4 (n - 0)) (replicate max_views no_view) 0 (ap (λ (k : ℕ). views_from xs 4 k) (omega arith)) (filling-start (views_from xs 4 n))

pub views-step : (xs : List ℕ) (n i : ℕ) (at : List View) (v : View) → i < n → i < max_views → v ≡ view_at xs (4 + 2 * i)
    → Filling (views_from xs 4 n) (views_from xs (4 + 2 * i) (n - i)) at i
    → Filling (views_from xs 4 n) (views_from xs (4 + 2 * (i + 1)) (n - (i + 1))) (set at i v) (i + 1)
views-step xs n i at v h k e f =
    let rest = views_from xs (4 + 2 * (i + 1)) (n - (i + 1)) in
    let t : views_from xs (4 + 2 * i) (n - i) ≡ v ∷ rest = rw e (views-turn xs n i h) in
    filling-more (views_from xs 4 n) rest at i v (filling_skip (views_from xs 4 n) (views_from xs (4 + 2 * i) (n - i)) (v ∷ rest) at i t f) k

-- the places are full, whatever is left
filled : (whole rest at : List View) (k : ℕ) → max_views ≤ k → Filling whole rest at k → record { count = length whole; at = at } ≡ placed whole
filled whole [] at k h f =
    let e : length whole ≡ k = ap length (f.3 ∙ append-nil f.0) ∙ sym f.1 in
    ap (λ (m : ℕ). record { count = m; at = at }) e ∙ filling-end whole at k f
filled whole (v ∷ rest) at k h f = filled whole rest at (k + 1) (omega arith) (filling-full whole rest at k v f h)

views-full : (xs : List ℕ) (n i : ℕ) (at : List View) → i ≡ max_views → Filling (views_from xs 4 n) (views_from xs (4 + 2 * i) (n - i)) at i
    → record { count = n; at = at } ≡ placed (views_from xs 4 n)
views-full xs n i at e f =
    ap (λ (k : ℕ). record { count = k; at = at }) (sym (length-views xs 4 n))
    ∙ filled (views_from xs 4 n) (views_from xs (4 + 2 * i) (n - i)) at i (omega arith) f

views-end : (xs : List ℕ) (n i : ℕ) (at : List View) → i ≡ n → Filling (views_from xs 4 n) (views_from xs (4 + 2 * i) (n - i)) at i
    → record { count = n; at = at } ≡ placed (views_from xs 4 n)
views-end xs n i at e f =
    let z : n - i ≡ 0 = omega arith in
    let none : views_from xs (4 + 2 * i) (n - i) ≡ [] = rw z (views-none xs (4 + 2 * i)) in
    ap (λ (k : ℕ). record { count = k; at = at }) (sym e)
    ∙ filling-end (views_from xs 4 n) at i (filling_skip (views_from xs 4 n) (views_from xs (4 + 2 * i) (n - i)) [] at i none f)

pub views-all : (xs : List ℕ) (n i : ℕ) (at : List View) → i ≡ min n max_views → Filling (views_from xs 4 n) (views_from xs (4 + 2 * i) (n - i)) at i
    → record { count = n; at = at } ≡ placed (views_from xs 4 n)
views-all xs n i at e f =
    ⊎_elim (λ (h : leb n max_views ≡ true). views-end xs n i at (omega (arith, leb-true n max_views h)) f)
    (λ (h : leb n max_views ≡ false). views-full xs n i at (omega (arith, leb-false n max_views h)) f)
    (known (leb n max_views))

pub frame_made : (xs : List ℕ) (n k : ℕ) (m : Message) (l : Views) → k ≡ (n - 4) / 2 → m ≡ message_of (as_byte (get_or xs 1 0)) (get_or xs 3 0) → l ≡ placed (views_from xs 4 k)
    → record { view = record { 0 = as_identifier (get_or xs 2 0) }; message = m; views = l } ≡ frame_of xs n
unfolding frame_of
frame_made xs n k m l e p q = rw (p, q, e)
