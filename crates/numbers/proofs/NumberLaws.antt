-- Laws of numbers in bytes, each once for every width. Callers use these and not the definitions.
use mathlib.Core.Path.{◌≡◌, refl, sym, ap, subst, ◌∙◌}
use mathlib.Core.List.{List, [], ◌∷◌, ◌++◌, append_assoc}
use Prim.Native.Nat.{ℕ, zero, suc, ◌+◌, ◌-◌, ◌*◌, ◌/◌, ◌%◌, ◌^◌, ◌<◌, ◌≤◌}
use native.Mathlib.Nat.{pow-suc, pow-le-pow_right, add-zero, add-suc}
use native.Mathlib.Numerals.{add-one}
use native.Mathlib.Omega.{arith}
use lib.ListN.{length, get_or, set, take, drop, length-set, length-append, length-drop, take-append-drop}
use lib.Seq.{get_or-set_same, get_or-set_other, take-suc, get_or-append-add, get_or_at, get_or-drop, take-set-le, drop-set-lt, drop-cons, drop-drop, take-append_seam, drop-append-add}
use Rattle.numbers.specs.Number.{get, put, digits}

-- ---- the bytes of a number

pub length_digits : (k x : ℕ) → length (digits k x) ≡ k
unfolding digits
length_digits zero x = refl
length_digits (suc k) x = simp length-append (omega (arith, length_digits k (x / 256)))

-- ---- what a store leaves, place by place

pub length-put : (b : List ℕ) (at k x : ℕ) → length (put b at k x) ≡ length b
unfolding put
length-put b at zero x = refl
length-put b at (suc k) x = length-put (set b (at + k) (x % 256)) at k (x / 256) ∙ length-set b (at + k) (x % 256)

-- a store is seen neither below it nor past it
pub put-below : (b : List ℕ) (at k x j : ℕ) → j < at → get_or (put b at k x) j 0 ≡ get_or b j 0
unfolding put
put-below b at zero x j h = refl
put-below b at (suc k) x j h =
    put-below (set b (at + k) (x % 256)) at k (x / 256) j h ∙ get_or-set_other b (at + k) j (x % 256) 0 (λ e. omega arith)

pub put-past : (b : List ℕ) (at k x j : ℕ) → at + k ≤ j → get_or (put b at k x) j 0 ≡ get_or b j 0
unfolding put
put-past b at zero x j h = refl
put-past b at (suc k) x j h =
    put-past (set b (at + k) (x % 256)) at k (x / 256) j (omega arith) ∙ get_or-set_other b (at + k) j (x % 256) 0 (λ e. omega arith)

-- ---- a number depends on its own bytes alone

-- b at `at` and c at `to` have the same k bytes
abbrev pub Same : List ℕ → ℕ → List ℕ → ℕ → ℕ → Type 0
Same b at c to k = (j : ℕ) → j < k → get_or b (at + j) 0 ≡ get_or c (to + j) 0

pub get-same : (b c : List ℕ) (at to k : ℕ) → Same b at c to k → get b at k ≡ get c to k
unfolding get
get-same b c at to zero h = refl
get-same b c at to (suc k) h = omega (arith, get-same b c at to k (λ j l. h j (omega arith)), h k (omega arith))

pub get-put-same : (b : List ℕ) (at k x : ℕ) → at + k ≤ length b → x < 256 ^ k → get (put b at k x) at k ≡ x
unfolding get put
get-put-same b at zero x h l = omega arith
get-put-same b at (suc k) x h l =
    let c = set b (at + k) (x % 256) in
    let p : 256 ^ suc k ≡ 256 ^ k * 256 = pow-suc 256 k in
    let lc : length c ≡ length b = length-set b (at + k) (x % 256) in
    omega (
      arith,
      get-put-same c at k (x / 256) (omega arith) (omega arith),
      put-past c at k (x / 256) (at + k) (omega arith),
      get_or-set_same b (at + k) (x % 256) 0 (omega arith),
    )

-- the number of eight bytes, by the numbers of each four
pub halves : (b : List ℕ) (at : ℕ) → get b at 8 ≡ get b at 4 * 4294967296 + get b (at + 4) 4
unfolding get
halves b at =
    let place : (i j : ℕ) → i ≡ j → get_or b i 0 ≡ get_or b j 0 = λ i j e. ap (λ (k : ℕ). get_or b k 0) e in
    omega (
      arith,
      place (at + 4 + 0) (at + 4) (omega arith),
      place (at + 4 + 1) (at + 5) (omega arith),
      place (at + 4 + 2) (at + 6) (omega arith),
      place (at + 4 + 3) (at + 7) (omega arith),
    )

-- ---- numbers and lists of bytes

-- a number's bytes read back, wherever they stand and whatever stands behind them
pub get-digits : (p : List ℕ) (k x : ℕ) (q : List ℕ) → x < 256 ^ k → get (p ++ (digits k x ++ q)) (length p) k ≡ x
unfolding get digits
get-digits p zero x q l = omega arith
get-digits p (suc k) x q l =
    let e : 256 ^ suc k ≡ 256 ^ k * 256 = pow-suc 256 k in
    let ih = get-digits p k (x / 256) ((x % 256 ∷ []) ++ q) (omega arith) in
    let re : (digits k (x / 256) ++ (x % 256 ∷ [])) ++ q ≡ digits k (x / 256) ++ ((x % 256 ∷ []) ++ q) = append_assoc (digits k (x / 256)) (x % 256 ∷ []) q in
    let at_low : get_or (p ++ (digits k (x / 256) ++ ((x % 256 ∷ []) ++ q))) (length p + k) 0 ≡ x % 256 =
    get_or-append-add p (digits k (x / 256) ++ ((x % 256 ∷ []) ++ q)) k 0 ∙ get_or_at (digits k (x / 256)) (x % 256) q 0 k (length_digits k (x / 256))
    in
    subst (λ (z : List ℕ). get (p ++ z) (length p) (suc k) ≡ x) (sym re) (omega (arith, ih, at_low))

-- each of the k bytes at `at` is a byte
abbrev pub Bytes : List ℕ → ℕ → ℕ → Type 0
Bytes b at k = (j : ℕ) → j < k → get_or b (at + j) 0 < 256

-- the bytes of the number that bytes hold are those bytes
pub digits-get : (b : List ℕ) (at k : ℕ) → at + k ≤ length b → Bytes b at k → digits k (get b at k) ≡ take k (drop at b)
unfolding get digits
digits-get b at zero l h = refl
digits-get b at (suc k) l h =
    let low = h k (omega arith) in
    let q : (get b at k * 256 + get_or b (at + k) 0) / 256 ≡ get b at k = omega arith in
    let r : (get b at k * 256 + get_or b (at + k) 0) % 256 ≡ get_or b (at + k) 0 = omega arith in
    let n : k < length (drop at b) = rw (length-drop at b) (omega arith) in
    rw (q, r, digits-get b at k (omega arith) (λ j m. h j (omega arith))) (sym (take-suc (drop at b) k 0 n ∙ rw (get_or-drop at b k 0)))

-- a store as a list: what stood before it, the bytes of the number, what stood behind it
pub put-split : (b : List ℕ) (at k x : ℕ) → at + k ≤ length b → put b at k x ≡ take at b ++ (digits k x ++ drop (at + k) b)
unfolding put digits
put-split b at zero x h = rw (add-zero at) (sym (take-append-drop at b))
put-split b at (suc k) x h =
    let low = x % 256 in
    let c = set b (at + k) low in
    let n : length c ≡ length b = length-set b (at + k) low in
    let front : take at c ≡ take at b = take-set-le at b (at + k) low (omega arith) in
    let back : drop (at + k) c ≡ low ∷ drop (at + suc k) b =
    drop-cons c (at + k) 0 (omega arith)
    ∙ rw (get_or-set_same b (at + k) low 0 (omega arith), drop-set-lt (suc (at + k)) b (at + k) low (omega arith), add-suc at k)
    in
    put-split c at k (x / 256) (omega arith) ∙ rw (front, back, append_assoc (digits k (x / 256)) (low ∷ []) (drop (at + suc k) b))

-- a store just behind the list d, which stands at the front of b's place
pub put-seam : (d b : List ℕ) (k x : ℕ) → length d + k ≤ length b
    → put (d ++ drop (length d) b) (length d) k x ≡ (d ++ digits k x) ++ drop (length d + k) b
put-seam d b k x h =
    let n : length (d ++ drop (length d) b) ≡ length b = simp (length-append, length-drop) (omega arith) in
    put-split (d ++ drop (length d) b) (length d) k x (omega arith)
    ∙ rw (take-append_seam d (drop (length d) b), drop-append-add d (drop (length d) b) k, drop-drop k (length d) b) (sym (append_assoc d (digits k x) (drop (length d + k) b)))

-- ---- a turn of each loop

-- what is read so far leaves room for another byte
pub get-room : (x i : ℕ) → i < 8 → x < 256 ^ i → x < 256 ^ 7
get-room x i h l = let p : 256 ^ i ≤ 256 ^ 7 = pow-le-pow_right (omega arith) {i = i} {j = 7} (omega arith) in omega arith

pub get-turn : (b : List ℕ) (at i : ℕ) → get b at i * 256 + get_or b (at + i) 0 ≡ get b at (i + 1)
unfolding get
get-turn b at i = rw (add-one i)

pub get-bound : (x i y : ℕ) → x < 256 ^ i → y < 256 → x * 256 + y < 256 ^ (i + 1)
get-bound x i y l m = let p : 256 ^ suc i ≡ 256 ^ i * 256 = pow-suc 256 i in rw (add-one i) (omega arith)

pub put-turn : (b : List ℕ) (at i x : ℕ) → 0 < i → put b at i x ≡ put (set b (at + (i - 1)) (x % 256)) at (i - 1) (x / 256)
unfolding put
put-turn b at i x h = let e : i ≡ suc (i - 1) = omega arith in ap (λ (n : ℕ). put b at n x) e
