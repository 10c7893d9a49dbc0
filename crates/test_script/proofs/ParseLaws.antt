-- Laws of lines taken apart, a byte at a time: each says what a loop's turn, or its end, does to what is still to be found.
use mathlib.Core.Path.{◌≡◌, refl, sym, ap, ◌∙◌}
use mathlib.Core.Logic.{⊎_elim}
use mathlib.Core.Bool.{true, false, true≢false}
use mathlib.Core.List.{List, [], ◌∷◌, ◌++◌, append_assoc, append-nil}
use Prim.Native.Nat.{ℕ, zero, suc, ◌+◌, ◌-◌, ◌*◌, ◌^◌, ◌<◌, ◌≤◌}
use native.Mathlib.Numerals.{add-one}
use native.Mathlib.Omega.{arith}
use lib.Dec.{eqb, ltb}
use lib.ListN.{length, get_or, set, take, drop, length-set, take-append-drop}
use lib.Seq.{drop-cons, drop-drop, drop-set-lt, take-suc-set, take_all, length-take-le}
use Rattle.std.specs.Char.{is_ascii_digit}
use Rattle.std.specs.Option.{SomeIff, unwrap_or}
use Rattle.std.proofs.Common.{Option, Some, None}
use borrow.Author.Tests.{ltb-false, eq-eqb, ne_eqb, lt-ltb, le-ltb, le-leb}
use Rattle.views.proofs.SetLaws.{known}
use Rattle.test_script.specs.ParseParts.{word_start, pushed, number_from, nibble_of, unhexed, Fronted, IsPrefixLen}

pub prefix_len_of_le : (n : ℕ) (xs : List ℕ) → n ≤ length xs → IsPrefixLen n xs
prefix_len_of_le n xs h = (h, sym (length-take-le n xs h))

pub drop-none : (s : List ℕ) (i : ℕ) → length s ≤ i → drop i s ≡ []
drop-none [] zero h = refl
drop-none [] (suc i) h = refl
drop-none (c ∷ s) zero h = absurd (omega arith)
drop-none (c ∷ s) (suc i) h = drop-none s i (omega arith)

-- ---- words

pub word-found : (s : List ℕ) (n : ℕ) → n ≡ 0 → word_start n s ≡ 0
unfolding word_start
word-found s n e = rw e

word-empty : (n : ℕ) → word_start n [] ≡ 0
unfolding word_start
word-empty zero = refl
word-empty (suc n) = refl

pub word_none : (s : List ℕ) (n i : ℕ) → length s ≤ i → word_start n (drop i s) ≡ 0
word_none s n i h = rw (drop-none s i h) (word-empty n)

word-hit : (n c : ℕ) (s : List ℕ) → eqb c 32 ≡ true → word_start (suc n) (c ∷ s) ≡ suc (word_start n s)
unfolding word_start
word-hit n c s e = rw e

word-miss : (n c : ℕ) (s : List ℕ) → eqb c 32 ≡ false → word_start (suc n) (c ∷ s) ≡ suc (word_start (suc n) s)
unfolding word_start
word-miss n c s e = rw e

-- a space is one word less to pass
pub word-passed : (s : List ℕ) (n i : ℕ) → i < length s → 0 < n → get_or s i 0 ≡ 32 → i + word_start n (drop i s) ≡ i + 1 + word_start (n - 1) (drop (i + 1) s)
word-passed s zero i h k e = absurd (omega arith)
word-passed s (suc n) i h k e =
    let z : word_start (suc n) (drop i s) ≡ suc (word_start n (drop (suc i) s)) = rw (drop-cons s i 0 h) (word-hit n (get_or s i 0) (drop (suc i) s) (eq-eqb _ _ e)) in
    let m : suc n - 1 ≡ n = omega arith in
    rw (z, m, add-one i) (omega arith)

pub word-within : (s : List ℕ) (n i : ℕ) → i < length s → 0 < n → (get_or s i 0 ≡ 32 → ⊥) → i + word_start n (drop i s) ≡ i + 1 + word_start n (drop (i + 1) s)
word-within s zero i h k e = absurd (omega arith)
word-within s (suc n) i h k e =
    let z : word_start (suc n) (drop i s) ≡ suc (word_start (suc n) (drop (suc i) s)) = rw (drop-cons s i 0 h) (word-miss n (get_or s i 0) (drop (suc i) s) (ne_eqb _ _ e)) in
    rw (z, add-one i) (omega arith)

pub word-le : (n : ℕ) (s : List ℕ) → word_start n s ≤ length s
unfolding word_start
word-le zero s = omega arith
word-le (suc n) [] = omega arith
word-le (suc n) (c ∷ s) =
    ⊎_elim (λ (e : eqb c 32 ≡ true). rw e (omega (arith, word-le n s)))
    (λ (e : eqb c 32 ≡ false). rw e (omega (arith, word-le (suc n) s)))
    (known (eqb c 32))

-- ---- decimal numbers

pub push-other : (x c : ℕ) → is_ascii_digit c ≡ false → x ≡ pushed x c
unfolding pushed
push-other x c e =
    ⊎_elim (λ (h : ltb c 48 ≡ true). rw h)
    (λ (h : ltb c 48 ≡ false).
    ⊎_elim (λ (k : ltb 57 c ≡ true). rw (h, k))
    (λ (k : ltb 57 c ≡ false).
    let z : true ≡ false = rw (le-leb 48 c (ltb-false c 48 h), le-leb c 57 (ltb-false 57 c k)) at e in
    absurd (true≢false z))
    (known (ltb 57 c)))
    (known (ltb c 48))

pub push-digit : (x c : ℕ) → 48 ≤ c → c ≤ 57 → x * 10 + (c - 48) < 2 ^ 64 → x * 10 + (c - 48) ≡ pushed x c
unfolding pushed
push-digit x c h k l = rw (le-ltb c 48 h, le-ltb 57 c k, lt-ltb (x * 10 + (c - 48)) (2 ^ 64) l)

pub push-unfit : (x c : ℕ) → 48 ≤ c → c ≤ 57 → 2 ^ 64 ≤ x * 10 + (c - 48) → x ≡ pushed x c
unfolding pushed
push-unfit x c h k l = rw (le-ltb c 48 h, le-ltb 57 c k, le-ltb (x * 10 + (c - 48)) (2 ^ 64) l)

pub push-sum : (x c y d : ℕ) (o : Option ℕ) → 48 ≤ c → c ≤ 57 → y ≡ x * 10 → d ≡ c - 48 → SomeIff o (y + d < 2 ^ 64) (y + d) → unwrap_or o x ≡ pushed x c
push-sum x c y d None h k p q w = push-unfit x c h k (omega (arith, w))
push-sum x c y d (Some z) h k p q w = let e : z ≡ x * 10 + (c - 48) = omega arith in e ∙ push-digit x c h k (omega arith)

number-stop : (x c : ℕ) (s : List ℕ) → eqb c 32 ≡ true → number_from x (c ∷ s) ≡ x
unfolding number_from
number-stop x c s e = rw e

number_more : (x c : ℕ) (s : List ℕ) → eqb c 32 ≡ false → number_from x (c ∷ s) ≡ number_from (pushed x c) s
unfolding number_from
number_more x c s e = rw e

number-empty : (x : ℕ) → number_from x [] ≡ x
unfolding number_from
number-empty x = refl

pub number-end : (x : ℕ) (s : List ℕ) (i : ℕ) → i < length s → get_or s i 0 ≡ 32 → number_from x (drop i s) ≡ x
number-end x s i h e = rw (drop-cons s i 0 h) (number-stop x (get_or s i 0) (drop (suc i) s) (eq-eqb _ _ e))

pub number-turn : (x : ℕ) (s : List ℕ) (i : ℕ) → i < length s → (get_or s i 0 ≡ 32 → ⊥) → number_from x (drop i s) ≡ number_from (pushed x (get_or s i 0)) (drop (i + 1) s)
number-turn x s i h e =
    rw (drop-cons s i 0 h) (number_more x (get_or s i 0) (drop (suc i) s) (ne_eqb _ _ e))
    ∙ ap (λ (k : ℕ). number_from (pushed x (get_or s i 0)) (drop k s)) (sym (add-one i))

pub number-none : (x : ℕ) (s : List ℕ) (i : ℕ) → length s ≤ i → number_from x (drop i s) ≡ x
number-none x s i h = rw (drop-none s i h) (number-empty x)

-- ---- hexadecimal

unhexed-pair : (k a b : ℕ) (s : List ℕ) → unhexed (suc k) (a ∷ b ∷ s) ≡ (nibble_of a * 16 + nibble_of b) ∷ unhexed k s
unfolding unhexed
unhexed-pair k a b s = refl

pub unhexed-short : (k : ℕ) (s : List ℕ) → length s < 2 → unhexed k s ≡ []
unfolding unhexed
unhexed-short zero s h = refl
unhexed-short (suc k) [] h = refl
unhexed-short (suc k) (a ∷ []) h = refl
unhexed-short (suc k) (a ∷ b ∷ s) h = absurd (omega arith)

-- n bytes stand at the front, and the others are those of the digits that are left
pub record Halfway (s entry : List ℕ) (bytes : List ℕ) (n : ℕ) (left : List ℕ) : Type 0 where
  pub size : length bytes ≡ length entry
  pub front : s ≡ take n bytes ++ unhexed (length entry - n) left
  pub rest : drop n bytes ≡ drop n entry

pub half-start : (s entry : List ℕ) → Halfway (unhexed (length entry) s) entry entry 0 s
half-start s entry = record { size = refl; front = ap (λ (k : ℕ). unhexed k s) (omega arith); rest = refl }

pub half-turn : (s entry bytes left more : List ℕ) (n a b x y : ℕ) → Halfway s entry bytes n left → n < length bytes → left ≡ a ∷ b ∷ more
    → x ≡ nibble_of a → y ≡ nibble_of b → Halfway s entry (set bytes n (x * 16 + y)) (n + 1) more
half-turn s entry bytes left more n a b x y w h two p q =
    let v = x * 16 + y in
    let z = w.size in
    let m : length entry - n ≡ suc (length entry - (n + 1)) = omega arith in
    let e : unhexed (length entry - n) left ≡ v ∷ unhexed (length entry - (n + 1)) more =
    rw (m, two, p, q) (unhexed-pair (length entry - (n + 1)) a b more)
    in
    let t : take (n + 1) (set bytes n v) ≡ take n bytes ++ (v ∷ []) = rw (add-one n) (take-suc-set bytes n v h) in
    record {
      size = length-set bytes n v ∙ z;
      front = w.front ∙ ap (λ (r : List ℕ). take n bytes ++ r) e ∙ sym (ap (λ (r : List ℕ). r ++ unhexed (length entry - (n + 1)) more) t ∙ append_assoc (take n bytes) (v ∷ []) (unhexed (length entry - (n + 1)) more));
      rest = drop-set-lt (n + 1) bytes n v (omega arith) ∙ sym (drop-drop 1 n bytes) ∙ ap (λ (r : List ℕ). drop 1 r) w.rest ∙ drop-drop 1 n entry;
    }

-- the digits of a pair, and what is left after them
pub pair-first : (s : List ℕ) → 2 ≤ length s → s ≡ get_or s 0 0 ∷ get_or s 1 0 ∷ take (length s - 2) (drop 2 s)
pair-first [] h = absurd (omega arith)
pair-first (a ∷ []) h = absurd (omega arith)
pair-first (a ∷ b ∷ s) h =
    let e : suc (suc (length s)) - 2 ≡ length s = omega arith in
    rw e (ap (λ (t : List ℕ). a ∷ b ∷ t) (sym (take_all (length s) s (omega arith))))

-- no pair of digits is left, or no room
pub half-end : (s entry bytes left : List ℕ) (n : ℕ) → n ≤ length bytes → Halfway s entry bytes n left → unhexed (length entry - n) left ≡ [] → Fronted s entry bytes n
half-end s entry bytes left n h w e =
    let t : s ≡ take n bytes = w.front ∙ rw e (append-nil (take n bytes)) in
    let k : n ≡ length s = sym (ap length t ∙ length-take-le n bytes h) in
    record {
      count = k;
      bytes = sym (take-append-drop n bytes) ∙ rw (← k, ← t, w.rest);
    }

no_room : (s : List ℕ) (k : ℕ) → k ≡ 0 → unhexed k s ≡ []
unfolding unhexed
no_room s k e = rw e

pub half-full : (s entry bytes left : List ℕ) (n m : ℕ) → n ≡ m → m ≡ length entry → n ≤ length bytes → Halfway s entry bytes n left → Fronted s entry bytes m
half-full s entry bytes left n m e f h w = rw (← e) (half-end s entry bytes left n h w (no_room left _ (omega arith)))
