-- The first of a column: how many there are, one more, what they depend on, a test of all of them, and what is left from the k-th on.
use mathlib.Core.Path.{◌≡◌, refl, sym, ap, ap₂, ◌∙◌}
use mathlib.Core.Bool.{Bool}
use mathlib.Core.List.{List, [], ◌∷◌, ◌++◌}
use Prim.Native.Nat.{ℕ, zero, suc, ◌+◌, ◌<◌, ◌≤◌}
use native.Mathlib.Decide.{dec_lt}
use native.Mathlib.Numerals.{add-one}
use native.Mathlib.Omega.{arith}
use lib.ListN.{length, drop, length-append, drop_of_length-le}
use Rattle.views.specs.Sets.{both}
use Rattle.rules.specs.Member.{every, all}
use Rattle.rules.proofs.Truth.{both-unit, both-assoc}
use Rattle.slots.specs.Columns.{firsts}

pub length-firsts : {A : Type 0} (f : ℕ → A) (n : ℕ) → length (firsts f n) ≡ n
unfolding firsts
length-firsts f zero = refl
length-firsts f (suc n) = length-append (firsts f n) (f n ∷ []) ∙ omega (arith, length-firsts f n)

pub firsts_more : {A : Type 0} (f : ℕ → A) (n : ℕ) → firsts f (n + 1) ≡ firsts f n ++ (f n ∷ [])
unfolding firsts
firsts_more f n = rw (add-one n)

-- they depend on the first alone
pub firsts_same : {A : Type 0} (f g : ℕ → A) (n : ℕ) → ((k : ℕ) → k < n → f k ≡ g k) → firsts f n ≡ firsts g n
unfolding firsts
firsts_same f g zero h = refl
firsts_same f g (suc n) h =
    ap₂ (λ l x. l ++ (x ∷ [])) (firsts_same f g n (λ k i. h k (omega arith))) (h n (omega arith))

-- a test of each is a test of the list
all_more : {A : Type 0} (p : A → Bool) (l : List A) (x : A) → all p (l ++ (x ∷ [])) ≡ both (all p l) (p x)
unfolding all
all_more p [] x = both-unit (p x)
all_more p (y ∷ l) x = ap (both (p y)) (all_more p l x) ∙ both-assoc (p y) (all p l) (p x)

pub firsts-all : {A : Type 0} (p : A → Bool) (f : ℕ → A) (n : ℕ) → all p (firsts f n) ≡ every n (λ k. p (f k))
unfolding firsts all every
firsts-all p f zero = refl
firsts-all p f (suc n) = all_more p (firsts f n) (f n) ∙ ap (λ (t : Bool). both t (p (f n))) (firsts-all p f n)

-- the k-th and those behind it
drop_more : {A : Type 0} (k : ℕ) (l : List A) (x : A) → k ≤ length l → drop k (l ++ (x ∷ [])) ≡ drop k l ++ (x ∷ [])
drop_more zero l x h = refl
drop_more (suc k) [] x h = absurd (omega arith)
drop_more (suc k) (y ∷ l) x h = drop_more k l x (omega arith)

pub firsts-next : {A : Type 0} (f : ℕ → A) (n k : ℕ) → k < n → drop k (firsts f n) ≡ f k ∷ drop (k + 1) (firsts f n)
unfolding firsts
firsts-next f zero k h = absurd (omega arith)
firsts-next f (suc n) k h =
    let long : length (firsts f n) ≡ n = length-firsts f n in
    elim (dec_lt k n) [
      | yes i ↦ drop_more k (firsts f n) (f n) (omega arith) ∙ ap (λ l. l ++ (f n ∷ [])) (firsts-next f n k i)
          ∙ ap (λ l. f k ∷ l) (sym (drop_more (k + 1) (firsts f n) (f n) (omega arith)))
      | no i ↦ let e : n ≡ k = omega arith in
          drop_more k (firsts f n) (f n) (omega arith) ∙ ap (λ l. l ++ (f n ∷ [])) (drop_of_length-le (firsts f n) {i = k} (omega arith))
          ∙ ap₂ (λ j l. f j ∷ l) e (sym (drop_of_length-le (firsts f n ++ (f n ∷ [])) {i = k + 1} (omega (arith, length-append (firsts f n) (f n ∷ [])))))
    ]
