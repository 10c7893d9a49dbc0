-- Queues and positions: an entry more at the end, the first one gone, the next one past a position, a position's limit.
use mathlib.Core.Path.{◌≡◌, ap}
use mathlib.Core.Logic.{◌⊎◌, inl, inr, ⊎_elim}
use Rattle.std.specs.Prelude.{Option, None, Some}
use mathlib.Core.List.{List, [], ◌∷◌, ◌++◌}
use Prim.Native.Nat.{ℕ, zero, suc, ◌+◌, ◌≤◌, ◌<◌}
use native.Mathlib.Omega.{arith}
use lib.ListN.{length, take, drop, length-append, length-take, length-drop}
use Rattle.views.specs.declared.View.{View}
use Rattle.views.proofs.Members.{In, top, pop, in-nil, in-cons, in-append}
use Rattle.rules.specs.Data.{EntryOf, Item, item}
use Rattle.rules.specs.Sound.{limit_at}
use Rattle.rules.proofs.Sound.{EntryFacts, QueueFacts, ItemsFrom}

-- ---- one more at the end

-- what is in it was there or is the last
pub in-snoc : {A : Type 0} (l : List A) (x y : A) → In y (l ++ (x ∷ [])) → In y l ⊎ (y ≡ x)
in-snoc l x y i =
    ⊎_elim (λ (j : In y l). inl j) (λ (j : In y (x ∷ [])). ⊎_elim (λ (e : y ≡ x). inr e) (λ (n : In y []). absurd (in-nil n)) (in-cons j)) (in-append l i)

pub length-snoc : {A : Type 0} (l : List A) (x : A) → length (l ++ (x ∷ [])) ≡ length l + 1
length-snoc l x = length-append l (x ∷ [])

module _ {M : Type 0} where
  pub queue-snoc : (n : ℕ) (Known : View → Type 0) (limit : ℕ) (l : List (EntryOf M)) (e : EntryOf M) → length l < limit → EntryFacts n Known e → QueueFacts n Known limit l
      → QueueFacts n Known limit (l ++ (e ∷ []))
  queue-snoc n Known limit l e h k q = record {
    short = omega (arith, length-snoc l e);
    entries = λ x i. ⊎_elim (λ (j : In x l). q.entries x j) (λ (j : x ≡ e). rw j k) (in-snoc l e x i);
  }

  pub queue-one : (n : ℕ) (Known : View → Type 0) (limit : ℕ) (e : EntryOf M) → 1 ≤ limit → EntryFacts n Known e → QueueFacts n Known limit (e ∷ [])
  queue-one n Known limit e h k = record {
    short = h;
    entries = λ x i. ⊎_elim (λ (j : x ≡ e). rw j k) (λ (j : In x []). absurd (in-nil j)) (in-cons i);
  }

  pub items-snoc : (n : ℕ) (l : List (Item M)) (q : ℕ) (x : M) → q < n → ItemsFrom n l → ItemsFrom n (l ++ (item q x ∷ []))
  items-snoc n l q x h f r y i =
      ⊎_elim (λ (j : In (item r y) l). f r y j) (λ (j : item r y ≡ item q x). let e : r ≡ q = cc in omega arith) (in-snoc l (item q x) (item r y) i)

  -- ---- the first one

  pub queue-first : (n : ℕ) (Known : View → Type 0) (limit : ℕ) (l : List (EntryOf M)) (e : EntryOf M) (rest : List (EntryOf M)) → l ≡ e ∷ rest → QueueFacts n Known limit l
      → EntryFacts n Known e × QueueFacts n Known limit rest
  queue-first n Known limit l e rest d q =
      let t : QueueFacts n Known limit (e ∷ rest) = rw d at q in
      (t.entries e top, record { short = omega (arith, t.short); entries = λ x i. t.entries x (pop i) })

-- ---- the next one past a position

drop-in : {A : Type 0} (n : ℕ) (l : List A) (x : A) → In x (drop n l) → In x l
drop-in zero l x i = i
drop-in (suc n) [] x i = i
drop-in (suc n) (y ∷ l) x i = pop (drop-in n l x i)

pub next-in : {A : Type 0} (n : ℕ) (l : List A) (x : A) (rest : List A) → drop n l ≡ x ∷ rest → In x l
next-in n l x rest e = drop-in n l x (rw e top)

pub next-below : {A : Type 0} (n : ℕ) (l : List A) (x : A) (rest : List A) → drop n l ≡ x ∷ rest → n < length l
next-below n l x rest e = omega (arith, length-drop n l, ap length e)

-- of the first m of a list
pub next-taken : {A : Type 0} (n m : ℕ) (l : List A) (x : A) (rest : List A) → drop n (take m l) ≡ x ∷ rest → n < length l
next-taken n m l x rest e = omega (arith, next-below n (take m l) x rest e, length-take m l)

-- ---- a position's limit

pub limit-le : {A : Type 0} (o : Option View) (l : List A) → limit_at o l ≤ length l
limit-le None l = omega arith
limit-le (Some v) l = omega arith

pub limit-at : {A : Type 0} (o : Option View) (v : View) (l : List A) → o ≡ Some v → limit_at o l ≡ length l
limit-at o v l e = rw e

pub limit-snoc : {A : Type 0} (o : Option View) (l : List A) (x : A) → limit_at o l ≤ limit_at o (l ++ (x ∷ []))
limit-snoc None l x = omega arith
limit-snoc (Some v) l x = omega (arith, length-snoc l x)
