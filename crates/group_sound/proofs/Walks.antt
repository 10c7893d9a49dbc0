-- What a walk over the first numbers knows, and what a walk over the slots of a queue does at each.
use mathlib.Core.Path.{◌≡◌, refl, ap, ap₂, ◌∙◌}
use mathlib.Core.Logic.{⊎_elim}
use mathlib.Core.Bool.{Bool, true, false}
use mathlib.Core.List.{List}
use Prim.Native.Nat.{ℕ, zero, suc, ◌+◌, ◌*◌, ◌<◌, ◌≤◌}
use native.Mathlib.Omega.{arith}
use borrow.Author.Tests.{eqb-true, eqb-false}
use lib.Dec.{eqb}
use Rattle.std.specs.Prelude.{◌&&◌}
use Rattle.std.specs.List.{list_all, range_with_len}
use Rattle.views.specs.declared.View.{View}
use Rattle.views.specs.Sets.{both}
use Rattle.views.proofs.SetLaws.{known}
use Rattle.rules.specs.Data.{Entry}
use Rattle.rules.specs.Member.{every, all}
use Rattle.rules.specs.Sound.{info_listed}
use Rattle.rules.proofs.TestLaws.{every-from}
use Rattle.rules.proofs.Truth.{three}
use Rattle.slots.specs.Slots.{slot_size, entry_in, entries_in, slot_fits, slots_fit}
use Rattle.book_sound.specs.EntryParts.{entry_sound}
use Rattle.group_sound.specs.Parts.{entry_known, entries_known}

-- ---- the first numbers

-- f holds of every number below k
abbrev pub Below : (ℕ → Bool) → ℕ → Type 0
Below f k = (p : ℕ) → p < k → f p ≡ true

pub below_none : (f : ℕ → Bool) → Below f 0
below_none f p h = absurd (omega arith)

pub below_more : (f : ℕ → Bool) (k : ℕ) → Below f k → f k ≡ true → Below f (k + 1)
below_more f k g t = λ p h.
    ⊎_elim (λ (e : eqb p k ≡ true). rw (eqb-true p k e) t)
    (λ (e : eqb p k ≡ false). g p (omega (arith, eqb-false p k e)))
    (known (eqb p k))

pub below_end : (n : ℕ) (f : ℕ → Bool) (k : ℕ) → n ≤ k → Below f k → every n f ≡ true
below_end n f k h g = every-from n f (λ p i. g p (omega arith))

in_turn : (a b c : Bool) → both a (b && c) ≡ both (both a b) c
in_turn false b c = refl
in_turn true false c = refl
in_turn true true c = refl

at_the_end : (a : Bool) → both a true ≡ a
at_the_end false = refl
at_the_end true = refl

-- f asked of the n numbers from a on, once it was asked of those below a
every_past : (f : ℕ → Bool) (n a : ℕ) → both (every a f) (list_all f (range_with_len a n)) ≡ every (a + n) f
unfolding every
every_past f zero a = let same : a + 0 ≡ a = omega arith in rw same (at_the_end (every a f))
every_past f (suc n) a =
    let next : suc a ≡ a + 1 = omega arith in
    let whole : a + 1 + n ≡ a + suc n = omega arith in
    let rest = list_all f (range_with_len (a + 1) n) in
    in_turn (every a f) (f a) rest ∙ ap (λ k. both (every k f) rest) next ∙ every_past f n (a + 1) ∙ ap (λ k. every k f) whole

-- f asked of the first n numbers in turn
pub every_listed : (f : ℕ → Bool) (n : ℕ) → list_all f (range_with_len 0 n) ≡ every n f
unfolding every
every_listed f n = let same : 0 + n ≡ n = omega arith in every_past f n 0 ∙ ap (λ k. every k f) same

-- ---- n slots in turn, from the slot a of a queue on

and_both : (a b : Bool) → (a && b) ≡ both a b
and_both false b = refl
and_both true b = refl

module _ (q : List ℕ) (at : ℕ) where
  slot_first : at + slot_size * 0 ≡ at
  slot_first = omega arith

  slot_next : (a : ℕ) → at + slot_size * (a + 1) ≡ at + slot_size * a + slot_size
  slot_next a = omega arith

  module _ (views : List View) (m : ℕ) where
    known_past : (n a : ℕ) → list_all (λ i. entry_known views m q (at + slot_size * i)) (range_with_len a n) ≡ entries_known views m q (at + slot_size * a) n
    unfolding entries_known
    known_past zero a = refl
    known_past (suc n) a =
        let here = entry_known views m q (at + slot_size * a) in
        and_both here _ ∙ ap (both here) (known_past n (a + 1) ∙ rw (slot_next a))

    pub known_listed : (n : ℕ) → list_all (λ i. entry_known views m q (at + slot_size * i)) (range_with_len 0 n) ≡ entries_known views m q at n
    known_listed n = known_past n 0 ∙ rw slot_first

  module _ (f : Entry → Bool) where
    entries_past : (n a : ℕ) → list_all (λ i. f (entry_in q (at + slot_size * i))) (range_with_len a n) ≡ all f (entries_in q (at + slot_size * a) n)
    unfolding all entries_in
    entries_past zero a = refl
    entries_past (suc n) a =
        let here = f (entry_in q (at + slot_size * a)) in
        and_both here _ ∙ ap (both here) (entries_past n (a + 1) ∙ rw (slot_next a))

    pub entries_listed : (n : ℕ) → list_all (λ i. f (entry_in q (at + slot_size * i))) (range_with_len 0 n) ≡ all f (entries_in q at n)
    entries_listed n = entries_past n 0 ∙ rw slot_first

-- three tests of each are each test of all
pub together : (a b c x y z : Bool) → both (both a (both b c)) (both x (both y z)) ≡ both (both a x) (both (both b y) (both c z))
together false b c x y z = refl
together true false c false y z = refl
together true false c true y z = refl
together true true false false y z = refl
together true true false true false z = refl
together true true false true true z = refl
together true true true false y z = refl
together true true true true false z = refl
together true true true true true z = refl

-- all slots together, test by test
pub known-are : (views : List View) (m : ℕ) (q : List ℕ) (at n : ℕ)
    → entries_known views m q at n ≡ both (slots_fit q at n) (both (all (entry_sound m) (entries_in q at n)) (all (info_listed views) (entries_in q at n)))
unfolding entries_known entry_known slots_fit entries_in all
known-are views m q at zero = refl
known-are views m q at (suc n) =
    ap₂ both (three (slot_fits q at) (entry_sound m (entry_in q at)) (info_listed views (entry_in q at))) (known-are views m q (at + slot_size) n)
    ∙ together (slot_fits q at) (entry_sound m (entry_in q at)) (info_listed views (entry_in q at))
    (slots_fit q (at + slot_size) n) (all (entry_sound m) (entries_in q (at + slot_size) n)) (all (info_listed views) (entries_in q (at + slot_size) n))
