-- What a walk over entries or slots checks: n of them from a place on. What a walk over the items of a list does at each, of which i are passed.
use mathlib.Core.Path.{◌≡◌, refl, sym, ap, ◌∙◌}
use mathlib.Core.Bool.{Bool, true}
use mathlib.Core.List.{List}
use Prim.Native.Nat.{ℕ, zero, suc, ◌+◌, ◌-◌, ◌*◌, ◌<◌, max}
use native.Mathlib.Numerals.{add-one}
use native.Mathlib.Omega.{arith}
use borrow.Author.Tests.{ltb-true, lt-ltb}
use lib.Dec.{ltb}
use lib.ListN.{get_or}
use Rattle.std.specs.List.{list_all, range_with_len}
use Rattle.std.specs.Ordering.{nat_cmp, ord_max}
use Rattle.std.proofs.lemmas.Grind.{common_steps}
use Rattle.views.specs.Sets.{both}
use Rattle.views.proofs.SetLaws.{both_true}
use Rattle.rules.specs.Data.{Entry}
use Rattle.rules.specs.Member.{every, all}
use Rattle.rules.specs.Sound.{item_from_member}
use Rattle.rules.proofs.TestLaws.{both-from}
use Rattle.rules.proofs.Truth.{alike}
use Rattle.slots.specs.Slots.{slot_size, entry_in, entries_in, slot_fits, slots_fit}
use Rattle.slots.specs.Columns.{item_sender, item_in, items_in}
use Rattle.slots.proofs.Columns.{firsts-all}
use Rattle.book_sound.proofs.ViewWalks.{both-and}

-- ---- one of n entries from a place on, of which i are passed

module _ (b : List ℕ) (at n i : ℕ) (h : i < n) where
  left : n - i ≡ suc (n - (i + 1))
  left = omega arith

  slot_next : at + slot_size * i + slot_size ≡ at + slot_size * (i + 1)
  slot_next = omega arith

  pub entries-turn : (f : Entry → Bool)
      → all f (entries_in b (at + slot_size * i) (n - i)) ≡ both (f (entry_in b (at + slot_size * i))) (all f (entries_in b (at + slot_size * (i + 1)) (n - (i + 1))))
  unfolding all entries_in
  entries-turn f = rw (left, slot_next)

pub entries-start : (b : List ℕ) (at n : ℕ) (f : Entry → Bool) → all f (entries_in b at n) ≡ all f (entries_in b (at + slot_size * 0) (n - 0))
entries-start b at n f =
    let slot-first : at + slot_size * 0 ≡ at = omega arith in
    let none_passed : n - 0 ≡ n = omega arith in
    rw (slot-first, none_passed)

pub entries-end : (b : List ℕ) (at n : ℕ) → n ≡ 0 → (f : Entry → Bool) → all f (entries_in b at n) ≡ true
unfolding all entries_in
entries-end b at n z f = rw z

-- ---- every slot, and every entry

-- from the i-th on
slots_from : (b : List ℕ) (at i n : ℕ) → list_all (λ k. slot_fits b (at + slot_size * k)) (range_with_len i n) ≡ slots_fit b (at + slot_size * i) n
unfolding slots_fit
slots_from b at i zero = refl
slots_from b at i (suc n) =
    let next : at + slot_size * i + slot_size ≡ at + slot_size * (i + 1) = omega arith in
    both-and (slot_fits b (at + slot_size * i)) _ ∙ rw (slots_from b at (i + 1) n, next)

pub all-slots : (b : List ℕ) (at n : ℕ) → list_all (λ k. slot_fits b (at + slot_size * k)) (range_with_len 0 n) ≡ slots_fit b at n
all-slots b at n = let first : at + slot_size * 0 ≡ at = omega arith in rw first at (slots_from b at 0 n)

entries_from : (b : List ℕ) (at i n : ℕ) (f : Entry → Bool) → list_all (λ k. f (entry_in b (at + slot_size * k))) (range_with_len i n) ≡ all f (entries_in b (at + slot_size * i) n)
unfolding all entries_in
entries_from b at i zero f = refl
entries_from b at i (suc n) f =
    let next : at + slot_size * i + slot_size ≡ at + slot_size * (i + 1) = omega arith in
    both-and (f (entry_in b (at + slot_size * i))) _ ∙ rw (entries_from b at (i + 1) n f, next)

pub all-entries : (b : List ℕ) (at n : ℕ) (f : Entry → Bool) → list_all (λ k. f (entry_in b (at + slot_size * k))) (range_with_len 0 n) ≡ all f (entries_in b at n)
all-entries b at n f = let first : at + slot_size * 0 ≡ at = omega arith in rw first at (entries_from b at 0 n f)

-- ---- the items of an inward list: their senders are members where the highest of them is

-- the library's greater of two numbers
greater : (x y : ℕ) → ord_max nat_cmp x y ≡ max x y
greater x y = grind (arith, common_steps)

module _ (b : List ℕ) (c n : ℕ) where
  -- the first i senders are members
  abbrev pub senders_below : ℕ → Bool
  senders_below i = every i (λ k. ltb (get_or b (item_sender c k) 0) n)

  pub senders-start : 0 < n → ltb 0 n ≡ senders_below 0
  unfolding every
  senders-start h = lt-ltb 0 n h

  senders-turn : (x i : ℕ) → ltb x n ≡ senders_below i → both (ltb x n) (ltb (get_or b (item_sender c i) 0) n) ≡ senders_below (i + 1)
  unfolding every
  senders-turn x i e = rw (add-one i) (ap (λ (t : Bool). both t (ltb (get_or b (item_sender c i) 0) n)) e)

  -- one sender more
  pub senders-max : (x i y z : ℕ) → ltb x n ≡ senders_below i → y ≡ get_or b (item_sender c i) 0 → z ≡ ord_max nat_cmp x y → ltb z n ≡ senders_below (i + 1)
  senders-max x i y z e f h =
      let m : z ≡ max x y = h ∙ greater x y in
      alike (ltb z n) (both (ltb x n) (ltb y n))
      (λ t. both-from (ltb x n) (ltb y n) (lt-ltb x n (omega (arith, ltb-true z n t))) (lt-ltb y n (omega (arith, ltb-true z n t))))
      (λ t. let s = both_true (ltb x n) (ltb y n) t in lt-ltb z n (omega (arith, ltb-true x n s.0, ltb-true y n s.1)))
      ∙ rw f (senders-turn x i e)

  pub senders-end : senders_below (get_or b c 0) ≡ all (item_from_member n) (items_in b c)
  senders-end = sym (firsts-all (item_from_member n) (item_in b c) (get_or b c 0))
