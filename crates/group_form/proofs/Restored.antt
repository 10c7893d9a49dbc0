-- What was copied, put back: it is as it was. A whole range, as the books, and two parts of one, as the queues.
use mathlib.Core.Path.{◌≡◌, sym, ap, ◌∙◌}
use mathlib.Core.Logic.{◌⊎◌, inl, inr}
use mathlib.Core.List.{List, [], ◌++◌, append-nil}
use Prim.Native.Nat.{ℕ, ◌+◌, ◌-◌, ◌≤◌, ◌<◌}
use native.Mathlib.Nat.{zero-add}
use native.Mathlib.Omega.{arith}
use native.Mathlib.Decide.{dec_lt}
use lib.ListN.{length, get_or, take, drop, length-append, length-drop, get_or-append}
use lib.Seq.{paste, ext_get_or, length-paste, take_all, take-paste, drop-length, get_or-take, get_or-drop, get_or-append-add, length-take-le}
use Rattle.group_bytes.specs.Places.{head_size, table_size, order_at}
use Rattle.slots.proofs.Outside.{Changed, copy-changed, copy-same}
use Rattle.group_bytes.proofs.Confined.{Within}
use Rattle.group_form.specs.Parts.{kept_of, put_back}

-- ---- a whole range of n bytes

pub copied : (z b : List ℕ) (n : ℕ) → length z ≡ n → length b ≡ n → paste z 0 b n ≡ b
copied z b n e f =
    let rest : drop (0 + n) z ≡ [] = ap (λ (k : ℕ). drop k z) (zero-add n ∙ sym e) ∙ drop-length z in
    rw (rest, take_all n b (omega (arith, f))) (append-nil b)

-- ---- a front of h bytes and t bytes at a, copied and put back

module _ (q : List ℕ) (h a t : ℕ) (before : h ≤ a) (inside : a + t ≤ length q) where
  -- the copy
  abbrev kept : List ℕ
  kept = take h q ++ take t (drop a q)

  front-size : length (take h q) ≡ h
  front-size = length-take-le h q (omega arith)

  part-size : length (take t (drop a q)) ≡ t
  part-size = length-take-le t (drop a q) (omega (arith, length-drop a q))

  pub kept-size : length kept ≡ h + t
  kept-size = length-append (take h q) (take t (drop a q)) ∙ omega (arith, front-size, part-size)

  kept-front : (j : ℕ) → j < h → get_or kept j 0 ≡ get_or q j 0
  kept-front j l = get_or-append (take h q) (take t (drop a q)) 0 j (omega (arith, front-size)) ∙ get_or-take h q j 0 l

  kept-part : (j : ℕ) → j < t → get_or kept (h + j) 0 ≡ get_or q (a + j) 0
  kept-part j l =
      ap (λ (k : ℕ). get_or kept (k + j) 0) (sym front-size) ∙ get_or-append-add (take h q) (take t (drop a q)) j 0 ∙ get_or-take t (drop a q) j 0 l ∙ get_or-drop a q j 0

  -- it is what two copies leave in bytes of its length
  pub saved : (z : List ℕ) → length z ≡ h + t → paste (paste z 0 q h) h (drop a q) t ≡ kept
  saved z n =
      let x = paste z 0 q h in
      let size : length x ≡ h + t = length-paste z 0 q h (omega arith) (omega arith) ∙ n in
      let front : take h x ≡ take h q = ap (λ (k : ℕ). take k x) (sym (zero-add h)) ∙ take-paste z 0 q h (omega arith) (omega arith) in
      let rest : drop (h + t) x ≡ [] = ap (λ (k : ℕ). drop k x) (sym size) ∙ drop-length x in
      rw (front, rest) (append-nil (take h q ++ take t (drop a q)))

  -- put back into bytes that differ in these places alone
  module _ (d : List ℕ) (long : length d ≡ length q) (same : (j : ℕ) → h ≤ j → (j < a) ⊎ (a + t ≤ j) → get_or d j 0 ≡ get_or q j 0) where
    abbrev first : List ℕ
    first = paste d 0 kept h

    abbrev last : List ℕ
    last = paste first a (drop h kept) t

    first-changed : Changed d first 0 h
    first-changed = copy-changed d kept 0 0 h (omega (arith, kept-size)) (omega arith)

    first-same : (j : ℕ) → j < h → get_or first j 0 ≡ get_or kept j 0
    first-same j l = rw (zero-add j) at (copy-same d kept 0 0 h (omega (arith, kept-size)) (omega arith) j l)

    last-changed : Changed first last a t
    last-changed = copy-changed first kept h a t (omega (arith, kept-size)) (omega (arith, first-changed.long))

    last-same : (j : ℕ) → j < t → get_or last (a + j) 0 ≡ get_or kept (h + j) 0
    last-same j l = copy-same first kept h a t (omega (arith, kept-size)) (omega (arith, first-changed.long)) j l

    at_each : (j : ℕ) → get_or last j 0 ≡ get_or q j 0
    at_each j =
        elim (dec_lt j h) [
          | yes l ↦ last-changed.below j (omega arith) ∙ first-same j l ∙ kept-front j l
          | no l ↦ elim (dec_lt j a) [
            | yes m ↦ last-changed.below j m ∙ first-changed.past j (omega arith) ∙ same j (omega arith) (inl m)
            | no m ↦ elim (dec_lt j (a + t)) [
              | yes k ↦ let e : j ≡ a + (j - a) = omega arith in
                  ap (λ (x : ℕ). get_or last x 0) e ∙ last-same (j - a) (omega arith) ∙ kept-part (j - a) (omega arith) ∙ ap (λ (x : ℕ). get_or q x 0) (sym e)
              | no k ↦ last-changed.past j (omega arith) ∙ first-changed.past j (omega arith) ∙ same j (omega arith) (inr (omega arith))
            ]
          ]
        ]

    pub restored : last ≡ q
    restored = ext_get_or 0 last q (last-changed.long ∙ first-changed.long ∙ long) (λ j _. at_each j)

-- ---- the queues

pub queues-restored : (q d : List ℕ) (i : ℕ) → order_at i + table_size ≤ length q → Within q d i → put_back d (kept_of q i) i ≡ q
unfolding put_back kept_of
queues-restored q d i inside w = restored q head_size (order_at i) table_size (omega arith) inside d w.long w.same

pub queues-size : (q : List ℕ) (i : ℕ) → order_at i + table_size ≤ length q → length (kept_of q i) ≡ head_size + table_size
unfolding kept_of
queues-size q i inside = kept-size q head_size (order_at i) table_size (omega arith) inside
