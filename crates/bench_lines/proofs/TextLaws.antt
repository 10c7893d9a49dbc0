-- Laws of a text put together in a buffer, part by part.
use mathlib.Core.Path.{◌≡◌, sym, ap, ◌∙◌}
use mathlib.Core.List.{List, [], ◌∷◌, ◌++◌, append_assoc}
use Prim.Native.Nat.{ℕ, zero, suc, ◌+◌, ◌-◌, ◌*◌, ◌/◌, ◌%◌, ◌^◌, ◌<◌, ◌≤◌}
use native.Mathlib.Nat.{zero-add, pow-suc}
use native.Mathlib.Numerals.{add-one}
use native.Mathlib.Omega.{arith}
use lib.ListN.{length, set, take, drop, length-append, length-set, length-drop}
use lib.Seq.{drop-cons, drop-set-lt, get_or-set_same, take_all, take_at}
use Rattle.wire.specs.Writer.{overwritten}
use Rattle.bench_lines.specs.Numerals.{decimal}
use Rattle.bench_lines.specs.TextParts.{Put}
use Rattle.bench_lines.proofs.DecimalLaws.{decimal-small, decimal_step}

-- ---- bytes put at a place

pub put_same : (s t b c : List ℕ) (at n : ℕ) → s ≡ t → Put s b at c n → Put t b at c n
put_same s t b c at n e p = rw e at p

-- at the front: what is put overwrites
pub put_front : (s b c : List ℕ) (n : ℕ) → n ≡ length s → c ≡ overwritten s b → Put s b 0 c n
put_front s b c n e p = record { next = e ∙ sym (zero-add (length s)); bytes = p ∙ ap (λ (k : ℕ). s ++ drop k b) (sym (zero-add (length s))) }

pub front-put : (s b c : List ℕ) (n : ℕ) → Put s b 0 c n → (n ≡ length s) × (c ≡ overwritten s b)
front-put s b c n p = (p.next ∙ zero-add (length s), p.bytes ∙ ap (λ (k : ℕ). s ++ drop k b) (zero-add (length s)))

pub put-le : (s b c : List ℕ) (n : ℕ) → Put s b 0 c n → n ≤ length c
put-le s b c n p =
    let t = front-put s b c n p in
    rw t.1 (omega (arith, t.0, length-append s (drop (length s) b)))

-- what was put stands at the front
pub put-take : (s b c : List ℕ) (n : ℕ) → Put s b 0 c n → take n c ≡ s
put-take s b c n p = let t = front-put s b c n p in rw t.1 (take_at s (drop (length s) b) n (sym t.0))

-- ---- a number, from its last digit to its first

-- a number of more than one digit has room for another before it
pub digit_room : (i x : ℕ) → 9 < x → x < 10 ^ (i + 1) → 0 < i
digit_room zero x h l = absurd (omega arith)
digit_room (suc i) x h l = omega arith

set_front : (d : List ℕ) (i c : ℕ) → i < length d → drop i (set d i c) ≡ c ∷ drop (i + 1) d
set_front d i c h =
    let n : i < length (set d i c) = rw (length-set d i c) h in
    rw (add-one i) (drop-cons (set d i c) i 0 n ∙ rw (get_or-set_same d i c 0 h, drop-set-lt (suc i) d i c (omega arith)))

-- a turn: the last digit of what is left goes before those that are there
pub number-turn : (x rest i : ℕ) (d : List ℕ) → i < length d → 9 < rest → rest < 10 ^ 20 → 0 < i → decimal x ≡ decimal rest ++ drop (i + 1) d
    → decimal x ≡ decimal (rest / 10) ++ drop (i - 1 + 1) (set d i (48 + rest % 10))
number-turn x rest i d h k l z e =
    let n : i - 1 + 1 ≡ i = omega arith in
    e
    ∙ ap (λ (t : List ℕ). t ++ drop (i + 1) d) (decimal_step rest k l)
    ∙ append_assoc (decimal (rest / 10)) ((48 + rest % 10) ∷ []) (drop (i + 1) d)
    ∙ rw (n, set_front d i (48 + rest % 10) h)

pub number-room : (i rest : ℕ) → 0 < i → rest < 10 ^ (i + 1) → rest / 10 < 10 ^ (i - 1 + 1)
number-room i rest z h =
    let n : i - 1 + 1 ≡ i = omega arith in
    let p : 10 ^ suc i ≡ 10 ^ i * 10 = pow-suc 10 i in
    let q : rest < 10 ^ suc i = rw add-one at h in
    rw n (omega arith)

-- the first digit, and the numeral is whole
pub number-end : (x rest i : ℕ) (d : List ℕ) → i < length d → rest ≤ 9 → decimal x ≡ decimal rest ++ drop (i + 1) d → length d ≡ 20
    → take (20 - i) (drop i (set d i (48 + rest))) ≡ decimal x
number-end x rest i d h k e z =
    let n : length (drop i (set d i (48 + rest))) ≡ 20 - i = length-drop i (set d i (48 + rest)) ∙ omega (arith, length-set d i (48 + rest)) in
    take_all (20 - i) (drop i (set d i (48 + rest))) (omega arith)
    ∙ set_front d i (48 + rest) h
    ∙ sym (e ∙ ap (λ (t : List ℕ). t ++ drop (i + 1) d) (decimal-small rest (omega arith)))
