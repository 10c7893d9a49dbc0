-- A buffer written from its front, a part at a time: `overwritten d b` is the bytes d so far, then the rest of the buffer b.
use mathlib.Core.Path.{◌≡◌, refl, sym, ap, ◌∙◌}
use mathlib.Core.List.{List, [], ◌∷◌, ◌++◌, append_assoc, append-nil}
use Prim.Native.Nat.{ℕ, suc, ◌+◌, ◌*◌, ◌<◌, ◌≤◌}
use native.Mathlib.Numerals.{add-one}
use native.Mathlib.Omega.{arith}
use lib.ListN.{length, get_or, set, take, drop, length-append, take-append-drop}
use lib.Seq.{append_snoc, drop-cons, drop-drop, drop-append-add, length-take-le, set-append_seam, take-append_seam, take-suc, take-length}
use Rattle.numbers.specs.Number.{put, digits}
use Rattle.numbers.proofs.NumberLaws.{length_digits, put-seam}
use Rattle.views.specs.declared.View.{View}
use Rattle.views.specs.Lists.{id_of, no_view}
use Rattle.wire.specs.Format.{view_bytes, views_bytes}
use Rattle.wire.specs.Writer.{overwritten}

-- ---- one more part

pub byte-seam : (d b : List ℕ) (at x : ℕ) → length d ≡ at → at < length b → set (overwritten d b) at x ≡ overwritten (d ++ x ∷ []) b
byte-seam d b at x e h =
    let n : length (d ++ x ∷ []) ≡ suc (length d) = length-append d (x ∷ []) ∙ add-one (length d) in
    rw (← e, n, drop-cons b (length d) 0 (omega arith), append_snoc d x (drop (suc (length d)) b))
    (set-append_seam d (get_or b (length d) 0) (drop (suc (length d)) b) x)

pub number-seam : (d b : List ℕ) (at k x : ℕ) → length d ≡ at → at + k ≤ length b → put (overwritten d b) at k x ≡ overwritten (d ++ digits k x) b
number-seam d b at k x e h =
    rw (← e) (put-seam d b k x (omega arith) ∙ rw (length-append d (digits k x), length_digits k x))

-- a part e of k bytes, pasted just behind d
pub part-seam : (d e b : List ℕ) (at k : ℕ) → length d ≡ at → length e ≡ k
    → take at (overwritten d b) ++ (e ++ drop (at + k) (overwritten d b)) ≡ overwritten (d ++ e) b
part-seam d e b at k p q =
    rw (← p, ← q, take-append_seam d (drop (length d) b), drop-append-add d (drop (length d) b) (length e), drop-drop (length e) (length d) b, length-append d e)
    (sym (append_assoc d e (drop (length d + length e) b)))

-- what stood before a part, the part, and what stood behind it
pub part-whole : (e b : List ℕ) (at k : ℕ) → at ≤ length b → length e ≡ k
    → overwritten (take at b ++ e) b ≡ take at b ++ (e ++ drop (at + k) b)
part-whole e b at k h q =
    let n : length (take at b ++ e) ≡ at + k = length-append (take at b) e ∙ omega (arith, length-take-le at b h) in
    rw n (append_assoc (take at b) e (drop (at + k) b))

-- ---- views in bytes

pub length-view_bytes : (v : View) → length (view_bytes v) ≡ 5
unfolding view_bytes
length-view_bytes v = length-append (digits 4 (id_of v)) (v.set ∷ []) ∙ omega (arith, length_digits 4 (id_of v))

pub length-views_bytes : (l : List View) → length (views_bytes l) ≡ 5 * length l
unfolding views_bytes
length-views_bytes [] = refl
length-views_bytes (v ∷ l) = length-append (view_bytes v) (views_bytes l) ∙ omega (arith, length-view_bytes v, length-views_bytes l)

pub views_bytes-append : (l m : List View) → views_bytes (l ++ m) ≡ views_bytes l ++ views_bytes m
unfolding views_bytes
views_bytes-append [] m = refl
views_bytes-append (v ∷ l) m = ap (λ (r : List ℕ). view_bytes v ++ r) (views_bytes-append l m) ∙ sym (append_assoc (view_bytes v) (views_bytes l) (views_bytes m))

views_bytes-snoc : (l : List View) (v : View) → views_bytes (l ++ v ∷ []) ≡ views_bytes l ++ view_bytes v
unfolding views_bytes
views_bytes-snoc l v = views_bytes-append l (v ∷ []) ∙ ap (λ (r : List ℕ). views_bytes l ++ r) (append-nil (view_bytes v))

pub view-seam : (d b : List ℕ) (v : View) (at : ℕ) → length d ≡ at → at + 5 ≤ length b
    → set (put (overwritten d b) at 4 (id_of v)) (at + 4) v.set ≡ overwritten (d ++ view_bytes v) b
unfolding view_bytes
view-seam d b v at e h =
    let n : length (d ++ digits 4 (id_of v)) ≡ at + 4 = length-append d (digits 4 (id_of v)) ∙ omega (arith, length_digits 4 (id_of v)) in
    ap (λ (r : List ℕ). set r (at + 4) v.set) (number-seam d b at 4 (id_of v) e (omega arith))
    ∙ byte-seam (d ++ digits 4 (id_of v)) b (at + 4) v.set n (omega arith)
    ∙ ap (λ (r : List ℕ). overwritten r b) (append_assoc d (digits 4 (id_of v)) (v.set ∷ []))

-- ---- views stored one at a time from a place on

-- the buffer b, with the first i views of l stored from the place `from` on
abbrev pub stored : List ℕ → ℕ → List View → ℕ → List ℕ
stored b from l i = overwritten (take from b ++ views_bytes (take i l)) b

length-stored : (b : List ℕ) (from i : ℕ) (l : List View) → from ≤ length b → i ≤ length l → length (take from b ++ views_bytes (take i l)) ≡ from + 5 * i
length-stored b from i l h k =
    length-append (take from b) (views_bytes (take i l))
    ∙ omega (arith, length-take-le from b h, length-views_bytes (take i l), length-take-le i l k)

pub store-start : (b : List ℕ) (from : ℕ) (l : List View) → from ≤ length b → b ≡ stored b from l 0
unfolding views_bytes
store-start b from l h =
    rw (append-nil (take from b), length-take-le from b h) (sym (take-append-drop from b))

pub store-turn : (b : List ℕ) (from i : ℕ) (l : List View) → from + 5 * i + 5 ≤ length b → i < length l
    → set (put (stored b from l i) (from + 5 * i) 4 (id_of (get_or l i no_view))) (from + 5 * i + 4) (get_or l i no_view).set ≡ stored b from l (i + 1)
store-turn b from i l h k =
    let v = get_or l i no_view in
    let d = take from b ++ views_bytes (take i l) in
    let more : views_bytes (take (i + 1) l) ≡ views_bytes (take i l) ++ view_bytes v =
    rw (add-one i, take-suc l i no_view k) (views_bytes-snoc (take i l) v)
    in
    view-seam d b v (from + 5 * i) (length-stored b from i l (omega arith) (omega arith)) h
    ∙ ap (λ (r : List ℕ). overwritten r b) (append_assoc (take from b) (views_bytes (take i l)) (view_bytes v) ∙ ap (λ (r : List ℕ). take from b ++ r) (sym more))

pub store-end : (b : List ℕ) (from i : ℕ) (l : List View) → from ≤ length b → i ≡ length l
    → stored b from l i ≡ take from b ++ (views_bytes l ++ drop (from + 5 * i) b)
store-end b from i l h k =
    rw (k, take-length l) (part-whole (views_bytes l) b from (5 * length l) h (length-views_bytes l))
