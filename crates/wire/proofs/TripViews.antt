-- Views as bytes: a list's bytes read back as the list, and the bytes of the views that are read are the bytes they were read from.
use mathlib.Core.Path.{◌≡◌, refl, sym, ap, subst, ◌∙◌}
use mathlib.Core.List.{List, [], ◌∷◌, ◌++◌, append_assoc}
use Prim.Native.Nat.{ℕ, zero, suc, ◌+◌, ◌*◌, ◌^◌, ◌≤◌, ◌<◌}
use native.Mathlib.Nat.{pow-suc}
use native.Mathlib.Omega.{arith}
use lib.ListN.{length, get_or, take, drop, length-append}
use lib.Seq.{get_or-append-add, get_or_at, drop-cons, drop-drop, take-add}
use Rattle.numbers.specs.Number.{get, digits}
use Rattle.numbers.proofs.NumberLaws.{length_digits, get-digits, digits-get}
use Rattle.views.specs.declared.View.{View}
use Rattle.views.specs.Lists.{id_of}
use Rattle.wire.specs.Format.{view_bytes, views_bytes}
use Rattle.wire.specs.Reader.{view_in, views_in}
use Rattle.wire.proofs.SeamLaws.{length-view_bytes}
pub use Rattle.wire.specs.Widths.{ViewFits, EachFits, AreBytes}

-- ---- what is written is read

-- a view's bytes read back, wherever they stand
view-back : (p : List ℕ) (v : View) (q : List ℕ) → id_of v < 256 ^ 4 → view_in (p ++ (view_bytes v ++ q)) (length p) ≡ v
unfolding view_bytes
view-back p v q h =
    let re : (digits 4 (id_of v) ++ (v.set ∷ [])) ++ q ≡ digits 4 (id_of v) ++ (v.set ∷ q) = append_assoc (digits 4 (id_of v)) (v.set ∷ []) q in
    let id : get (p ++ (digits 4 (id_of v) ++ (v.set ∷ q))) (length p) 4 ≡ id_of v = get-digits p 4 (id_of v) (v.set ∷ q) h in
    let set : get_or (p ++ (digits 4 (id_of v) ++ (v.set ∷ q))) (length p + 4) 0 ≡ v.set =
    get_or-append-add p (digits 4 (id_of v) ++ (v.set ∷ q)) 4 0 ∙ get_or_at (digits 4 (id_of v)) v.set q 0 4 (length_digits 4 (id_of v))
    in
    rw (re, id, set)

pub views-back : (p : List ℕ) (l : List View) (q : List ℕ) → EachFits l → views_in (p ++ (views_bytes l ++ q)) (length p) (length l) ≡ l
unfolding views_in views_bytes
views-back p [] q h = refl
views-back p (v ∷ l) q h =
    let front : p ++ ((view_bytes v ++ views_bytes l) ++ q) ≡ p ++ (view_bytes v ++ (views_bytes l ++ q)) =
    ap (λ (r : List ℕ). p ++ r) (append_assoc (view_bytes v) (views_bytes l) q)
    in
    let along : p ++ (view_bytes v ++ (views_bytes l ++ q)) ≡ (p ++ view_bytes v) ++ (views_bytes l ++ q) =
    sym (append_assoc p (view_bytes v) (views_bytes l ++ q))
    in
    let n : length (p ++ view_bytes v) ≡ length p + 5 = length-append p (view_bytes v) ∙ rw (length-view_bytes v) in
    let rest : views_in (p ++ (view_bytes v ++ (views_bytes l ++ q))) (length p + 5) (length l) ≡ l =
    rw (along, ← n) (views-back (p ++ view_bytes v) l q (λ (j : ℕ). h (suc j)))
    in
    subst (λ (z : List ℕ). view_in z (length p) ∷ views_in z (length p + 5) (length l) ≡ v ∷ l) (sym front)
    (rw rest (ap (λ (x : View). x ∷ l) (view-back p v (views_bytes l ++ q) (h 0).id)))

-- ---- what is read is written

-- a byte as a part
pub byte-part : (b : List ℕ) (at : ℕ) → at < length b → take 1 (drop at b) ≡ get_or b at 0 ∷ []
byte-part b at h = rw (drop-cons b at 0 h)

view-again : (b : List ℕ) (at : ℕ) → at + 5 ≤ length b → AreBytes b → view_bytes (view_in b at) ≡ take 5 (drop at b)
unfolding view_bytes
view-again b at h y =
    let id : digits 4 (get b at 4) ≡ take 4 (drop at b) = digits-get b at 4 (omega arith) (λ j m. y (at + j)) in
    let set : take 1 (drop 4 (drop at b)) ≡ get_or b (at + 4) 0 ∷ [] = rw (drop-drop 4 at b) (byte-part b (at + 4) (omega arith)) in
    rw (id, ← set) (sym (take-add 4 1 (drop at b)))

pub views-again : (b : List ℕ) (at n : ℕ) → at + 5 * n ≤ length b → AreBytes b → views_bytes (views_in b at n) ≡ take (5 * n) (drop at b)
unfolding views_in views_bytes
views-again b at zero h y = refl
views-again b at (suc n) h y =
    let k : 5 * suc n ≡ 5 + 5 * n = omega arith in
    let rest : views_bytes (views_in b (at + 5) n) ≡ take (5 * n) (drop 5 (drop at b)) =
    views-again b (at + 5) n (omega arith) y ∙ rw (drop-drop 5 at b)
    in
    rw (k, view-again b at (omega arith) y, rest) (sym (take-add 5 (5 * n) (drop at b)))

-- what is read of bytes is within its width
pub get-fits : (b : List ℕ) (at k : ℕ) → AreBytes b → get b at k < 256 ^ k
unfolding get
get-fits b at zero y = omega arith
get-fits b at (suc k) y = let e : 256 ^ suc k ≡ 256 ^ k * 256 = pow-suc 256 k in omega (arith, get-fits b at k y, y (at + k))

pub views-fit : (b : List ℕ) (at n : ℕ) → AreBytes b → EachFits (views_in b at n)
unfolding views_in
views-fit b at zero y j = record { id = omega arith; set = omega arith }
views-fit b at (suc n) y zero = record { id = get-fits b at 4 y; set = y (at + 4) }
views-fit b at (suc n) y (suc j) = views-fit b (at + 5) n y j
