-- A record stored part by part.
use mathlib.Core.Path.{◌≡◌, refl, sym, ap, ap₂, ◌∙◌}
use mathlib.Core.Logic.{⊎_elim}
use mathlib.Core.Bool.{true, false}
use mathlib.Core.List.{List, [], ◌∷◌, ◌++◌, append_assoc, append-nil}
use Prim.Native.Nat.{ℕ, zero, suc, ◌+◌, ◌-◌, ◌*◌, ◌≤◌, ◌<◌}
use native.Mathlib.Omega.{arith}
use borrow.Author.Tests.{leb-true, eqb-true, eqb-false, eq-eqb, ne_eqb, lt-ltb, le-ltb}
use lib.Dec.{eqb, leb}
use lib.ListN.{length, set, take, drop, replicate, length-append, length-drop, drop_of_length-le, replicate-append-replicate}
use lib.Seq.{length-take-le, take_at, paste, length-paste, take-paste}
use Rattle.numbers.specs.Number.{get, put, digits}
use Rattle.numbers.proofs.NumberLaws.{length_digits}
use Rattle.views.specs.declared.View.{View}
use Rattle.std.specs.Prelude.{Ok}
use Rattle.views.specs.Limits.{max_views, max_ordered}
use Rattle.views.specs.Sets.{both}
use Rattle.views.specs.Lists.{no_view, places}
use Rattle.views.proofs.SetLaws.{known, both_true}
use Rattle.views.proofs.PlaceLaws.{places-short}
use Rattle.wire.specs.declared.Frame.{Frame}
use Rattle.wire.specs.Format.{kind_of, view_bytes, views_bytes, told_fits}
use Rattle.wire.specs.Reader.{kind_in, view_count, views_in, number_in, frame_in, scan_of, whole_of}
use Rattle.wire.specs.Widths.{AreBytes}
use Rattle.wire.specs.Writer.{number_of, overwritten}
use Rattle.wire.specs.Records.{record_size, head_bytes, record_bytes, counted}
use Rattle.wire.proofs.SeamLaws.{byte-seam, number-seam, length-views_bytes, views_bytes-append}
use Rattle.wire.proofs.ReaderLaws.{length-views_in}
use Rattle.wire.proofs.TripViews.{views-again}
use Rattle.wire.proofs.TripRead.{scanned, message-read}

-- ---- stored

pub length-head : (kind g x n : ℕ) → length (head_bytes kind g x n) ≡ 14
unfolding head_bytes
length-head kind g x n = simp length-append (omega (arith, length_digits 4 g, length_digits 8 x, length_digits 1 n))

-- b1, b2 and b3 after each number
pub head-stored : (kind g x n : ℕ) (b b1 b2 b3 : List ℕ) → length b ≡ record_size
    → b1 ≡ put (set b 0 kind) 1 4 g → b2 ≡ put b1 5 8 x → b3 ≡ put b2 13 1 n
    → b3 ≡ overwritten (head_bytes kind g x n) b
unfolding head_bytes
head-stored kind g x n b b1 b2 b3 l p q r =
    let f = kind ∷ digits 4 g in
    let lf : length f ≡ 5 = omega (arith, length_digits 4 g) in
    let one : b1 ≡ overwritten f b =
    p ∙ ap (λ (y : List ℕ). put y 1 4 g) (byte-seam [] b 0 kind refl (omega arith)) ∙ number-seam (kind ∷ []) b 1 4 g refl (omega arith)
    in
    let two : b2 ≡ overwritten (f ++ digits 8 x) b = q ∙ ap (λ (y : List ℕ). put y 5 8 x) one ∙ number-seam f b 5 8 x lf (omega arith) in
    let lg : length (f ++ digits 8 x) ≡ 13 = length-append f (digits 8 x) ∙ omega (arith, length_digits 8 x) in
    r ∙ ap (λ (y : List ℕ). put y 13 1 n) two ∙ number-seam (f ++ digits 8 x) b 13 1 n lg (omega arith)
    ∙ ap (λ (y : List ℕ). overwritten y b) (append_assoc f (digits 8 x) (digits 1 n))

pub length-record : (f : Frame) → length f.views.at ≡ max_views → length (record_bytes f) ≡ record_size
unfolding record_bytes
length-record f z =
    let head = head_bytes (kind_of f.message) f.view.0 (number_of f.message) f.views.count in
    length-append head (views_bytes f.views.at)
    ∙ omega (arith, length-head (kind_of f.message) f.view.0 (number_of f.message) f.views.count, length-views_bytes f.views.at)

-- views in all their places: 0 stands behind them
no-views-bytes : (k : ℕ) → views_bytes (replicate k no_view) ≡ replicate (5 * k) 0
unfolding views_bytes view_bytes digits
no-views-bytes zero = refl
no-views-bytes (suc k) =
    let e : 5 * suc k ≡ 5 + 5 * k = omega arith in
    rw (no-views-bytes k, e) (replicate-append-replicate {A = ℕ} 5 (5 * k) 0)

places-bytes : (l : List View) → length l ≤ max_views → views_bytes (places l) ≡ views_bytes l ++ replicate (5 * (max_views - length l)) 0
places-bytes l h =
    ap views_bytes (places-short l h) ∙ views_bytes-append l (replicate (max_views - length l) no_view)
    ∙ ap (λ (r : List ℕ). views_bytes l ++ r) (no-views-bytes (max_views - length l))

-- c after the views are copied, d after the rest, which lies from k on, is cleared
pub views-put : (b from : List ℕ) (at n k z : ℕ) (c d : List ℕ) → length b ≡ record_size → n ≤ max_views → at + 5 * n ≤ length from → AreBytes from
    → k ≡ 14 + 5 * n → z ≡ 174 - k → c ≡ paste b 14 (drop at from) (5 * n)
    → d ≡ take k c ++ (replicate (length (take z (drop k c))) 0 ++ drop z (drop k c))
    → d ≡ take 14 b ++ views_bytes (places (views_in from at n))
views-put b from at n k z c d size few h y ek ez ec ed =
    let l = views_in from at n in
    let ll : length l ≡ n = length-views_in from at n in
    let s : 5 * n ≤ length (drop at from) = rw (length-drop at from) (omega arith) in
    let lc : length c ≡ record_size = ap length ec ∙ length-paste b 14 (drop at from) (5 * n) (omega arith) s ∙ size in
    let head : take k c ≡ take 14 b ++ views_bytes l =
    ap₂ (λ (i : ℕ) (r : List ℕ). take i r) ek ec ∙ take-paste b 14 (drop at from) (5 * n) (omega arith) s ∙ rw (views-again from at n h y)
    in
    let ld : length (drop k c) ≡ z = length-drop k c ∙ omega arith in
    let rest : length (take z (drop k c)) ≡ 5 * (max_views - length l) = length-take-le z (drop k c) (omega arith) ∙ omega arith in
    let none : drop z (drop k c) ≡ [] = drop_of_length-le (drop k c) {i = z} (omega arith) in
    ed ∙ rw (head, rest, none, append-nil {A = ℕ} (replicate (5 * (max_views - length l)) 0), places-bytes l (omega arith))
    (append_assoc (take 14 b) (views_bytes l) (replicate (5 * (max_views - length l)) 0))

-- the record of the message at the front of the bytes b: c after what stands before the views, d after the views
pub record-stored : (b : List ℕ) → AreBytes b → scan_of b ≡ Ok tt → whole_of b ≡ Ok tt → (g x : ℕ) (out c d : List ℕ)
    → g ≡ get b 1 4 → x ≡ number_in b → c ≡ overwritten (head_bytes (kind_in b) g x (view_count b)) out
    → d ≡ take 14 c ++ views_bytes (places (views_in b 6 (view_count b)))
    → d ≡ record_bytes (frame_in b)
unfolding record_bytes
record-stored b y scan content g x out c d eg ex ec ed =
    let a = message-read b y (scanned b scan) content in
    let head = head_bytes (kind_in b) g x (view_count b) in
    let front : take 14 c ≡ head =
    ap (take 14) ec ∙ take_at head (drop (length head) out) 14 (length-head (kind_in b) g x (view_count b))
    in
    ed ∙ rw (front, a.kind-again, a.number-again, eg, ex, length-views_in b 6 (view_count b))

-- ---- a told's count

pub counted-large : (kind x : ℕ) → kind ≡ 4 → 256 ≤ x → 0 ≡ counted kind x
unfolding counted
counted-large kind x e h = rw (eq-eqb kind 4 e, le-ltb x 256 h)

pub counted-small : (kind x : ℕ) → kind ≡ 4 → x < 256 → x ≡ counted kind x
unfolding counted
counted-small kind x e h = rw (eq-eqb kind 4 e, lt-ltb x 256 h)

pub counted-other : (kind x : ℕ) → (kind ≡ 4 → ⊥) → x ≡ counted kind x
unfolding counted
counted-other kind x e = rw (ne_eqb kind 4 e)

-- a told's count in its range stays as it is
pub counted-kept : (kind x : ℕ) → told_fits kind x ≡ true → counted kind x ≡ x
unfolding told_fits
counted-kept kind x h =
    ⊎_elim
    (λ (e : eqb kind 4 ≡ true).
    let w : both (leb 1 x) (leb x max_ordered) ≡ true = rw e at h in
    let (_, few) = both_true (leb 1 x) (leb x max_ordered) w in
    sym (counted-small kind x (eqb-true kind 4 e) (omega (arith, leb-true x max_ordered few))))
    (λ (e : eqb kind 4 ≡ false). sym (counted-other kind x (eqb-false kind 4 e)))
    (known (eqb kind 4))
