-- The writer: a frame's bytes put together from their parts, and what each verdict says of the call.
use mathlib.Core.Path.{◌≡◌, refl, sym, ap, ap₂, ◌∙◌}
use mathlib.Core.List.{List, [], ◌∷◌, ◌++◌, append_assoc, append-nil}
use Prim.Native.Nat.{ℕ, ◌+◌, ◌*◌, ◌<◌, ◌≤◌}
use native.Mathlib.Omega.{arith}
use borrow.Author.Tests.{le-leb, lt-leb}
use lib.ListN.{length, set, take, drop, length-append, take-append-drop}
use lib.Seq.{length-take-le, paste}
use Rattle.numbers.specs.Number.{get, put, digits}
use Rattle.numbers.proofs.NumberLaws.{length_digits, digits-get, put-split}
use Rattle.views.specs.declared.View.{View}
use Rattle.views.specs.declared.ViewId.{ViewId}
use Rattle.views.specs.declared.refusal.Refusal.{Refusal}
use Rattle.views.specs.declared.refusal.Refusal.TheVariants.{BufferTooShort}
use Rattle.std.specs.Prelude.{Ok, Err}
use Rattle.views.specs.Limits.{max_views}
use Rattle.views.specs.Lists.{list_of}
use Rattle.views.specs.Refusals.{and_then, left}
use Rattle.wire.specs.declared.Message.{Message}
use Rattle.wire.specs.declared.Message.TheVariants.{Client, Info, Registered, Told}
use Rattle.wire.specs.declared.Frame.{Frame}
use Rattle.wire.specs.Format.{kind_of, numbers_of, views_bytes, numbers_bytes, bytes_of}
use Rattle.wire.specs.Reader.{views_in}
use Rattle.wire.specs.Widths.{AreBytes}
use Rattle.wire.specs.Writer.{number_of, frame_bytes, frame_verdict, frame_from, write_verdict, overwritten, Wrote}
use Rattle.views.proofs.VerdictLaws.{need-met, need-unmet, need-accepted, then-accepted}
use Rattle.wire.proofs.FormatLaws.{views-few}
use Rattle.wire.proofs.ReaderLaws.{length-views_in, list-views_in}
use Rattle.wire.proofs.TripViews.{views-again}
use Rattle.wire.proofs.SeamLaws.{byte-seam, number-seam, part-seam, part-whole, length-views_bytes}

-- ---- the parts of a frame

-- a message's numbers are one number of 8 bytes, or none
pub numbers-digits : (m : Message) → numbers_bytes (numbers_of m) ≡ digits (8 * length (numbers_of m)) (number_of m)
unfolding numbers_bytes digits
numbers-digits (Client x) = append-nil (digits 8 x)
numbers-digits Info = refl
numbers-digits Registered = refl
numbers-digits (Told k) = append-nil (digits 8 k)

pub length-numbers : (m : Message) → length (numbers_bytes (numbers_of m)) ≡ 8 * length (numbers_of m)
length-numbers m = ap length (numbers-digits m) ∙ length_digits (8 * length (numbers_of m)) (number_of m)

-- the front of a message with n views: kind, identifier, count
abbrev pub front_bytes : ℕ → ℕ → ℕ → List ℕ
front_bytes kind g n = (kind ∷ digits 4 g) ++ (n ∷ [])

length_front : (kind g n : ℕ) → length (front_bytes kind g n) ≡ 6
length_front kind g n = length-append (kind ∷ digits 4 g) (n ∷ []) ∙ omega (arith, length_digits 4 g)

pub length-bytes : (g : ℕ) (m : Message) (l : List View) → length (bytes_of g m l) ≡ 7 + 5 * length l + 8 * length (numbers_of m)
unfolding bytes_of
length-bytes g m l =
    simp length-append (omega (arith, length_digits 4 g, length-views_bytes l, length-numbers m))

regroup : (a v w : List ℕ) (n : ℕ) → ((a ++ n ∷ []) ++ v) ++ w ≡ a ++ ((n ∷ v) ++ w)
regroup a v w n = simp append_assoc

bytes-parts : (g n : ℕ) (m : Message) (l : List View) → length l ≡ n
    → (front_bytes (kind_of m) g n ++ views_bytes l) ++ (length (numbers_of m) ∷ numbers_bytes (numbers_of m)) ≡ bytes_of g m l
unfolding bytes_of
bytes-parts g n m l e =
    rw (← e) (regroup (kind_of m ∷ digits 4 g) (views_bytes l) (length (numbers_of m) ∷ numbers_bytes (numbers_of m)) (length l))

pub length-frame : (f : Frame) → length f.views.at ≡ max_views → f.views.count ≤ max_views
    → length (frame_bytes f) ≡ 7 + 5 * f.views.count + 8 * length (numbers_of f.message)
length-frame f z h =
    length-bytes f.view.0 f.message (list_of f.views)
    ∙ ap (λ (n : ℕ). 7 + 5 * n + 8 * length (numbers_of f.message)) (length-take-le f.views.count f.views.at (omega arith))

-- ---- the parts stored

-- kind, identifier and count, stored one behind the other
pub front-stored : (kind g n k : ℕ) (b c : List ℕ) → 6 ≤ length b → c ≡ put (set b 0 kind) 1 4 g → k ≡ n → set c 5 k ≡ overwritten (front_bytes kind g n) b
front-stored kind g n k b c h e p =
    let one : set b 0 kind ≡ overwritten (kind ∷ []) b = byte-seam [] b 0 kind refl (omega arith) in
    let two : put (set b 0 kind) 1 4 g ≡ overwritten (kind ∷ digits 4 g) b =
    ap (λ (x : List ℕ). put x 1 4 g) one ∙ number-seam (kind ∷ []) b 1 4 g refl (omega arith)
    in
    ap₂ (λ (x : List ℕ) (y : ℕ). set x 5 y) (e ∙ two) p ∙ byte-seam (kind ∷ digits 4 g) b 5 n (omega (arith, length_digits 4 g)) (omega arith)

-- the count k of numbers and the number x, if there is one, stored from a place on
pub numbers-stored : (m : Message) (at k x : ℕ) (b c : List ℕ) → k ≡ length (numbers_of m) → x ≡ number_of m → at + 1 + 8 * k ≤ length b
    → c ≡ put (set b at k) (at + 1) (8 * k) x
    → c ≡ take at b ++ ((length (numbers_of m) ∷ numbers_bytes (numbers_of m)) ++ drop (at + (1 + 8 * length (numbers_of m))) b)
numbers-stored m at k x b c p q h e =
    let d = take at b in
    let ld : length d ≡ at = length-take-le at b (omega arith) in
    let start : overwritten d b ≡ b = rw ld (take-append-drop at b) in
    let one : set b at k ≡ overwritten (d ++ k ∷ []) b = ap (λ (y : List ℕ). set y at k) (sym start) ∙ byte-seam d b at k ld (omega arith) in
    let l1 : length (d ++ k ∷ []) ≡ at + 1 = length-append d (k ∷ []) ∙ omega arith in
    let two : put (set b at k) (at + 1) (8 * k) x ≡ overwritten ((d ++ k ∷ []) ++ digits (8 * k) x) b =
    ap (λ (y : List ℕ). put y (at + 1) (8 * k) x) one ∙ number-seam (d ++ k ∷ []) b (at + 1) (8 * k) x l1 h
    in
    rw (numbers-digits m, ← p, ← q)
    (e ∙ two ∙ ap (λ (y : List ℕ). overwritten y b) (append_assoc d (k ∷ []) (digits (8 * k) x))
    ∙ part-whole (k ∷ digits (8 * k) x) b at (1 + 8 * k) (omega arith) (omega (arith, length_digits (8 * k) x)))

-- no number takes no bytes, and a message carries one at most
pub no-number-stored : (b : List ℕ) (at k x : ℕ) → k ≡ 0 → b ≡ put b at (8 * k) x
unfolding put
no-number-stored b at k x e = rw e

pub numbers-one : (m : Message) → length (numbers_of m) ≤ 1
numbers-one (Client x) = omega arith
numbers-one Info = omega arith
numbers-one Registered = omega arith
numbers-one (Told k) = omega arith

-- the three parts stored one behind the other: b1 after the front, b2 after the views
pub frame-stored : (g n : ℕ) (m : Message) (l : List View) (b b1 b2 b3 : List ℕ) → length l ≡ n
    → b1 ≡ overwritten (front_bytes (kind_of m) g n) b
    → b2 ≡ take 6 b1 ++ (views_bytes l ++ drop (6 + 5 * n) b1)
    → b3 ≡ take (6 + 5 * n) b2 ++ ((length (numbers_of m) ∷ numbers_bytes (numbers_of m)) ++ drop (6 + 5 * n + (1 + 8 * length (numbers_of m))) b2)
    → b3 ≡ overwritten (bytes_of g m l) b
frame-stored g n m l b b1 b2 b3 e p q r =
    let f = front_bytes (kind_of m) g n in
    let w = length (numbers_of m) ∷ numbers_bytes (numbers_of m) in
    let lv : length (views_bytes l) ≡ 5 * n = length-views_bytes l ∙ ap (λ (k : ℕ). 5 * k) e in
    let two : b2 ≡ overwritten (f ++ views_bytes l) b =
    q ∙ ap (λ (x : List ℕ). take 6 x ++ (views_bytes l ++ drop (6 + 5 * n) x)) p
    ∙ part-seam f (views_bytes l) b 6 (5 * n) (length_front (kind_of m) g n) lv
    in
    let lt : length (f ++ views_bytes l) ≡ 6 + 5 * n = length-append f (views_bytes l) ∙ omega (arith, length_front (kind_of m) g n, lv) in
    r ∙ ap (λ (x : List ℕ). take (6 + 5 * n) x ++ (w ++ drop (6 + 5 * n + (1 + 8 * length (numbers_of m))) x)) two
    ∙ part-seam (f ++ views_bytes l) w b (6 + 5 * n) (1 + 8 * length (numbers_of m)) lt (omega (arith, length-numbers m))
    ∙ ap (λ (x : List ℕ). overwritten x b) (bytes-parts g n m l e)

-- a message whose n views lie in other bytes
module _ (view : ViewId) (m : Message) (from : List ℕ) (at n : ℕ) (few : n ≤ max_views) where
  pub from_bytes : frame_bytes (frame_from view m from at n) ≡ bytes_of view.0 m (views_in from at n)
  from_bytes = ap (λ (l : List View). bytes_of view.0 m l) (list-views_in from at n few)

  pub from-length : length (frame_bytes (frame_from view m from at n)) ≡ 7 + 5 * n + 8 * length (numbers_of m)
  from-length =
      ap length from_bytes ∙ length-bytes view.0 m (views_in from at n)
      ∙ ap (λ (k : ℕ). 7 + 5 * k + 8 * length (numbers_of m)) (length-views_in from at n)

-- views copied as they stand are the bytes of the views that are read there
pub views-copied : (b from : List ℕ) (to at n : ℕ) → at + 5 * n ≤ length from → AreBytes from
    → paste b to (drop at from) (5 * n) ≡ take to b ++ (views_bytes (views_in from at n) ++ drop (to + 5 * n) b)
views-copied b from to at n h y =
    rw (views-again from at n h y) (append_assoc (take to b) (take (5 * n) (drop at from)) (drop (to + 5 * n) b))

-- a number copied as it stands is the number that is read there, put
pub number-copied : (b from : List ℕ) (to at k : ℕ) → to + k ≤ length b → at + k ≤ length from → AreBytes from
    → paste b to (drop at from) k ≡ put b to k (get from at k)
number-copied b from to at k h l y =
    append_assoc (take to b) (take k (drop at from)) (drop (to + k) b)
    ∙ sym (put-split b to k (get from at k) h ∙ rw (digits-get from at k l (λ j i. y (at + j))))

-- the one number of a message
pub one-copied : (b from : List ℕ) (to at k x : ℕ) → k ≡ 1 → to + 8 ≤ length b → at + 8 ≤ length from → AreBytes from → get from at (8 * k) ≡ x
    → paste b to (drop at from) 8 ≡ put b to (8 * k) x
one-copied b from to at k x one h l y e = let there : get from at 8 ≡ x = rw one at e in number-copied b from to at 8 h l y ∙ rw (one, there)

pub from-stored : (g n : ℕ) (m : Message) (from : List ℕ) (at : ℕ) (b b1 b2 b3 : List ℕ) → at + 5 * n ≤ length from → AreBytes from
    → b1 ≡ overwritten (front_bytes (kind_of m) g n) b
    → b2 ≡ paste b1 6 (drop at from) (5 * n)
    → b3 ≡ take (6 + 5 * n) b2 ++ ((length (numbers_of m) ∷ numbers_bytes (numbers_of m)) ++ drop (6 + 5 * n + (1 + 8 * length (numbers_of m))) b2)
    → b3 ≡ overwritten (bytes_of g m (views_in from at n)) b
from-stored g n m from at b b1 b2 b3 h y p q r =
    frame-stored g n m (views_in from at n) b b1 b2 b3 (length-views_in from at n) p (q ∙ views-copied b1 from 6 at n h y) r

-- ---- what each verdict says

-- a frame that can be written has no more views than places
pub frame-few : (f : Frame) → frame_verdict f ≡ Ok tt → f.views.count ≤ max_views
unfolding frame_verdict
frame-few f e = views-few _ _ (need-accepted _ _ _ e).0

pub from-few : (view : ViewId) (m : Message) (from : List ℕ) (at n : ℕ) → frame_verdict (frame_from view m from at n) ≡ Ok tt → n ≤ max_views
from-few view m from at n e = omega (arith, frame-few (frame_from view m from at n) e, length-views_in from at n)

pub wrote-refused : (f : Frame) (b : List ℕ) (r : Refusal) → frame_verdict f ≡ Err r → Wrote f b b (Err r)
unfolding write_verdict and_then left
wrote-refused f b r e = record { reply = rw e; buffer = rw e }

pub wrote-short : (f : Frame) (b : List ℕ) → frame_verdict f ≡ Ok tt → length b < length (frame_bytes f) → Wrote f b b (Err BufferTooShort)
unfolding write_verdict and_then left
wrote-short f b e h =
    let v : write_verdict f (length b) ≡ Err BufferTooShort = then-accepted _ e ∙ need-unmet _ _ (lt-leb _ _ h) in
    record { reply = rw v; buffer = rw v }

pub wrote-whole : (f : Frame) (b exit : List ℕ) (n : ℕ) → frame_verdict f ≡ Ok tt → exit ≡ overwritten (frame_bytes f) b → n ≡ length (frame_bytes f) → n ≤ length b
    → Wrote f b exit (Ok n)
unfolding write_verdict and_then left
wrote-whole f b exit n e p q h =
    let room : length (frame_bytes f) ≤ length b = rw q at h in
    let v : write_verdict f (length b) ≡ Ok tt = then-accepted _ e ∙ need-met _ _ (le-leb _ _ room) in
    record { reply = rw (v, q); buffer = rw (v, p) }
