-- What is read is written: the bytes that the reader accepts are those that the writer makes of what was read.
use mathlib.Core.Path.{◌≡◌, refl, sym, ap, ap₂, ◌∙◌}
use mathlib.Core.Bool.{true}
use mathlib.Core.List.{List, ◌∷◌, ◌++◌}
use Prim.Native.Nat.{ℕ, suc, ◌+◌, ◌*◌, ◌≤◌, ◌<◌}
use native.Mathlib.Numerals.{add-one}
use native.Mathlib.Omega.{arith}
use lib.ListN.{length, get_or, take, drop}
use lib.Seq.{drop-cons, drop-drop, take-add}
use borrow.Author.Tests.{leb-true}
use Rattle.numbers.specs.Number.{get, digits}
use Rattle.numbers.proofs.NumberLaws.{digits-get}
use Rattle.std.specs.Prelude.{Ok}
use Rattle.views.specs.Refusals.{require}
use Rattle.views.specs.Lists.{list_of, placed}
use Rattle.wire.specs.declared.Reading.{Reading}
use Rattle.wire.specs.Format.{numbers_of, views_bytes, numbers_bytes, bytes_of, views_allowed, numbers_allowed}
use Rattle.wire.specs.Reader.{kind_in, view_count, number_count, end_of, views_in, number_in, message_of, scan_of, whole_of, frame_in, read_front}
use Rattle.wire.specs.Writer.{frame_bytes, frame_verdict}
use Rattle.wire.proofs.TripViews.{AreBytes, views-again}
use Rattle.wire.proofs.TripMessages.{told-met, Kind, kind-of-known, Again, message-again}
use Rattle.views.proofs.VerdictLaws.{need-accepted, then-met}
use Rattle.views.proofs.PlaceLaws.{list-placed}
use Rattle.wire.proofs.FormatLaws.{views-few}
use Rattle.wire.proofs.ReaderLaws.{length-views_in, no_number, front_read}
use Rattle.wire.proofs.WriterLaws.{numbers-digits}

-- ---- an accepted reading taken apart

-- the shape and the content of a message that was read were accepted
pub front-met : {r : Reading} (b : List ℕ) → read_front b ≡ Ok r → (scan_of b ≡ Ok tt) × (whole_of b ≡ Ok tt)
unfolding read_front
front-met b e =
    let (scan, rest) = then-met (scan_of b) _ e in
    let (whole, _) = then-met (whole_of b) _ rest in
    (scan, whole)

-- and it is what lies there
pub front-is : {r : Reading} (b : List ℕ) → read_front b ≡ Ok r → r ≡ record { taken = end_of b; frame = frame_in b }
front-is b e =
    let (scan, whole) = front-met b e in
    let there = front_read b _ _ _ scan whole refl refl refl in
    cc

-- what accepted bytes have met as they came
pub record Scanned (b : List ℕ) : Type 0 where
  pub kind : Kind (kind_in b)
  pub views : views_allowed (kind_in b) (view_count b) ≡ true
  pub numbers : numbers_allowed (kind_in b) (number_count b) ≡ true
  pub size : end_of b ≤ length b

pub scanned : (b : List ℕ) → scan_of b ≡ Ok tt → Scanned b
unfolding scan_of
scanned b e =
    let some = need-accepted _ _ _ e in
    let kind = need-accepted _ _ _ some.1 in
    let front = need-accepted _ _ _ kind.1 in
    let views = need-accepted _ _ _ front.1 in
    let behind = need-accepted _ _ _ views.1 in
    let numbers = need-accepted _ _ _ behind.1 in
    let whole = need-accepted _ _ _ numbers.1 in
    record {
      kind = kind-of-known (kind_in b) kind.0;
      views = views.0;
      numbers = numbers.0;
      size = leb-true (end_of b) (length b) whole.0;
    }

-- ---- parts of bytes put together

-- a byte and the part behind it
byte-then : (b : List ℕ) (at k : ℕ) → at < length b → get_or b at 0 ∷ take k (drop (at + 1) b) ≡ take (1 + k) (drop at b)
byte-then b at k h = let e : 1 + k ≡ suc k = omega arith in rw (e, drop-cons b at 0 h, add-one at)

-- a part and the part behind it
part_then : (b : List ℕ) (at i j : ℕ) → take i (drop at b) ++ take j (drop (at + i) b) ≡ take (i + j) (drop at b)
part_then b at i j = rw (← drop-drop i at b) (sym (take-add i j (drop at b)))

-- a message's bytes, part by part
pub parts : (b : List ℕ) (n c : ℕ) → 6 + 5 * n + 1 + 8 * c ≤ length b
    → (get_or b 0 0 ∷ take 4 (drop 1 b))
    ++ ((get_or b 5 0 ∷ take (5 * n) (drop 6 b)) ++ (get_or b (6 + 5 * n) 0 ∷ take (8 * c) (drop (6 + 5 * n + 1) b)))
    ≡ take (6 + 5 * n + 1 + 8 * c) b
parts b n c h =
    let at : 5 + (1 + 5 * n) ≡ 6 + 5 * n = omega arith in
    let all : 5 + (1 + 5 * n + (1 + 8 * c)) ≡ 6 + 5 * n + 1 + 8 * c = omega arith in
    let k0 : get_or b 0 0 ∷ take 4 (drop 1 b) ≡ take 5 b = byte-then b 0 4 (omega arith) in
    let k1 : get_or b 5 0 ∷ take (5 * n) (drop 6 b) ≡ take (1 + 5 * n) (drop 5 b) = byte-then b 5 (5 * n) (omega arith) in
    let k2 : get_or b (6 + 5 * n) 0 ∷ take (8 * c) (drop (6 + 5 * n + 1) b) ≡ take (1 + 8 * c) (drop (6 + 5 * n) b) = byte-then b (6 + 5 * n) (8 * c) (omega arith) in
    let sections : (get_or b 5 0 ∷ take (5 * n) (drop 6 b)) ++ (get_or b (6 + 5 * n) 0 ∷ take (8 * c) (drop (6 + 5 * n + 1) b)) ≡ take (1 + 5 * n + (1 + 8 * c)) (drop 5 b) =
    ap₂ (λ (u w : List ℕ). u ++ w) k1 (k2 ∙ ap (λ (i : ℕ). take (1 + 8 * c) (drop i b)) (sym at)) ∙ part_then b 5 (1 + 5 * n) (1 + 8 * c)
    in
    ap₂ (λ (u w : List ℕ). u ++ w) k0 sections ∙ part_then b 0 5 (1 + 5 * n + (1 + 8 * c)) ∙ ap (λ (i : ℕ). take i b) all

-- ---- the frame that is read

-- what accepted bytes hold is accepted by the writer, and its bytes are they
module _ (b : List ℕ) (y : AreBytes b) (s : Scanned b) (w : whole_of b ≡ Ok tt) where
  pub message-read : Again (kind_in b) (number_count b) (number_in b) (message_of (kind_in b) (number_in b))
  message-read =
      message-again (kind_in b) (number_count b) (number_in b) s.kind s.numbers
      (told-met (kind_in b) (views_in b 6 (view_count b)) (number_in b) w) (no_number b)

  pub list_read : list_of (placed (views_in b 6 (view_count b))) ≡ views_in b 6 (view_count b)
  list_read =
      let n = length-views_in b 6 (view_count b) in
      list-placed (views_in b 6 (view_count b)) (omega (arith, views-few (kind_in b) (view_count b) s.views))

  pub bytes-again : take (end_of b) b ≡ frame_bytes (frame_in b)
  unfolding bytes_of number_in
  bytes-again =
      let a = message-read in
      let n = view_count b in
      let c = number_count b in
      let size = s.size in
      let m = message_of (kind_in b) (number_in b) in
      let view : digits 4 (get b 1 4) ≡ take 4 (drop 1 b) = digits-get b 1 4 (omega arith) (λ j h. y (1 + j)) in
      let views : views_bytes (views_in b 6 n) ≡ take (5 * n) (drop 6 b) = views-again b 6 n (omega arith) y in
      let numbers : numbers_bytes (numbers_of m) ≡ take (8 * c) (drop (6 + 5 * n + 1) b) =
      numbers-digits m
      ∙ ap₂ (λ (k x : ℕ). digits (8 * k) x) a.count-again a.number-again
      ∙ digits-get b (6 + 5 * n + 1) (8 * c) size (λ j h. y (6 + 5 * n + 1 + j))
      in
      rw (list_read, numbers, a.kind-again, a.count-again, length-views_in b 6 n, views, view) (sym (parts b n c size))

  pub verdict-again : frame_verdict (frame_in b) ≡ Ok tt
  unfolding frame_verdict require
  verdict-again =
      let a = message-read in
      rw (list_read, length-views_in b 6 (view_count b), a.kind-again, a.number-again, s.views) w
