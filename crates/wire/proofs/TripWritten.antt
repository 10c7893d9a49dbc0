-- What is written is read: the parts of a message's bytes stand where the reader looks for them.
use mathlib.Core.Path.{◌≡◌, refl, sym, ap, ap₂, ◌∙◌}
use mathlib.Core.Bool.{true}
use mathlib.Core.List.{List, [], ◌∷◌, ◌++◌, append_assoc}
use Prim.Native.Nat.{ℕ, suc, ◌+◌, ◌*◌, ◌^◌, ◌≤◌, ◌<◌}
use native.Mathlib.Omega.{arith}
use lib.ListN.{length, get_or, length-append}
use lib.Seq.{get_or_at}
use borrow.Author.Tests.{le-leb}
use Rattle.numbers.specs.Number.{get, digits}
use Rattle.numbers.proofs.NumberLaws.{length_digits, get-digits}
use Rattle.views.specs.declared.View.{View}
use Rattle.std.specs.Prelude.{Ok}
use Rattle.views.specs.Refusals.{require, and_then}
use Rattle.views.specs.Lists.{placed}
use Rattle.wire.specs.declared.Message.{Message}
use Rattle.wire.specs.Format.{kind_of, numbers_of, views_bytes, numbers_bytes, bytes_of, views_allowed, content_of}
use Rattle.wire.specs.Reader.{kind_in, view_count, views_in, number_in, scan_of, read_front}
use Rattle.wire.specs.Writer.{number_of}
use Rattle.wire.proofs.TripViews.{EachFits, views-back}
use Rattle.wire.proofs.TripMessages.{told-met, kind-known, numbers-known, message-back}
use Rattle.wire.proofs.SeamLaws.{length-views_bytes}
use Rattle.wire.proofs.WriterLaws.{numbers-digits, length-bytes}

-- the bytes b hold the parts of a message at their places
pub record Holds (b : List ℕ) (g : ℕ) (m : Message) (l : List View) : Type 0 where
  pub kind : kind_in b ≡ kind_of m
  pub view : get b 1 4 ≡ g
  pub count : view_count b ≡ length l
  pub list : views_in b 6 (length l) ≡ l
  pub numbers : get_or b (6 + 5 * length l) 0 ≡ length (numbers_of m)
  pub number : get b (6 + 5 * length l + 1) (8 * length (numbers_of m)) ≡ number_of m
  pub size : 6 + 5 * length l + 1 + 8 * length (numbers_of m) ≤ length b

pub bytes-hold : (g : ℕ) (m : Message) (l : List View) (rest : List ℕ) → g < 256 ^ 4 → EachFits l → number_of m < 256 ^ (8 * length (numbers_of m))
    → Holds (bytes_of g m l ++ rest) g m l
unfolding bytes_of
bytes-hold g m l rest fg fl fm =
    let c = length (numbers_of m) in
    let q3 : List ℕ = digits (8 * c) (number_of m) ++ rest in
    let q2 : List ℕ = views_bytes l ++ (c ∷ q3) in
    let p0 : List ℕ = kind_of m ∷ digits 4 g in
    let p1 : List ℕ = p0 ++ (length l ∷ []) in
    let p2 : List ℕ = p1 ++ views_bytes l in
    let p3 : List ℕ = p2 ++ (c ∷ []) in
    let b = bytes_of g m l ++ rest in
    let n0 : length p0 ≡ 5 = ap suc (length_digits 4 g) in
    let n1 : length p1 ≡ 6 = length-append p0 (length l ∷ []) ∙ rw n0 in
    let n2 : length p2 ≡ 6 + 5 * length l = length-append p1 (views_bytes l) ∙ rw (n1, length-views_bytes l) in
    let n3 : length p3 ≡ 6 + 5 * length l + 1 = length-append p2 (c ∷ []) ∙ rw n2 in
    let s1 : List ℕ = length l ∷ views_bytes l in
    let s2 : List ℕ = c ∷ numbers_bytes (numbers_of m) in
    let e0 : b ≡ p0 ++ (length l ∷ q2) = append_assoc p0 (s1 ++ s2) rest ∙ ap (λ (z : List ℕ). p0 ++ z) (append_assoc s1 s2 rest) ∙ rw (numbers-digits m) in
    let e1 : b ≡ p1 ++ q2 = e0 ∙ sym (append_assoc p0 (length l ∷ []) q2) in
    let e2 : b ≡ p2 ++ (c ∷ q3) = e1 ∙ sym (append_assoc p1 (views_bytes l) (c ∷ q3)) in
    let e3 : b ≡ p3 ++ q3 = e2 ∙ sym (append_assoc p2 (c ∷ []) q3) in
    record {
      kind = refl;
      view = ap (λ (z : List ℕ). get z 1 4) e0 ∙ get-digits (kind_of m ∷ []) 4 g (length l ∷ q2) fg;
      count = ap (λ (z : List ℕ). get_or z 5 0) e0 ∙ get_or_at p0 (length l) q2 0 5 n0;
      list = ap₂ (λ (z : List ℕ) (at : ℕ). views_in z at (length l)) e1 (sym n1) ∙ views-back p1 l (c ∷ q3) fl;
      numbers = ap (λ (z : List ℕ). get_or z (6 + 5 * length l) 0) e2 ∙ get_or_at p2 c q3 0 (6 + 5 * length l) n2;
      number = ap₂ (λ (z : List ℕ) (at : ℕ). get z at (8 * c)) e3 (sym n3) ∙ get-digits p3 (8 * c) (number_of m) rest fm;
      size = omega (arith, length-append (bytes_of g m l) rest, length-bytes g m l);
    }

-- bytes that hold an allowed message are read as it
pub held_reads : (b : List ℕ) (g : ℕ) (m : Message) (l : List View) → Holds b g m l → views_allowed (kind_of m) (length l) ≡ true
    → content_of (kind_of m) l (number_of m) ≡ Ok tt
    → read_front b ≡ Ok (record {
      taken = 6 + 5 * length l + 1 + 8 * length (numbers_of m);
      frame = record { view = record { 0 = g }; message = m; views = placed l };
    })
unfolding read_front scan_of and_then require number_in
held_reads b g m l h v c =
    let s = h.size in
    rw (
      h.kind,
      h.count,
      h.numbers,
      h.view,
      h.list,
      h.number,
      le-leb 1 (length b) (omega arith),
      le-leb 6 (length b) (omega arith),
      le-leb (6 + 5 * length l + 1) (length b) (omega arith),
      le-leb (6 + 5 * length l + 1 + 8 * length (numbers_of m)) (length b) s,
      kind-known m,
      v,
      numbers-known m,
      c,
      message-back m (told-met (kind_of m) l (number_of m) c),
    )
