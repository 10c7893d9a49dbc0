-- Where the book of a member begins among the eight, and a step on it: the rest of the books stays.
use Rattle.std.specs.Prelude.{Ok, Err}
use mathlib.Core.Path.{◌≡◌, refl, sym, ap, ◌∙◌}
use mathlib.Core.Bool.{Bool, true, false}
use mathlib.Core.List.{List, ◌++◌}
use Prim.Native.Nat.{ℕ, ◌+◌, ◌*◌, ◌≤◌, ◌<◌}
use native.Mathlib.Omega.{arith}
use borrow.Author.Tests.{ltb-true, ltb-false, lt-ltb, le-ltb}
use lib.Dec.{ltb}
use lib.ListN.{length, get_or, take, drop, take-append-drop}
use Rattle.views.specs.declared.refusal.Refusal.{Refusal}
use Rattle.views.specs.declared.refusal.Refusal.TheVariants.{NoSuchMember}
use Rattle.views.specs.Refusals.{Verdict, require, left}
use Rattle.views.proofs.VerdictLaws.{need-met, need-accepted}
use Rattle.rules.specs.Data.{Result, need}
use Rattle.rules.specs.Member.{Done}
use Rattle.book_bytes.specs.Places.{members_at, book_size}
use Rattle.book_bytes.specs.Books.{bytes_sound}
use Rattle.events.specs.Replies.{Reply, reply_of, verdict_of}
use Rattle.group_bytes.specs.Places.{book_bytes, with_book}
use Rattle.group_steps.specs.OwnParts.{HasBook, of_member, book_place, OwnStep}

-- ---- the place

pub place-given : (books : List ℕ) (p : ℕ) → p < get_or books members_at 0 → Ok (book_size * p) ≡ book_place books p
place-given books p h = sym (need-met NoSuchMember (Ok (book_size * p)) (lt-ltb _ _ h))

-- a place is that of a member's book
pub place-found : (books : List ℕ) (p : ℕ) {a : ℕ} → Ok a ≡ book_place books p → (p < get_or books members_at 0) × (a ≡ book_size * p)
place-found books p e = let t = need-accepted (ltb p (get_or books members_at 0)) NoSuchMember (Ok (book_size * p)) (sym e) in (ltb-true _ _ t.0, cc)

-- a refusal is 6
pub place-refused : (books : List ℕ) (p : ℕ) {x : Refusal} → Err x ≡ book_place books p → (get_or books members_at 0 ≤ p) × (x ≡ NoSuchMember)
unfolding require
place-refused books p {x} e = let t = go (ltb p (get_or books members_at 0)) (sym e) in (ltb-false _ _ t.0, t.1)
  where
    go : (b : Bool) → require b NoSuchMember (Ok (book_size * p)) ≡ Err x → (b ≡ false) × (x ≡ NoSuchMember)
    go true k = (cc, cc)
    go false k = (refl, cc)

-- ---- the part

-- a book put back as it was
pub same-book : (books : List ℕ) (p : ℕ) → with_book books p (book_bytes books p) ≡ books
unfolding with_book book_bytes
same-book books p =
    ap (λ (l : List ℕ). take (book_size * p) books ++ l) (take-append-drop book_size (drop (book_size * p) books)) ∙ take-append-drop (book_size * p) books

left-book : (v : Verdict) (books : List ℕ) (p : ℕ) (b : List ℕ) → with_book books p (left v b (book_bytes books p)) ≡ left v (with_book books p b) books
unfolding left
left-book (Ok u) books p b = refl
left-book (Err r) books p b = same-book books p

module _ (books : List ℕ) (p : ℕ) {a : ℕ} (found : Ok a ≡ book_place books p) where
  -- it lies within the books
  pub part-room : HasBook books p → a + book_size ≤ length books
  part-room desk = let (there, place) = place-found books p found in omega (arith, there, place, desk.size, desk.few)

  module _ (m : ℕ) (size : m ≡ book_size) where
    pub part-is : take m (drop a books) ≡ book_bytes books p
    unfolding book_bytes
    part-is = rw ((place-found books p found).1, size)

    pub put_back : (b : List ℕ) → take a books ++ (b ++ drop m (drop a books)) ≡ with_book books p b
    unfolding with_book
    put_back b = rw ((place-found books p found).1, size)

    pub part-sound : HasBook books p → bytes_sound (take m (drop a books)) ≡ true
    part-sound desk = ap bytes_sound part-is ∙ desk.sound (place-found books p found).0

-- ---- the step

module _ (books : List ℕ) (p : ℕ) (rule : List ℕ → Result Done) (new : List ℕ → List ℕ) where
  -- no member
  pub own-refused : (x : Refusal) → Err x ≡ book_place books p → OwnStep p (of_member books p rule) new books books (Err x)
  unfolding of_member need left
  own-refused x e = let (past, why) = place-refused books p e in let t = le-ltb _ _ past in record { reply = rw (t, why); books = rw t }

  -- a member: what the step gave for the part is what it gives
  pub own-done : (r : Reply) {a : ℕ} → Ok a ≡ book_place books p → (m : ℕ) → m ≡ book_size → (c exit : List ℕ)
      → let b = take m (drop a books) in
      (r ≡ reply_of (rule b)) × (c ≡ left (verdict_of (rule b)) (new b) b)
      → exit ≡ take a books ++ (c ++ drop m (drop a books)) → OwnStep p (of_member books p rule) new books exit r
  unfolding of_member need
  own-done r found m size c exit (f, g) h =
      let t = lt-ltb _ _ (place-found books p found).0 in
      let b = book_bytes books p in
      let same = part-is books p found m size in
      let f' : r ≡ reply_of (rule b) = f ∙ ap (λ (z : List ℕ). reply_of (rule z)) same in
      let g' : c ≡ left (verdict_of (rule b)) (new b) b = g ∙ ap (λ (z : List ℕ). left (verdict_of (rule z)) (new z) z) same in
      let back = h ∙ put_back books p found m size c ∙ ap (with_book books p) g' ∙ left-book (verdict_of (rule b)) books p (new b) in
      record { reply = rw t f'; books = rw t back }
