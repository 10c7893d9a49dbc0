-- The books in their range, each a part of it: what another book for one member leaves of its own bytes, of the others' and of the range.
use mathlib.Core.Path.{◌≡◌, sym, ap, ◌∙◌}
use mathlib.Core.Logic.{◌≢◌}
use mathlib.Core.List.{List, ◌++◌}
use Prim.Native.Nat.{ℕ, ◌+◌, ◌-◌, ◌≤◌, ◌<◌}
use native.Mathlib.Decide.{dec_lt}
use native.Mathlib.Omega.{arith}
use lib.ListN.{length, get_or, take, drop, length-append, length-drop, get_or-append}
use lib.Seq.{get_or-take, get_or-drop, get_or-append-add, length-take-le, take_at, drop_at}
use Rattle.views.specs.Limits.{max_members}
use Rattle.wire.proofs.TripViews.{AreBytes}
use Rattle.slots.proofs.Outside.{Changed}
use Rattle.slots.proofs.BytesKept.{append-bytes, take-bytes, drop-bytes}
use Rattle.book_bytes.specs.Places.{members_at, book_size}
use Rattle.book_bytes.proofs.RecordReads.{bytes-are}
use Rattle.group_bytes.specs.Places.{books_size, book_at, book_bytes, with_book}

-- ---- one book

-- a byte of the book of p
pub book-byte : (books : List ℕ) (p j : ℕ) → j < book_size → get_or (book_bytes books p) j 0 ≡ get_or books (book_at p + j) 0
unfolding book_bytes
book-byte books p j h = get_or-take book_size (drop (book_at p) books) j 0 h ∙ get_or-drop (book_at p) books j 0

-- the number of members is the first book's
pub first-members : (books : List ℕ) → get_or books members_at 0 ≡ get_or (book_bytes books 0) members_at 0
first-members books = sym (book-byte books 0 members_at (omega arith))

pub book-size : (books : List ℕ) → length books ≡ books_size → (p : ℕ) → p < max_members → length (book_bytes books p) ≡ book_size
unfolding book_bytes
book-size books size p h = length-take-le book_size (drop (book_at p) books) (omega (arith, length-drop (book_at p) books))

pub book-bytes : (books : List ℕ) (p : ℕ) → AreBytes books → AreBytes (book_bytes books p)
unfolding book_bytes
book-bytes books p y = take-bytes book_size (drop (book_at p) books) (drop-bytes (book_at p) books y)

-- ---- another book for p

pub with-bytes : (books : List ℕ) (p : ℕ) (b : List ℕ) → AreBytes books → AreBytes b → AreBytes (with_book books p b)
unfolding with_book
with-bytes books p b y z =
    append-bytes (take (book_at p) books) (b ++ drop book_size (drop (book_at p) books)) (take-bytes (book_at p) books y)
    (append-bytes b (drop book_size (drop (book_at p) books)) z (drop-bytes book_size (drop (book_at p) books) (drop-bytes (book_at p) books y)))

module _ (books : List ℕ) (size : length books ≡ books_size) (p : ℕ) (member : p < max_members) (b : List ℕ) (whole : length b ≡ book_size) where
  abbrev below : List ℕ
  below = take (book_at p) books

  abbrev past : List ℕ
  past = drop book_size (drop (book_at p) books)

  length-below : length below ≡ book_at p
  length-below = length-take-le (book_at p) books (omega arith)

  length-past : length past ≡ length books - (book_at p + book_size)
  length-past = length-drop book_size (drop (book_at p) books) ∙ omega (arith, length-drop (book_at p) books)

  pub with_size : length (with_book books p b) ≡ length books
  unfolding with_book
  with_size = length-append below (b ++ past) ∙ omega (arith, length-below, length-append b past, length-past)

  with-below : (j : ℕ) → j < book_at p → get_or (with_book books p b) j 0 ≡ get_or books j 0
  unfolding with_book
  with-below j h = get_or-append below (b ++ past) 0 j (omega (arith, length-below)) ∙ get_or-take (book_at p) books j 0 h

  with-past : (j : ℕ) → book_at p + book_size ≤ j → get_or (with_book books p b) j 0 ≡ get_or books j 0
  unfolding with_book
  with-past j h =
      let k = j - (book_at p + book_size) in
      let e : j ≡ length below + (length b + k) = omega (arith, length-below) in
      let f : j ≡ book_at p + (book_size + k) = omega arith in
      ap (λ (i : ℕ). get_or (below ++ (b ++ past)) i 0) e
      ∙ get_or-append-add below (b ++ past) (length b + k) 0 ∙ get_or-append-add b past k 0
      ∙ get_or-drop book_size (drop (book_at p) books) k 0 ∙ get_or-drop (book_at p) books (book_size + k) 0
      ∙ ap (λ (i : ℕ). get_or books i 0) (sym f)

  pub with-changed : Changed books (with_book books p b) (book_at p) book_size
  with-changed = record { long = with_size; below = with-below; past = with-past }

  -- the book of p is the new one
  pub with-own : book_bytes (with_book books p b) p ≡ b
  unfolding with_book book_bytes
  with-own = ap (take book_size) (drop_at below (b ++ past) (book_at p) length-below) ∙ take_at b past book_size whole

  -- the others are as they were
  pub with-other : (q : ℕ) → q < max_members → q ≢ p → book_bytes (with_book books p b) q ≡ book_bytes books q
  unfolding book_bytes
  with-other q h n =
      bytes-are (with_book books p b) (book_bytes books q) (book_at q) book_size (omega (arith, with_size)) (book-size books size q h)
      (λ j k.
      elim (dec_lt q p) [
        | yes l ↦ with-below (book_at q + j) (omega arith) ∙ sym (book-byte books q j k)
        | no l ↦ with-past (book_at q + j) (omega arith) ∙ sym (book-byte books q j k)
      ])
