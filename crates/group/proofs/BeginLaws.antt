-- Start: its refusals in order, the books laid one after another, and what an accepted start leaves.
use mathlib.Core.Path.{◌≡◌, refl, sym, ap, ◌∙◌}
use mathlib.Core.Bool.{true, false}
use mathlib.Core.List.{List, ◌++◌}
use Prim.Native.Nat.{ℕ, zero, suc, ◌*◌, ◌≤◌, ◌<◌}
use native.Mathlib.Omega.{arith}
use borrow.Author.Tests.{le-leb, lt-leb}
use lib.ListN.{length, take, drop, replicate, length-replicate}
use Rattle.views.specs.declared.refusal.Refusal.{Refusal}
use Rattle.views.specs.declared.refusal.Refusal.TheVariants.{MembersOutOfRange, FirstSetUnfit, ListLength, RecordsUnsound}
use Rattle.std.specs.Prelude.{Ok, Err}
use Rattle.views.specs.Limits.{max_members, max_views}
use Rattle.views.specs.Refusals.{left}
use Rattle.rules.specs.Data.{need}
use Rattle.rules.specs.Sound.{set_fits}
use Rattle.rules.specs.Group.{start, first_view}
use Rattle.events.specs.Replies.{verdict_of}
use Rattle.book_bytes.specs.Places.{book_size}
use Rattle.book_bytes.specs.Starts.{start_bytes}
use Rattle.group_bytes.specs.Places.{room_of, books_size, book_bytes, with_book, layout_at}
use Rattle.group_bytes.specs.Groups.{Ranges}
use Rattle.group_bytes.specs.Starts.{start_books, start_ranges}
use Rattle.group_bytes.specs.Steps.{ranges_long, start_result}
use Rattle.book_steps.proofs.Committed.{accepted-holds}
use Rattle.group_bytes.proofs.BookBytes.{book-size}
use Rattle.group_bytes.proofs.StartGroup.{Startable}
use Rattle.group_bytes.proofs.GroupRuns.{start-holds}
use Rattle.group.specs.StartCalls.{Began}
use Rattle.group.specs.StartParts.{long_for}

-- ---- 4, 1, 2, 3

module _ (n S : ℕ) (r : Ranges) where
  long_same : ranges_long r ≡ long_for (length r.list) (length r.books) (length r.queues)
  unfolding ranges_long long_for
  long_same = refl

  pub begin-short : long_for (length r.list) (length r.books) (length r.queues) ≡ false → Err RecordsUnsound ≡ verdict_of (start_result n S r)
  unfolding start_result need
  begin-short h = rw (long_same, h)

  module _ (long : long_for (length r.list) (length r.books) (length r.queues) ≡ true) where
    pub begin-none : n < 1 → Err MembersOutOfRange ≡ verdict_of (start_result n S r)
    unfolding start_result start need
    begin-none h = rw (long_same, long, lt-leb 1 n h)

    module _ (some : 1 ≤ n) where
      pub begin-many : max_members < n → Err MembersOutOfRange ≡ verdict_of (start_result n S r)
      unfolding start_result start need
      begin-many h = rw (long_same, long, le-leb 1 n some, lt-leb n max_members h)

      module _ (few : n ≤ max_members) where
        pub begin-unfit : set_fits n (first_view S) ≡ false → Err FirstSetUnfit ≡ verdict_of (start_result n S r)
        unfolding start_result start need
        begin-unfit h = rw (long_same, long, le-leb 1 n some, le-leb n max_members few, h)

        module _ (fit : set_fits n (first_view S) ≡ true) where
          pub begin-empty : room_of r.list < 1 → Err ListLength ≡ verdict_of (start_result n S r)
          unfolding start_result start need
          begin-empty h = rw (long_same, long, le-leb 1 n some, le-leb n max_members few, fit, lt-leb 1 (room_of r.list) h)

          module _ (room : 1 ≤ room_of r.list) where
            pub begin-longer : max_views < room_of r.list → Err ListLength ≡ verdict_of (start_result n S r)
            unfolding start_result start need
            begin-longer h = rw (long_same, long, le-leb 1 n some, le-leb n max_members few, fit, le-leb 1 (room_of r.list) room, lt-leb (room_of r.list) max_views h)

            pub begin-accepted : room_of r.list ≤ max_views → (Ok tt) ≡ verdict_of (start_result n S r)
            unfolding start_result start need
            begin-accepted h = rw (long_same, long, le-leb 1 n some, le-leb n max_members few, fit, le-leb 1 (room_of r.list) room, le-leb (room_of r.list) max_views h)

-- ---- the books, one after another

-- a fresh book does not depend on what was there
same_start : (n S p : ℕ) (b c : List ℕ) → length b ≡ length c → start_bytes n S p b ≡ start_bytes n S p c
unfolding start_bytes
same_start n S p b c e = rw e

pub part_room : (now : List ℕ) (k m : ℕ) → m ≡ book_size → length now ≡ books_size → k < max_members → book_size ≤ length (take m (drop (book_size * k) now))
unfolding book_bytes
part_room now k m e size low = let l = book-size now size k low in rw e (omega (arith, l))

-- the book of k, in the part of m bytes that the code lends, is the next
pub lay-turn : (n S k : ℕ) (books now part : List ℕ) (m : ℕ) → m ≡ book_size → length books ≡ books_size → length now ≡ books_size → k < max_members
    → now ≡ start_books n S k books → part ≡ start_bytes n S k (take m (drop (book_size * k) now))
    → take (book_size * k) now ++ (part ++ drop m (drop (book_size * k) now)) ≡ start_books n S (suc k) books
unfolding start_books with_book book_bytes
lay-turn n S k books now part m size long same low e f =
    let g : part ≡ start_bytes n S k (book_bytes books k) =
    f ∙ ap (λ (z : ℕ). start_bytes n S k (take z (drop (book_size * k) now))) size
    ∙ same_start n S k (book_bytes now k) (book_bytes books k) (book-size now same k low ∙ sym (book-size books long k low))
    in
    ap (λ (z : ℕ). take (book_size * k) now ++ (part ++ drop z (drop (book_size * k) now))) size
    ∙ ap (λ (z : List ℕ). take (book_size * k) now ++ (z ++ drop book_size (drop (book_size * k) now))) g
    ∙ ap (λ (z : List ℕ). with_book z k (start_bytes n S k (book_bytes books k))) e

-- the fresh books do not depend on what was there
books-same : (n S k : ℕ) (b c : List ℕ) → length b ≡ books_size → length c ≡ books_size → k ≤ max_members → start_books n S k b ≡ start_books n S k c
unfolding start_books
books-same n S zero b c e f low = rw (e, f)
books-same n S (suc k) b c e f low =
    ap (λ (z : List ℕ). with_book z k (start_bytes n S k (book_bytes b k))) (books-same n S k b c e f (omega arith))
    ∙ ap (λ (z : List ℕ). with_book (start_books n S k c) k z) (same_start n S k (book_bytes b k) (book_bytes c k) (book-size b e k (omega arith) ∙ sym (book-size c f k (omega arith))))

pub lay-first : (n S : ℕ) (books cleared : List ℕ) → cleared ≡ replicate (length books) 0 → cleared ≡ start_books n S 0 cleared
unfolding start_books
lay-first n S books cleared e = e ∙ ap (λ (z : ℕ). replicate z 0) (sym (length-replicate {A = ℕ} (length books) 0) ∙ ap length (sym e))

pub lay-last : (n S k : ℕ) (books cleared all : List ℕ) → k ≡ n → n ≤ max_members → length books ≡ books_size → cleared ≡ replicate (length books) 0
    → all ≡ start_books n S k cleared → all ≡ start_books n S n books
lay-last n S k books cleared all e low size c f =
    f ∙ ap (λ (z : ℕ). start_books n S z cleared) e
    ∙ books-same n S n cleared books (ap length c ∙ length-replicate {A = ℕ} (length books) 0 ∙ size) size low

-- ---- the whole start

-- what an accepted start found
module _ (n S : ℕ) (r : Ranges) (e : (Ok tt) ≡ verdict_of (start_result n S r)) where
  found : Startable n S r
  found = (accepted-holds (start_result n S r) (start-holds n S r) (sym e)).1.0

  pub list-room : 5 ≤ length r.list
  list-room = let h = found in omega (arith, h.room.0, h.whole)

  pub books-long : length r.books ≡ books_size
  books-long = found.books

  pub members-few : n ≤ max_members
  members-few = found.members.1

  pub queues-room : layout_at < length r.queues
  queues-room = let h = found in omega (arith, h.queues)

pub start-refused : (n S : ℕ) (r : Ranges) (x : Refusal) → Err x ≡ verdict_of (start_result n S r) → Began r n S r (Err x)
unfolding left
start-refused n S r x e = record { verdict = e; list = rw (← e); books = rw (← e); queues = rw (← e) }

pub start-accepted : (n S : ℕ) (r d : Ranges) → (Ok tt) ≡ verdict_of (start_result n S r)
    → d.list ≡ (start_ranges n S r).list → d.books ≡ (start_ranges n S r).books → d.queues ≡ (start_ranges n S r).queues → Began r n S d (Ok tt)
unfolding left
start-accepted n S r d e l b q = record { verdict = e; list = rw (← e) l; books = rw (← e) b; queues = rw (← e) q }
