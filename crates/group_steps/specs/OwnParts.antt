-- A member's step in a group: on its own book among the eight, 6 first. Attempt marks its view too.
use Rattle.std.specs.Prelude.{◌≡◌, true, List, ℕ, ◌*◌, ◌≤◌, ◌<◌, ltb, length, get_or, Ok}
use Rattle.std.specs.Prelude.{Result as Given}
use Rattle.views.specs.declared.refusal.Refusal.{Refusal}
use Rattle.views.specs.declared.refusal.Refusal.TheVariants.{NoSuchMember}
use Rattle.views.specs.Limits.{max_members}
use Rattle.views.specs.Sets.{one}
use Rattle.views.specs.Refusals.{require, left}
use Rattle.rules.specs.Data.{Member, Result, need}
use Rattle.rules.specs.Member.{Done, attempts}
use Rattle.book_bytes.specs.Places.{members_at, book_size}
use Rattle.book_bytes.specs.Books.{book_in, bytes_sound, members_in, own_in_book}
use Rattle.events.specs.Replies.{Reply, reply_of, verdict_of}
use Rattle.book_steps.specs.Acts.{few_open, attempt_bytes}
use Rattle.group_bytes.specs.Groups.{Ranges}
use Rattle.group_bytes.specs.Moves.{attempt_ranges}
use Rattle.group_bytes.specs.Places.{books_size, book_bytes, with_book}

-- what is asked of the books: eight, of at most eight members, and the book of p is sound if p is a member
pub record HasBook (books : List ℕ) (p : ℕ) : Type 0 where
  pub size : length books ≡ books_size
  pub few : get_or books members_at 0 ≤ max_members
  pub sound : p < get_or books members_at 0 → bytes_sound (book_bytes books p) ≡ true

-- 6, then the rule on the bytes of p's book
unfoldable pub of_member : List ℕ → Member → (List ℕ → Result Done) → Result Done
of_member books p rule = need (ltb p (get_or books members_at 0)) NoSuchMember (rule (book_bytes books p))

-- where the book of p begins, or 6
abbrev pub book_place : List ℕ → Member → Given ℕ Refusal
book_place books p = require (ltb p (get_or books members_at 0)) NoSuchMember (Ok (book_size * p))

-- the reply and the books at exit, where `new` is what an accepted step leaves of p's book
pub record OwnStep (p : Member) (result : Result Done) (new : List ℕ → List ℕ) (entry exit : List ℕ) (r : Reply)
    : Type 0 where
  pub reply : r ≡ reply_of result
  pub books : exit ≡ left (verdict_of result) (with_book entry p (new (book_bytes entry p))) entry

-- ---- attempt: its view is marked too

-- 6, then the rule on the bytes of p's book
unfoldable pub attempt_result : List ℕ → Member → Result Done
attempt_result books p = of_member books p (λ b. few_open (attempts one (members_in b) (own_in_book b) (book_in b)))

-- the reply x, and the books and the queues at exit
pub record Attempted (r : Ranges) (p : Member) (books queues : List ℕ) (x : Reply) : Type 0 where
  pub own : OwnStep p (attempt_result r.books p) attempt_bytes r.books books x
  pub marks : queues ≡ left (verdict_of (attempt_result r.books p)) (attempt_ranges r p).queues r.queues
