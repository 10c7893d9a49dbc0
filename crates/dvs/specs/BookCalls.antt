-- What a call that lends a book alone gives and leaves: x is the number given, b the book before it and b' after it.
use Rattle.std.specs.Prelude.{◌≡◌, List, ℕ, ltb, Ok}
use Rattle.views.specs.declared.refusal.Refusal.TheVariants.{RecordsUnsound, NoSuchMember}
use Rattle.views.specs.Refusals.{Verdict, code_of, require, left}
use Rattle.book_bytes.specs.Books.{bytes_sound, members_in, own_in_book}

-- a call with the verdict v; `new` is what it leaves if it is accepted
pub record Gives (v : Verdict) (new b b' : List ℕ) (x : ℕ) : Type 0 where
  pub number : x ≡ code_of v
  pub book : b' ≡ left v new b

-- whether bytes are a book that the calls take: 4, then 6
unfoldable pub checking : List ℕ → Verdict
checking b = require (bytes_sound b) RecordsUnsound (require (ltb (own_in_book b) (members_in b)) NoSuchMember (Ok tt))
