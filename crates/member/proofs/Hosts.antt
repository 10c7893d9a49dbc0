-- A world of bytes as a world of the rules: each book's bytes are its book, and each message's bytes are read as it.
pub mod Related
pub mod Calls
pub mod Follows
pub mod Packets
pub mod Later
pub mod Turns
pub mod SavedAtOnce
use mathlib.Core.Path.{◌≡◌, ◌∙◌}
use mathlib.Core.List.{List}
use Prim.Native.Nat.{ℕ, ◌<◌}
use Rattle.wire.specs.Single.{read_one}
use Rattle.rules.specs.Data.{Identifier, Member, Message, Entry, entry, Book, accepted}
use Rattle.rules.specs.Alone.{sent_of}
use Rattle.rules.specs.Hosts as R
use Rattle.book_bytes.proofs.LayoutLaws.{layout-from}
use Rattle.book_steps.proofs.Means.{Means}
use Rattle.member.specs.Promises.{AreBook}
use Rattle.member.specs.Hosts.{Letter, World}
use Rattle.member.proofs.Hosts.Related.{Pairs}

-- the bytes are read as the message of an entry from q, sent in the view g
pub record ReadAs (g : Identifier) (q : Member) (b : List ℕ) (e : Entry) : Type 0 where
  pub message : Message
  pub is : e ≡ entry q message
  pub read : sent_of (read_one b) ≡ accepted (record { view = g; message = message })

abbrev pub Ordered : Identifier → Letter → Entry → Type 0
Ordered g k e = ReadAs g k.sender k.bytes e

pub record Same (n : ℕ) (w : World) (t : R.World ℕ) : Type 0 where
  pub views : w.views ≡ t.views
  pub book : (p : Member) → p < n → AreBook n p (w.books p) (t.books p)
  pub sent : (p : Member) (g : Identifier) → Pairs (ReadAs g p) (w.sent p g) (t.sent p g)
  pub order : (g : Identifier) → Pairs (Ordered g) (w.order g) (t.order g)

-- what a call leaves of the bytes b is a book of the same member
pub means-book : {n p : ℕ} {b d : List ℕ} {B C : Book} → AreBook n p b B → Means b d C → AreBook n p d C
means-book {d = d} a m = record {
  book = m.book;
  fits = layout-from d m.layout;
  bytes = m.bytes;
  members = m.members ∙ a.members;
  self = m.self ∙ a.self;
}
