-- What is promised of the member by itself: demand 2, that each call does what the rules say; that 4 never comes for
-- what its own steps made; and that a packet is its messages one by one.
use Rattle.std.specs.Prelude.{◌≡◌, true, false, List, [], ◌∷◌, ℕ, ◌+◌, ◌≤◌, Ok, Err}
use Rattle.views.specs.declared.refusal.Refusal.{Refusal}
use Rattle.views.specs.declared.refusal.Refusal.TheVariants.{RecordsUnsound}
use Rattle.views.specs.Refusals.{Verdict}
use Rattle.views.specs.Limits.{max_ordered}
use Rattle.views.specs.Members.{In}
use Rattle.views.specs.Lists.{id_of}
use Rattle.wire.specs.Widths.{AreBytes}
use Rattle.wire.specs.Single.{read_one}
use Rattle.wire.specs.Packets.{pieces_in}
use Rattle.rules.specs.Data.{Member, Book, Message, entry, refused, accepted}
use Rattle.rules.specs.Member.{Passing}
use Rattle.rules.specs.Alone.{sent_of, passed_bytes, Delivery, stops}
use Rattle.book_bytes.specs.Books.{book_in, layout_fits, bytes_sound, members_in, own_in_book}
use Rattle.book_bytes.specs.Starts.{start_bytes}
use Rattle.events.specs.Replies.{verdict_of}
use Rattle.member.specs.Calls.{start_call, pass_call, deliver_call, packet_call}
use Rattle.member.specs.Drives.{Call, deliver, packet, after, ruled, last_of, Within, AllWithin}

-- the bytes are the book B of the member p of n, and nothing in their layout gets 4
pub record AreBook (n : ℕ) (p : Member) (b : List ℕ) (B : Book) : Type 0 where
  pub book : book_in b ≡ B
  pub fits : layout_fits b ≡ true
  pub bytes : AreBytes b
  pub members : members_in b ≡ n
  pub self : own_in_book b ≡ p

pub record Demand2 : Type 0 where
  -- a start that is accepted leaves the book that the rules give
  pub start-book : (n S p : ℕ) (b : List ℕ) (x : Book) → start_call n S p b ≡ accepted x
      → AreBook n p (start_bytes n S p b) x
  -- a call on bytes that are no book gets 4
  pub call-unfit : (c : Call) (b : List ℕ) → layout_fits b ≡ false → ruled c b ≡ refused RecordsUnsound
  -- an accepted call leaves the book that the rules give; a refused one every byte as it was
  pub call-book : (c : Call) → Within c → (b : List ℕ) → AreBytes b → (B : Book) → ruled c b ≡ accepted B
      → AreBook (members_in b) (own_in_book b) (after c b) B
  pub call-refused : (c : Call) (b : List ℕ) (r : Refusal) → ruled c b ≡ refused r → after c b ≡ b
  -- what pass gives out, deliver reads as that message, sent in that view
  pub passed_reads : (room : ℕ) (b : List ℕ) → AreBytes b → (x : Passing) → pass_call room b ≡ accepted x
      → (q : Member) (m : Message) → x.first ≡ entry q m
      → sent_of (read_one (passed_bytes x)) ≡ accepted (record { view = id_of x.to; message = m })

-- from an accepted start no list of calls, refused or not, leads to bytes that get 4
abbrev pub NeverFour : Type 0
NeverFour = (n S p : ℕ) (b : List ℕ) (x : Book) → start_call n S p b ≡ accepted x
    → (calls : List Call) → AllWithin calls → bytes_sound (last_of (start_bytes n S p b) calls) ≡ true

-- ---- packets

-- messages each by itself, up to the first refusal: how many were delivered, what stopped it, and the book's bytes
pub record Apart : Type 0 where
  pub count : ℕ
  pub stopped : Verdict
  pub book : List ℕ

-- one that is refused stops it and changes nothing
abbrev pub unless : Verdict → List ℕ → Apart → Apart
unless (Err r) b others = record { count = 0; stopped = Err r; book = b }
unless (Ok u) b others = record { count = others.count + 1; stopped = others.stopped; book = others.book }

-- the bytes of each as deliver takes them from the sender q
unfoldable pub apart : List (List ℕ) → Member → List ℕ → Apart
apart [] q b = record { count = 0; stopped = Ok tt; book = b }
apart (s ∷ l) q b = unless (verdict_of (deliver_call s q b)) b (apart l q (after (deliver s q) b))

-- of every packet that 4 does not refuse
pub record Packets : Type 0 where
  -- its delivery is the deliveries of its messages
  pub one_by_one : (s : List ℕ) (q : Member) (b : List ℕ) → AreBytes s → AreBytes b
      → (x : Delivery) → packet_call s q b ≡ accepted x
      → record { count = x.count; stopped = x.stopped; book = after (packet s q) b } ≡ apart (pieces_in s) q b
  -- what stops it is neither 4 nor 38, and what it leaves is a sound book again, whatever sound book it was
  pub stopped_by : (s : List ℕ) (q : Member) (b : List ℕ) → AreBytes s → AreBytes b
      → (x : Delivery) → packet_call s q b ≡ accepted x → (r : Refusal) → x.stopped ≡ Err r → In r stops
  pub still-sound : (s : List ℕ) (q : Member) (b : List ℕ) → AreBytes s → AreBytes b → bytes_sound b ≡ true
      → bytes_sound (after (packet s q) b) ≡ true
  -- no more are delivered than a view's order has
  pub at_most : (s : List ℕ) (q : Member) (b : List ℕ) (x : Delivery) → packet_call s q b ≡ accepted x
      → x.count ≤ max_ordered
