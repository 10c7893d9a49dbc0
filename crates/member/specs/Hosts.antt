-- Hosts over a carrier of their own, as they are: each member's book is the bytes that its host lends, and messages are
-- bytes. Of the carrier and the hosts is asked what rules/specs/Hosts.antt asks, 1 to 4, and that numbers are within
-- their widths.
use Rattle.std.specs.Prelude.{◌≡◌, ◌≢◌, ◌⊎◌, true, List, [], ◌∷◌, ◌++◌, ℕ, ◌^◌, ◌<◌, Ok, Err, Some}
use Rattle.views.specs.declared.View.{View}
use Rattle.views.specs.declared.refusal.Refusal.{Refusal}
use Rattle.views.specs.declared.refusal.Refusal.TheVariants.{OrderFull, TooManyOpen}
use Rattle.views.specs.Members.{In}
use Rattle.views.specs.Points.{at, at2}
use Rattle.views.specs.Refusals.{left}
use Rattle.views.specs.Sets.{one, fits}
use Rattle.views.specs.Lists.{id_of, view_of}
use Rattle.wire.specs.Widths.{AreBytes}
use Rattle.wire.specs.Single.{read_one}
use Rattle.wire.specs.Packets.{pieces_in}
use Rattle.rules.specs.Data.{Identifier, Member, Message, Entry, Book, Event, Result, refused, accepted}
use Rattle.rules.specs.Member.{Done, Passing, outgoes}
use Rattle.rules.specs.Group.{first_view}
use Rattle.rules.specs.Figure1.{At}
use Rattle.rules.specs.Alone.{sent_of, passed_bytes}
use Rattle.rules.specs.Promise.{Promised}
use Rattle.rules.specs.Final.{SafeIsFinal}
use Rattle.events.specs.Replies.{reply_of, verdict_of}
use Rattle.events.specs.Shown.{shown_by}
use Rattle.book_bytes.specs.Books.{book_in, bytes_sound}
use Rattle.book_bytes.specs.Starts.{start_bytes}
use Rattle.book_steps.specs.Acts.{join_bytes, pass_bytes, attempt_bytes, register_bytes}
use Rattle.book_steps.specs.Acts.{send_bytes, hand_bytes, tell_bytes}
use Rattle.book_steps.specs.Acts.{safe_bytes, collect_bytes}
use Rattle.member.specs.Calls.{start_call, join_call, pass_call, deliver_call, deliver_bytes, attempt_call}
use Rattle.member.specs.Calls.{register_call, send_call, hand_call, tell_call, safe_call, collect_call}
use Rattle.member.specs.Drives.{packet, after}
use Rattle.member.specs.Promises.{AreBook}

-- a message in a view's order
pub record Letter : Type 0 where
  pub sender : Member
  pub bytes : List ℕ

pub record World : Type 0 where
  pub views : List View  -- those in existence
  pub books : Member → List ℕ
  pub sent : Member → Identifier → List (List ℕ)  -- given out in a view and not in its order: on its way, or lost
  pub order : Identifier → List Letter

-- the book that the bytes of p are
abbrev pub book_of : World → Member → Book
book_of w p = book_in (w.books p)

-- the first view exists, and each book is what start leaves of the bytes that were lent
abbrev pub world0 : ℕ → ℕ → (Member → List ℕ) → World
world0 n S lent = record {
  views = first_view S ∷ [];
  books = λ p. start_bytes n S p (lent p);
  sent = λ p g. [];
  order = λ g. [];
}

-- ---- what a call leaves: an accepted one the new bytes of the book, a refused one the old; and what its reply shows

-- other bytes for the book of p
abbrev pub rebooked : World → Member → List ℕ → World
rebooked w p new = record { views = w.views; books = at p new w.books; sent = w.sent; order = w.order }

abbrev pub called : World → Member → Result Done → List ℕ → World
called w p r new = rebooked w p (left (verdict_of r) new (w.books p))

abbrev pub shows : Result Done → List (Event ℕ)
shows r = shown_by (reply_of r)

-- what pass wrote into its buffer is given out in the view that it is tagged with
abbrev pub passed : World → Member → Result Passing → World
passed w p (refused r) = w
passed w p (accepted x) = let g = id_of x.to in record {
  views = w.views;
  books = at p (pass_bytes (w.books p)) w.books;
  sent = at2 p g (w.sent p g ++ (passed_bytes x ∷ [])) w.sent;
  order = w.order;
}

-- ---- the calls of the member p

-- the next message that it has to take of the view v is these bytes, from q
abbrev pub Next : World → Member → View → Member → List ℕ → Type 0
Next w p v q bytes = At (w.order (id_of v)) (book_of w p).carrier.taken (record { sender = q; bytes = bytes })

-- bytes that are read as a message of its carrier view are the next that it has to take of it
abbrev pub InOrder : World → Member → List ℕ → Member → Type 0
InOrder w p bytes q =
    (v : View) (m : Message) → (book_of w p).carrier.view ≡ Some v
    → sent_of (read_one bytes) ≡ accepted (record { view = id_of v; message = m }) → Next w p v q bytes

-- each with its result, and the bytes of the book where it is accepted
pub data Call (n : ℕ) (w : World) (p : Member) : Result Done → List ℕ → Type 0 where
  -- any view in existence
  join : (g S : ℕ) → g < 256 ^ 4 → In (view_of g S) w.views
      → Call n w p (join_call (view_of g S) (w.books p)) (join_bytes (view_of g S) (w.books p))
  -- the same of a member that was stopped and came back with bytes that are its book, with any outgoing list: it makes
  -- no call before it has joined
  rejoin : (d : List ℕ) (l : List Entry) → AreBook n p d (outgoes l (book_of w p)) → (g S : ℕ) → g < 256 ^ 4
      → In (view_of g S) w.views → Call n w p (join_call (view_of g S) d) (join_bytes (view_of g S) d)
  -- the next message; or any of another view, or bytes that the reader refuses
  deliver : (bytes : List ℕ) (q : Member) → AreBytes bytes → InOrder w p bytes q
      → Call n w p (deliver_call bytes q (w.books p)) (deliver_bytes bytes q (w.books p))
  attempt : Call n w p (attempt_call (w.books p)) (attempt_bytes (w.books p))
  register : Call n w p (register_call (w.books p)) (register_bytes (w.books p))
  send : (x : ℕ) → x < 256 ^ 8 → Call n w p (send_call x (w.books p)) (send_bytes x (w.books p))
  hand : Call n w p (hand_call (w.books p)) (hand_bytes (w.books p))
  tell : Call n w p (tell_call (w.books p)) (tell_bytes (w.books p))
  safe : Call n w p (safe_call (w.books p)) (safe_bytes (w.books p))
  collect : Call n w p (collect_call (w.books p)) (collect_bytes (w.books p))

-- ---- what can happen, at any time, with the outward events that replies show

pub data Happens (n : ℕ) : World → World → List (Event ℕ) → Type 0 where
  -- a view comes to exist, its identifier above or below the others'
  exist : {w : World} (v : View) → fits n v.set ≡ true → ((u : View) → In u w.views → id_of u ≢ id_of v)
      → Happens n w (record { views = v ∷ w.views; books = w.books; sent = w.sent; order = w.order }) []
  call : {w : World} (p : Member) → p < n → {r : Result Done} {new : List ℕ} → Call n w p r new
      → Happens n w (called w p r new) (shows r)
  -- into a buffer with any room
  pass : {w : World} (p : Member) → p < n → (room : ℕ)
      → Happens n w (passed w p (pass_call room (w.books p))) []
  -- the first that a member gave out in a view goes to the end of the view's order
  order : {w : World} (p : Member) (g : Identifier) (bytes : List ℕ) (rest : List (List ℕ))
      → w.sent p g ≡ bytes ∷ rest
      → Happens n w (record {
        views = w.views;
        books = w.books;
        sent = at2 p g rest w.sent;
        order = at g (w.order g ++ (record { sender = p; bytes = bytes } ∷ [])) w.order;
      }) []

-- from starts that are accepted, of each of the n members: the world that it comes to, and the outward events
pub data History (n S : ℕ) : World → List (Event ℕ) → Type 0 where
  begin : (lent : Member → List ℕ) → 0 < n
      → ((p : Member) → p < n → verdict_of (start_call n S p (lent p)) ≡ Ok tt)
      → History n S (world0 n S lent) []
  then : {w t : World} {l k : List (Event ℕ)} → History n S w l → Happens n w t k → History n S t (l ++ k)

-- ---- what is promised of every history

-- demand 3, the same as of a group
abbrev pub Demand3Hosts : Type 0
Demand3Hosts = (n S : ℕ) (w : World) (l : List (Event ℕ)) → History n S w l → Promised one S l

-- what is reported safe is final if members register last
abbrev pub FinalityHosts : Type 1
FinalityHosts = (n S : ℕ) (w : World) (l : List (Event ℕ)) → History n S w l → SafeIsFinal l

-- no book gets 4
abbrev pub NeverFourHosts : Type 0
NeverFourHosts =
    (n S : ℕ) (w : World) (l : List (Event ℕ)) → History n S w l
    → (p : Member) → p < n → bytes_sound (w.books p) ≡ true

-- deliver of the next message of the carrier view's order is refused by 16 and 43 alone
abbrev pub TakesNext : Type 0
TakesNext =
    (n S : ℕ) (w : World) (l : List (Event ℕ)) → History n S w l
    → (p : Member) → p < n → (v : View) (q : Member) (bytes : List ℕ) → (book_of w p).carrier.view ≡ Some v
    → Next w p v q bytes → (r : Refusal) → verdict_of (deliver_call bytes q (w.books p)) ≡ Err r
    → (r ≡ OrderFull) ⊎ (r ≡ TooManyOpen)

-- ---- packets

-- the messages of a list, all from q, are in order for p: the first, and if it is taken, the others after it
unfoldable pub EachInOrder : World → Member → List (List ℕ) → Member → Type 0
EachInOrder w p [] q = Unit {0}
EachInOrder w p (bytes ∷ l) q =
    InOrder w p bytes q
    × (verdict_of (deliver_call bytes q (w.books p)) ≡ Ok tt
    → EachInOrder (rebooked w p (deliver_bytes bytes q (w.books p))) p l q)

-- a packet whose messages are in order leaves a world that a history comes to with the same events: what is promised of
-- every history is promised with such packets among its calls
abbrev pub PacketsHosts : Type 0
PacketsHosts =
    (n S : ℕ) (w : World) (l : List (Event ℕ)) → History n S w l
    → (p : Member) → p < n → (s : List ℕ) (q : Member) → AreBytes s → EachInOrder w p (pieces_in s) q
    → History n S (rebooked w p (after (packet s q) (w.books p))) l
