-- Hosts that keep the one rule of duty 1 (docs/HOST.md): they work in turns, and nothing leaves a turn before its save.
-- A host may stop at any time, and comes back with what it has on disk. World and calls are those of Hosts.antt.
use Rattle.std.specs.Prelude.{◌≡◌, List, [], ◌∷◌, ◌++◌, ℕ, ◌<◌, Ok}
use Rattle.views.specs.Points.{at}
use Rattle.views.specs.Refusals.{left}
use Rattle.views.specs.Lists.{id_of}
use Rattle.wire.specs.Widths.{AreBytes}
use Rattle.wire.specs.Packets.{pieces_in}
use Rattle.rules.specs.Data.{Identifier, Member, Event, Result, refused, accepted}
use Rattle.rules.specs.Member.{Done, Passing}
use Rattle.rules.specs.Alone.{passed_bytes}
use Rattle.events.specs.Replies.{verdict_of}
use Rattle.book_steps.specs.Acts.{pass_bytes}
use Rattle.member.specs.Calls.{start_call, pass_call}
use Rattle.member.specs.Drives.{packet, after}
use Rattle.member.specs.Hosts.{World, world0, shows, Call, Happens, History, EachInOrder}

-- what a member did from some time on: the book that this left, the events that it showed, and by view the messages
-- that it passed
pub record Turn : Type 0 where
  pub book : List ℕ
  pub events : List (Event ℕ)
  pub sent : Identifier → List (List ℕ)

-- nothing was done
abbrev pub idle : List ℕ → Turn
idle b = record { book = b; events = []; sent = λ g. [] }

-- d was done, then m
abbrev pub followed : Turn → Turn → Turn
followed d m = record { book = m.book; events = d.events ++ m.events; sent = λ g. d.sent g ++ m.sent g }

-- the world after p has done m
abbrev pub with_turn : World → Member → Turn → World
with_turn w p m = record {
  views = w.views;
  books = at p m.book w.books;
  sent = at p (λ g. w.sent p g ++ m.sent g) w.sent;
  order = w.order;
}

pub record Hosts : Type 0 where
  pub world : World  -- the public world: of each member it has what was published
  pub disk : Member → Turn  -- saved, and not yet published
  pub memory : Member → Turn  -- done, and not yet saved

-- the world as p has it at its turn
abbrev pub seen : Hosts → Member → World
seen h p = with_turn (with_turn h.world p (h.disk p)) p (h.memory p)

-- all was published that was done
abbrev pub quiet : World → Hosts
quiet w = record { world = w; disk = λ p. idle (w.books p); memory = λ p. idle (w.books p) }

-- ---- a turn after one more call, after a pass, and after a packet

abbrev pub called_in : Turn → Result Done → List ℕ → Turn
called_in m r new = record { book = left (verdict_of r) new m.book; events = m.events ++ shows r; sent = m.sent }

abbrev pub passed_in : Turn → Result Passing → Turn
passed_in m (refused r) = m
passed_in m (accepted x) = let g = id_of x.to in record {
  book = pass_bytes m.book;
  events = m.events;
  sent = at g (m.sent g ++ (passed_bytes x ∷ [])) m.sent;
}

abbrev pub delivered_in : Turn → List ℕ → Member → Turn
delivered_in m s q = record { book = after (packet s q) m.book; events = m.events; sent = m.sent }

-- ---- what can happen, at any time, with the events that are published

-- other contents of the memory of p
abbrev pub remembered : Hosts → Member → Turn → Hosts
remembered h p m = record { world = h.world; disk = h.disk; memory = at p m h.memory }

pub data Works (n : ℕ) : Hosts → Hosts → List (Event ℕ) → Type 0 where
  -- whatever changes no book: a view comes to exist, a message that was posted is ordered
  carry : {h : Hosts} {u : World} → Happens n h.world u [] → u.books ≡ h.world.books
      → Works n h (record { world = u; disk = h.disk; memory = h.memory }) []
  call : {h : Hosts} (p : Member) → p < n → {r : Result Done} {new : List ℕ} → Call n (seen h p) p r new
      → Works n h (remembered h p (called_in (h.memory p) r new)) []
  pass : {h : Hosts} (p : Member) → p < n → (room : ℕ)
      → Works n h (remembered h p (passed_in (h.memory p) (pass_call room (h.memory p).book))) []
  -- a packet whose messages are in order
  deliver_packet : {h : Hosts} (p : Member) → p < n → (s : List ℕ) (q : Member) → AreBytes s
      → EachInOrder (seen h p) p (pieces_in s) q → Works n h (remembered h p (delivered_in (h.memory p) s q)) []
  save : {h : Hosts} (p : Member)
      → Works n h (record {
        world = h.world;
        disk = at p (followed (h.disk p) (h.memory p)) h.disk;
        memory = at p (idle (h.memory p).book) h.memory;
      }) []
  -- the host of p stops before a save, and comes back with the book that it saved last
  stop : {h : Hosts} (p : Member) → Works n h (remembered h p (idle (h.disk p).book)) []
  -- p publishes what it saved; from then on the messages of it are on their way, or lost
  publish : {h : Hosts} (p : Member) → p < n
      → Works n h (record {
        world = with_turn h.world p (h.disk p);
        disk = at p (idle (h.disk p).book) h.disk;
        memory = h.memory;
      }) (h.disk p).events

-- from starts that are accepted, and saved: what it comes to, and the events that were published
pub data Worked (n S : ℕ) : Hosts → List (Event ℕ) → Type 0 where
  begin : (lent : Member → List ℕ) → 0 < n
      → ((p : Member) → p < n → verdict_of (start_call n S p (lent p)) ≡ Ok tt)
      → Worked n S (quiet (world0 n S lent)) []
  then : {h k : Hosts} {l e : List (Event ℕ)} → Worked n S h l → Works n h k e → Worked n S k (l ++ e)

-- ---- what is promised of such hosts

pub record TurnsPromised (n S : ℕ) (h : Hosts) (l : List (Event ℕ)) : Type 0 where
  -- a history comes to the public world with the events that were published: so a turn that ended before its save did
  -- not happen, and what is promised of every history is promised of these events
  pub published : History n S h.world l
  -- and one comes to the world as a member has it at its turn, with the events of the turn
  pub at_turn : (p : Member) → p < n → History n S (seen h p) ((l ++ (h.disk p).events) ++ (h.memory p).events)

abbrev pub TurnsHosts : Type 0
TurnsHosts = (n S : ℕ) (h : Hosts) (l : List (Event ℕ)) → Worked n S h l → TurnsPromised n S h l

-- such hosts are no special case: every history is one of hosts that save and publish after each call
abbrev pub HistoriesTurns : Type 0
HistoriesTurns = (n S : ℕ) (w : World) (l : List (Event ℕ)) → History n S w l → Worked n S (quiet w) l
