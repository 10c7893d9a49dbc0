-- Members by themselves, each called by a host of its own, over a carrier that the hosts have. Of the carrier and the
-- hosts this is asked:
--
-- 1. No two views share an identifier, and every view's set has members, all of them among the n.
-- 2. In a view every member takes a prefix of one order of messages.
-- 3. That order holds a prefix of what each sender gave out in that view: its first messages, in the order sent,
--    without gaps. So a lost message stops its sender in this view.
-- 4. A member's book never goes back, but for the outgoing list of a member that joins next.
--
-- Nothing else: views and messages are as many as there come, views come in any order of identifiers, members of a view
-- need not take equally much, and nothing has to arrive. What the members' calls refuse is refused. M is what a client
-- sends.
use Rattle.std.specs.Prelude.{◌≡◌, ◌≢◌, true, List, [], ◌∷◌, ◌++◌, ℕ, suc, ◌^◌, ◌<◌, T, ltb, leb, length, Some}
use Rattle.views.specs.declared.View.{View}
use Rattle.views.specs.declared.refusal.Refusal.TheVariants.{OrderFull, TooManyOpen}
use Rattle.views.specs.Limits.{max_members, max_open, max_ordered}
use Rattle.views.specs.Members.{In}
use Rattle.views.specs.Points.{at, at2}
use Rattle.views.specs.Sets.{has, fits}
use Rattle.views.specs.Lists.{id_of}
use Rattle.wire.specs.Single.{read_one}
use Rattle.rules.specs.Data.{Identifier, Member, MessageOf, Message, EntryOf, entry, BookOf, Event, ok, Result}
use Rattle.rules.specs.Data.{refused, accepted, need, rank}
use Rattle.rules.specs.Data as D
use Rattle.rules.specs.Member.{DoneOf, PassingOf, does, outgoes, passing, delivered, registers, sends, hands}
use Rattle.rules.specs.Member.{tells, safes, collects}
use Rattle.rules.specs.Sound.{within}
use Rattle.rules.specs.Group.{fresh, first_view}
use Rattle.rules.specs.Figure1.{At}
use Rattle.rules.specs.Runs.{events_of, Attempted}
use Rattle.rules.specs.Alone.{SentOf, alone, book_sound, join_alone, deliver_alone, attempt_alone, message_bytes}
use Rattle.rules.specs.Alone.{sent_of}
use Rattle.rules.specs.Promise.{Promised}

pub record World (M : Type 0) : Type 0 where
  pub views : List View  -- those in existence
  pub books : Member → BookOf M
  pub sent : Member → Identifier → List (EntryOf M)  -- given out in a view and not in its order: on its way, or lost
  pub order : Identifier → List (EntryOf M)

module _ {M : Type 0} where
  -- the first view exists, and each book is what start gives
  abbrev pub world0 : ℕ → World M
  world0 S = record { views = first_view S ∷ []; books = fresh S; sent = λ p g. []; order = λ g. [] }

  -- ---- what a call leaves, and its outward events: a refused one leaves all as it was

  abbrev pub called : World M → Member → Result (DoneOf M) → World M
  called w p (refused r) = w
  called w p (accepted d) = record {
    views = w.views;
    books = at p d.book w.books;
    sent = w.sent;
    order = w.order;
  }

  abbrev pub says : Result (DoneOf M) → List (Event M)
  says (refused r) = []
  says (accepted d) = events_of (d.answer ∷ [])

  -- a message is given out in the view that it is tagged with
  abbrev pub passed : World M → Member → Result (PassingOf M) → World M
  passed w p (refused r) = w
  passed w p (accepted x) = let g = id_of x.to in record {
    views = w.views;
    books = at p x.book w.books;
    sent = at2 p g (w.sent p g ++ (x.first ∷ [])) w.sent;
    order = w.order;
  }

  -- ---- the calls of the member p

  -- the next message that it has to take of the view v is m, from q
  abbrev pub Next : World M → Member → View → Member → MessageOf M → Type 0
  Next w p v q m = At (w.order (id_of v)) (w.books p).carrier.taken (entry q m)

  -- what is read as a message of its carrier view is the next that it has to take of it
  abbrev pub InOrder : World M → Member → Result (SentOf M) → Member → Type 0
  InOrder w p read q =
      (v : View) (m : MessageOf M) → (w.books p).carrier.view ≡ Some v
      → read ≡ accepted (record { view = id_of v; message = m }) → Next w p v q m

  -- each with its result
  pub data Call (weight : Member → ℕ) (n : ℕ) (w : World M) (p : Member) : Result (DoneOf M) → Type 0 where
    -- any view in existence
    join : (v : View) → In v w.views → Call weight n w p (join_alone n p v (w.books p))
    -- the same of a member that was stopped and came back with any outgoing list: it makes no call before it has joined
    rejoin : (v : View) (l : List (EntryOf M)) → In v w.views
        → Call weight n w p (join_alone n p v (outgoes l (w.books p)))
    -- the next message; or any of another view, or bytes that the reader refuses
    deliver : (read : Result (SentOf M)) (q : Member) → InOrder w p read q
        → Call weight n w p (deliver_alone n p read q (w.books p))
    attempt : Call weight n w p (attempt_alone weight n p (w.books p))
    register : Call weight n w p (alone n p (w.books p) (registers p (w.books p)))
    send : (x : M) → Call weight n w p (alone n p (w.books p) (sends p x (w.books p)))
    hand : Call weight n w p (alone n p (w.books p) (hands p (w.books p)))
    tell : Call weight n w p (alone n p (w.books p) (tells p (w.books p)))
    safe : Call weight n w p (alone n p (w.books p) (safes n p (w.books p)))
    collect : Call weight n w p (alone n p (w.books p) (collects n (w.books p)))

  -- ---- what can happen, at any time, with its outward events

  pub data Happens (weight : Member → ℕ) (n : ℕ) : World M → World M → List (Event M) → Type 0 where
    -- a view comes to exist, its identifier above or below the others'
    exist : {w : World M} (v : View) → fits n v.set ≡ true
        → ((u : View) → In u w.views → id_of u ≢ id_of v)
        → Happens weight n w (record {
          views = v ∷ w.views;
          books = w.books;
          sent = w.sent;
          order = w.order;
        }) []
    call : {w : World M} (p : Member) {r : Result (DoneOf M)} → Call weight n w p r
        → Happens weight n w (called w p r) (says r)
    -- into a buffer with room for it; where there is none, 39 leaves all as it was
    pass : {w : World M} (p : Member)
        → Happens weight n w (passed w p (alone n p (w.books p) (passing (w.books p)))) []
    -- the first that a member gave out in a view goes to the end of the view's order
    order : {w : World M} (p : Member) (g : Identifier) (e : EntryOf M) (rest : List (EntryOf M))
        → w.sent p g ≡ e ∷ rest
        → Happens weight n w (record {
          views = w.views;
          books = w.books;
          sent = at2 p g rest w.sent;
          order = at g (w.order g ++ (e ∷ [])) w.order;
        }) []

  -- from a start that is accepted: the world that it comes to, and the outward events, first to last
  pub data History (weight : Member → ℕ) (n S : ℕ) : World M → List (Event M) → Type 0 where
    begin : within 1 n max_members ≡ true → fits n S ≡ true → History weight n S (world0 S) []
    then : {w t : World M} {l k : List (Event M)} → History weight n S w l → Happens weight n w t k
        → History weight n S t (l ++ k)

-- ---- what is promised of every history

-- demand 3, the same as of a group
abbrev pub Demand3Hosts : Type 0 → Type 0
Demand3Hosts M =
    (weight : Member → ℕ) (n S : ℕ) (w : World M) (l : List (Event M)) → History weight n S w l → Promised weight S l

-- no book comes to be one that 4 refuses
abbrev pub NeverWedgedHosts : Type 0 → Type 0
NeverWedgedHosts M =
    (weight : Member → ℕ) (n S : ℕ) (w : World M) (l : List (Event M)) → History weight n S w l
    → (p : Member) → p < n → book_sound n (w.books p) ≡ true

-- Invariant 3.4 of the report: if every member of a view attempted it, each earlier attempted view has a member whose
-- client view is newer than that earlier view
abbrev pub MovedOnHosts : Type 0 → Type 0
MovedOnHosts M =
    (weight : Member → ℕ) (n S : ℕ) (w : World M) (l : List (Event M)) → History weight n S w l
    → (v u : View) → Attempted S l v → In u w.views → ((p : Member) → T (has u.set p) → In (D.attempt p u) l)
    → id_of v < id_of u
    → (p : Member) × T (has v.set p) × (suc (id_of v) < rank (w.books p).client.view)

-- deliver of the next message of the carrier view's order is refused by 16 and 43 alone
abbrev pub TakesNext : Type 0 → Type 0
TakesNext M =
    (weight : Member → ℕ) (n S : ℕ) (w : World M) (l : List (Event M)) → History weight n S w l
    → (p : Member) → p < n → (v : View) (q : Member) (m : MessageOf M) → (w.books p).carrier.view ≡ Some v
    → Next w p v q m
    → deliver_alone n p (accepted (record { view = id_of v; message = m })) q (w.books p)
    ≡ need (ltb (w.books p).carrier.taken max_ordered) OrderFull (
    need (leb (length (delivered q m (w.books p)).held.opens) max_open) TooManyOpen (
    does ok (delivered q m (w.books p))))

-- the bytes of what is in a view's order are read as it, where identifiers and entry numbers are within their widths
abbrev pub BytesRead : Type 0
BytesRead =
    (weight : Member → ℕ) (n S : ℕ) (w : World ℕ) (l : List (Event ℕ)) → History weight n S w l
    → ((v : View) → In v w.views → id_of v < 256 ^ 4)
    → ((p : Member) (g : Identifier) (x : ℕ) → In (D.send p g x) l → x < 256 ^ 8)
    → (v : View) → In v w.views → (q : Member) (m : Message) → In (entry q m) (w.order (id_of v))
    → sent_of (read_one (message_bytes (id_of v) m)) ≡ accepted (record { view = id_of v; message = m })
