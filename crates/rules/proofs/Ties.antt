-- The tie: what the flat group, the membership machine and Figure 1 have in common while all three run side by side, one statement at a time, and the
-- record of them all. The membership machine holds no more than the group does, and forgets nothing; Figure 1 keeps what the group drops as pending.
pub mod Join
pub mod Pass
pub mod Take
pub mod Attempt
pub mod Send
pub mod Hand
use mathlib.Core.Path.{◌≡◌}
use mathlib.Core.List.{List, [], ◌++◌}
use Prim.Native.Nat.{ℕ, suc, ◌≤◌}
use lib.Dec.{T}
use lib.ListN.{length, drop}
use Rattle.views.specs.declared.View.{View}
use Rattle.views.specs.Members.{In}
use Rattle.views.specs.Lists.{id_of}
use Rattle.membership.proofs.Machine.{State}
use Rattle.rules.specs.Data.{Item}
use Rattle.rules.specs.Figure1.{Outer}
use Rattle.rules.proofs.Flat as F
use Rattle.rules.proofs.Flat.{Flat, Msg, Ent, ent}
use Rattle.rules.proofs.Flat.Queues.{clients_of, items_of}

module _ {M : Type 0} where
  -- ---- views

  abbrev pub ListedMade : State → Flat M → Type 0
  ListedMade a s = (v : View) → In v s.views → a.made (id_of v)

  abbrev pub MadeListed : State → Flat M → Type 0
  MadeListed a s = (g : ℕ) → a.made g → (v : View) × In v s.views × (id_of v ≡ g)

  -- Figure 1 creates a view when it is first attempted
  abbrev pub CreatedListed : Outer M → Flat M → Type 0
  CreatedListed d s = (v : View) → In v d.created → In v s.views

  abbrev pub CreatedAttempted : State → Outer M → Type 0
  CreatedAttempted a d = (v : View) → In v d.created → (p : ℕ) × a.attempted p (id_of v)

  abbrev pub AttemptedCreated : State → Outer M → Type 0
  AttemptedCreated a d = (p g : ℕ) → a.attempted p g → (v : View) × In v d.created × (id_of v ≡ g)

  -- ---- what a member holds

  abbrev pub SameCarrier : State → Flat M → Type 0
  SameCarrier a s = a.carrier ≡ s.carrier

  abbrev pub SameClient : State → Flat M → Type 0
  SameClient a s = a.client ≡ s.client

  abbrev pub SameSettled : State → Flat M → Type 0
  SameSettled a s = a.settled ≡ s.settled

  -- one way only: the group may have more open
  abbrev pub OpenedListed : State → Flat M → Type 0
  OpenedListed a s = (p w : ℕ) → a.opened p w → In w (s.opens p)

  abbrev pub InfosReceived : State → Flat M → Type 0
  InfosReceived a s = (p g : ℕ) → s.carrier p ≡ suc g → (q : ℕ) → T (s.infos p q) → a.got_info p g q

  abbrev pub RegistrationsReceived : State → Flat M → Type 0
  RegistrationsReceived a s = (p g : ℕ) → s.carrier p ≡ suc g → (q : ℕ) → T (s.regs p q) → a.got_reg p g q

  abbrev pub SameCurrent : Outer M → Flat M → Type 0
  SameCurrent d s = d.current ≡ s.client

  abbrev pub RegisteredOutward : State → Outer M → Type 0
  RegisteredOutward a d = (g p : ℕ) → a.registered g p → T (d.registered g p)

  abbrev pub RegisteredInward : State → Outer M → Type 0
  RegisteredInward a d = (g p : ℕ) → T (d.registered g p) → a.registered g p

  -- ---- messages on their way

  -- what q's message in the view g rests on: its info was sent so, its registration was made, its count was reached
  abbrev pub Rests : (ℕ → ℕ → ℕ → Type 0) → (ℕ → ℕ → ℕ → Type 0) → (ℕ → ℕ → Type 0) → (ℕ → ℕ → ℕ) → ℕ → ℕ → Msg M → Type 0
  Rests sent_settled sent_open registered received g q (F.client m) = Unit {0}
  Rests sent_settled sent_open registered received g q (F.info x ws) = sent_settled g q x × ((w : ℕ) → sent_open g q w → In w ws)
  Rests sent_settled sent_open registered received g q F.registered = registered g q
  Rests sent_settled sent_open registered received g q (F.told c) = c ≤ received q g

  abbrev pub Backed : State → Outer M → ℕ → ℕ → Msg M → Type 0
  Backed a d g q m = Rests a.sent_settled a.sent_open a.registered d.received g q m

  abbrev pub OutgoingBacked : State → Outer M → Flat M → Type 0
  OutgoingBacked a d s = (p g : ℕ) → s.carrier p ≡ suc g → (m : Msg M) → In m (s.outgoing p) → Backed a d g p m

  abbrev pub WaitingBacked : State → Outer M → Flat M → Type 0
  WaitingBacked a d s = (p g : ℕ) (m : Msg M) → In m (s.waiting p g) → Backed a d g p m

  abbrev pub OrderBacked : State → Outer M → Flat M → Type 0
  OrderBacked a d s = (g q : ℕ) (m : Msg M) → In (ent q m) (s.order g) → Backed a d g q m

  -- the counts that were told are reached
  abbrev pub ToldReached : Outer M → Flat M → Type 0
  ToldReached d s = (p g : ℕ) → s.carrier p ≡ suc g → (q : ℕ) → s.tolds p q ≤ d.received q g

  -- ---- client messages on their way

  abbrev pub SameQueue : Outer M → Flat M → Type 0
  SameQueue d s = (g : ℕ) → d.queue g ≡ items_of (s.order g)

  -- what is pending begins with what waits
  abbrev pub Begins : List (Msg M) → List M → Type 0
  Begins waiting pending = (more : List M) × (pending ≡ clients_of waiting ++ more)

  abbrev pub PendingBegins : Outer M → Flat M → Type 0
  PendingBegins d s = (p g : ℕ) → Begins (s.waiting p g) (d.pending p g)

  -- and in the carrier view what is outgoing comes next, and no more
  abbrev pub PendingWhole : Outer M → Flat M → Type 0
  PendingWhole d s = (p g : ℕ) → s.carrier p ≡ suc g → d.pending p g ≡ clients_of (s.waiting p g) ++ clients_of (s.outgoing p)

  -- nothing in a view above the carrier view
  abbrev pub PendingNone : Outer M → Flat M → Type 0
  PendingNone d s = (p g : ℕ) → s.carrier p ≤ g → (s.waiting p g ≡ []) × (d.pending p g ≡ [])

  -- ---- client messages that arrived

  abbrev pub TakenWithin : Flat M → Type 0
  TakenWithin s = (p g : ℕ) → s.carrier p ≡ suc g → s.taken p ≤ length (s.order g)

  -- the items of an order are those handed out, those ahead, and a rest; `now`, in the carrier view, the rest is what was not taken
  abbrev pub Parts : List (Ent M) → List (Item M) → List (Item M) → ℕ → Type 0 → Type 0
  Parts order given ahead taken now = (rest : List (Item M)) × (items_of order ≡ given ++ (ahead ++ rest)) × (now → rest ≡ items_of (drop taken order))

  abbrev pub ClientParts : Flat M → Type 0
  ClientParts s = (p g : ℕ) → s.client p ≡ suc g → Parts (s.order g) (s.given p) (s.ahead p) (s.taken p) (s.carrier p ≡ suc g)

  -- in a carrier view that is not the client view they are those that arrived, and what was not taken
  abbrev pub Halves : List (Ent M) → List (Item M) → ℕ → Type 0
  Halves order arrived taken = items_of order ≡ arrived ++ items_of (drop taken order)

  abbrev pub CarrierHalves : Flat M → Type 0
  CarrierHalves s = (p g : ℕ) → s.carrier p ≡ suc g → s.client p ≤ g → Halves (s.order g) (s.arrived p) (s.taken p)

  abbrev pub ReceivedGiven : Outer M → Flat M → Type 0
  ReceivedGiven d s = (p g : ℕ) → s.client p ≡ suc g → d.received p g ≡ length (s.given p)

  abbrev pub SafelyReported : Outer M → Flat M → Type 0
  SafelyReported d s = (p g : ℕ) → s.client p ≡ suc g → d.safely p g ≡ s.reported p

  -- no counts in a view above the client view
  abbrev pub CountsNone : Outer M → Flat M → Type 0
  CountsNone d s = (p g : ℕ) → s.client p ≤ g → (d.received p g ≡ 0) × (d.safely p g ≡ 0)

pub record Tied {M : Type 0} (a : State) (d : Outer M) (s : Flat M) : Type 0 where
  pub listed-made : ListedMade a s
  pub made-listed : MadeListed a s
  pub created-listed : CreatedListed d s
  pub created-attempted : CreatedAttempted a d
  pub attempted-created : AttemptedCreated a d
  pub same-carrier : SameCarrier a s
  pub same-client : SameClient a s
  pub same-settled : SameSettled a s
  pub opened-listed : OpenedListed a s
  pub infos-received : InfosReceived a s
  pub regs-received : RegistrationsReceived a s
  pub same-current : SameCurrent d s
  pub reg-outward : RegisteredOutward a d
  pub reg-inward : RegisteredInward a d
  pub outgoing-backed : OutgoingBacked a d s
  pub waiting-backed : WaitingBacked a d s
  pub order-backed : OrderBacked a d s
  pub told-reached : ToldReached d s
  pub same_queue : SameQueue d s
  pub pending-begins : PendingBegins d s
  pub pending-whole : PendingWhole d s
  pub pending-none : PendingNone d s
  pub taken-within : TakenWithin s
  pub client-parts : ClientParts s
  pub carrier-halves : CarrierHalves s
  pub received-given : ReceivedGiven d s
  pub safely-reported : SafelyReported d s
  pub counts-none : CountsNone d s

-- ---- the same, at a member

module _ {M : Type 0} {a : State} {d : Outer M} {s : Flat M} (r : Tied a d s) (p : ℕ) where
  pub carrier-is : a.carrier p ≡ s.carrier p
  carrier-is = λ i. r.same-carrier i p

  pub client-is : a.client p ≡ s.client p
  client-is = λ i. r.same-client i p

  pub settled_is : a.settled p ≡ s.settled p
  settled_is = λ i. r.same-settled i p

  pub current-is : d.current p ≡ s.client p
  current-is = λ i. r.same-current i p
