-- The member's rules, over its book b: p is its own number, n the number of members. The group's steps and the member
-- by itself use these. M is what a client sends. Each rule is its row of the refusal table from left to right, then
-- what the step does.
use Rattle.std.specs.Prelude.{Bool, true, false, cond, not, ◌||◌, List, [], ◌∷◌, ◌++◌, ℕ, Option, Some, None}
use Rattle.std.specs.Prelude.{zero, suc, ◌+◌, ◌*◌, eqb, ltb, leb, length, take, drop}
use Rattle.views.specs.declared.View.{View}
use Rattle.views.specs.declared.refusal.Refusal.TheVariants.{NotInSet, NotAboveCarrier, NoCarrierView, NoneOutgoing}
use Rattle.views.specs.declared.refusal.Refusal.TheVariants.{NotAboveClient, InfoMissing, TestFailed, NoClientView}
use Rattle.views.specs.declared.refusal.Refusal.TheVariants.{AlreadyRegistered, OutgoingFull, NoneToHand}
use Rattle.views.specs.declared.refusal.Refusal.TheVariants.{ClientNotCarrier, NothingNewToTell, NoneToReport}
use Rattle.views.specs.declared.refusal.Refusal.TheVariants.{ToldTooLow, NotAboveSettled, RegistrationMissing}
use Rattle.views.specs.Limits.{max_members, max_outgoing}
use Rattle.views.specs.Sets.{both, has, in_common, weigh}
use Rattle.views.specs.Points.{at}
use Rattle.views.specs.Lists.{id_of, find_of, insert_of, union_of, above_of}
use Rattle.rules.specs.Data.{Identifier, Member, MessageOf, client, info, registered, told, EntryOf, entry, Item}
use Rattle.rules.specs.Data.{item, Held, AtCarrierOf, AtClientOf, BookOf, attempt, register, send, hand, safe}
use Rattle.rules.specs.Data.{AnswerOf, ok, event, Result, accepted, need, with_view, with_first, rank}

-- ---- what a rule gives

-- what an accepted step of a member leaves and answers
pub record DoneOf (M : Type 0) : Type 0 where
  pub book : BookOf M
  pub answer : AnswerOf M

abbrev pub Done : Type 0
Done = DoneOf ℕ

-- pass gives the first outgoing message, the view it goes to, and the book without it
pub record PassingOf (M : Type 0) : Type 0 where
  pub to : View
  pub first : EntryOf M
  pub book : BookOf M

abbrev pub Passing : Type 0
Passing = PassingOf ℕ

-- ---- words

-- f holds for every member below n
unfoldable pub every : ℕ → (Member → Bool) → Bool
every zero f = true
every (suc n) f = both (every n f) (f n)

-- f holds for every one of a list
unfoldable pub all : {A : Type 0} → (A → Bool) → List A → Bool
all f [] = true
all f (x ∷ l) = both (f x) (all f l)

-- f holds for every member of the view, of n members
abbrev pub every_of : ℕ → View → (Member → Bool) → Bool
every_of n v f = every n (λ q. not (has v.set q) || f q)

-- the identifier is above a view or none
abbrev pub is_above : Identifier → Option View → Bool
is_above g o = leb (rank o) g

-- Test: twice the weight in common exceeds the weight of the held view. Every member weighs 1: then it is the members
-- that are counted.
unfoldable pub passes : (Member → ℕ) → View → View → Bool
passes weight v held =
    ltb (weigh weight (has held.set) max_members) (2 * weigh weight (has (in_common v.set held.set)) max_members)

-- ---- what is held, after an info was taken and after an attempt

-- of two views with one identifier its own is kept
abbrev pub own_or : View → Option View → View
own_or x (Some v) = v
own_or x None = x

-- a settled view with a higher identifier replaces its own; an open view that is settled so keeps the set it had open
unfoldable pub settled_by : View → Held → View
settled_by x h = cond (ltb (id_of h.settled) (id_of x)) (own_or x (find_of (id_of x) h.opens)) h.settled

-- open views are both lists together, only those above the settled one
unfoldable pub learned : View → List View → Held → Held
learned x l h = record { settled = settled_by x h; opens = above_of (id_of (settled_by x h)) (union_of h.opens l) }

-- a view not above the settled one, or whose identifier is open already, opens nothing
unfoldable pub opened : View → Held → Held
opened v h = record {
  settled = h.settled;
  opens = cond (ltb (id_of h.settled) (id_of v)) (insert_of v h.opens) h.opens;
}

module _ {M : Type 0} where
  -- accepted: the answer, and the book that is left
  abbrev pub does : AnswerOf M → BookOf M → Result (DoneOf M)
  does a b = accepted (record { book = b; answer = a })

  -- ---- words of a book

  -- the client view is the carrier view, by identifier
  abbrev pub client_is_carrier : BookOf M → Bool
  client_is_carrier b = eqb (rank b.client.view) (rank b.carrier.view)

  -- the book with another outgoing list
  abbrev pub outgoes : List (EntryOf M) → BookOf M → BookOf M
  outgoes l b = record { held = b.held; carrier = b.carrier; client = b.client; outgoing = l }

  -- outgoing gains a message where the client view is the carrier view; elsewhere no message is queued
  unfoldable pub queues : Member → MessageOf M → BookOf M → BookOf M
  queues p m b = cond (client_is_carrier b) (outgoes (b.outgoing ++ (entry p m ∷ [])) b) b

  -- 24 applies only where a message would be queued
  abbrev pub has_room : BookOf M → Bool
  has_room b = not (client_is_carrier b) || ltb (length b.outgoing) max_outgoing

  -- ---- 2. join: the view v becomes the carrier view

  unfoldable pub joined : Member → View → BookOf M → BookOf M
  joined p v b = record {
    held = b.held;
    carrier = record {
      view = Some v;
      infos = λ q. false;
      registrations = λ q. false;
      tolds = λ q. 0;
      taken = 0;
      inward = [];
    };
    client = b.client;
    outgoing = entry p (info b.held.settled b.held.opens) ∷ [];
  }

  unfoldable pub joins : Member → View → BookOf M → Result (DoneOf M)
  joins p v b =
      need (has v.set p) NotInSet (
      need (is_above (id_of v) b.carrier.view) NotAboveCarrier (
      does ok (joined p v b)))

  -- ---- 3. pass

  unfoldable pub passing : BookOf M → Result (PassingOf M)
  passing b =
      with_view b.carrier.view NoCarrierView (λ v.
      with_first b.outgoing NoneOutgoing (λ e rest.
      accepted (record { to = v; first = e; book = outgoes rest b })))

  -- ---- 5. deliver: the message m of the carrier view is taken from the sender q

  -- one message more was taken of the carrier view
  abbrev pub takes : (Member → Bool) → (Member → Bool) → (Member → ℕ) → List (Item M) → AtCarrierOf M → AtCarrierOf M
  takes i r t l c = record { view = c.view; infos = i; registrations = r; tolds = t; taken = c.taken + 1; inward = l }

  unfoldable pub received : Item M → AtClientOf M → AtClientOf M
  received x c = record {
    view = c.view;
    registered = c.registered;
    inward = c.inward ++ (x ∷ []);
    handed = c.handed;
    told = c.told;
    reported = c.reported;
  }

  unfoldable pub delivered : Member → MessageOf M → BookOf M → BookOf M
  delivered q (client x) b = let c = b.carrier in
      cond (client_is_carrier b)
      (record {
        held = b.held;
        carrier = takes c.infos c.registrations c.tolds c.inward c;
        client = received (item q x) b.client;
        outgoing = b.outgoing;
      })
      (record {
        held = b.held;
        carrier = takes c.infos c.registrations c.tolds (c.inward ++ (item q x ∷ [])) c;
        client = b.client;
        outgoing = b.outgoing;
      })
  delivered q (info s l) b = let c = b.carrier in
      record {
        held = learned s l b.held;
        carrier = takes (at q true c.infos) c.registrations c.tolds c.inward c;
        client = b.client;
        outgoing = b.outgoing;
      }
  delivered q registered b = let c = b.carrier in
      record {
        held = b.held;
        carrier = takes c.infos (at q true c.registrations) c.tolds c.inward c;
        client = b.client;
        outgoing = b.outgoing;
      }
  delivered q (told k) b = let c = b.carrier in
      record {
        held = b.held;
        carrier = takes c.infos c.registrations (at q k c.tolds) c.inward c;
        client = b.client;
        outgoing = b.outgoing;
      }

  -- ---- 6. attempt: the carrier view becomes open and becomes the client view

  unfoldable pub attempted : View → BookOf M → BookOf M
  attempted v b = let c = b.carrier in record {
    held = opened v b.held;
    carrier = record {
      view = c.view;
      infos = c.infos;
      registrations = c.registrations;
      tolds = c.tolds;
      taken = c.taken;
      inward = [];
    };
    client = record { view = Some v; registered = false; inward = c.inward; handed = 0; told = 0; reported = 0 };
    outgoing = b.outgoing;
  }

  unfoldable pub attempts : (Member → ℕ) → ℕ → Member → BookOf M → Result (DoneOf M)
  attempts weight n p b =
      with_view b.carrier.view NoCarrierView (λ v.
      need (is_above (id_of v) b.client.view) NotAboveClient (
      need (every_of n v b.carrier.infos) InfoMissing (
      need (all (passes weight v) (b.held.settled ∷ b.held.opens)) TestFailed (
      does (event (attempt p v)) (attempted v b)))))

  -- ---- 7. register: noted for the client view; outgoing gains a registered message

  abbrev pub noted : BookOf M → BookOf M
  noted b = let c = b.client in record {
    held = b.held;
    carrier = b.carrier;
    client = record {
      view = c.view;
      registered = true;
      inward = c.inward;
      handed = c.handed;
      told = c.told;
      reported = c.reported;
    };
    outgoing = b.outgoing;
  }

  unfoldable pub registers : Member → BookOf M → Result (DoneOf M)
  registers p b =
      with_view b.client.view NoClientView (λ v.
      need (not b.client.registered) AlreadyRegistered (
      need (has_room b) OutgoingFull (
      does (event (register p (id_of v))) (queues p registered (noted b)))))

  -- ---- 8. send: outgoing gains a client message

  unfoldable pub sends : Member → M → BookOf M → Result (DoneOf M)
  sends p x b =
      with_view b.client.view NoClientView (λ v.
      need (has_room b) OutgoingFull (
      does (event (send p (id_of v) x)) (queues p (client x) b)))

  -- ---- 9. hand: the next of the client view's inward list is given out

  -- the book with other positions in the client view's inward list
  abbrev pub moves : ℕ → ℕ → ℕ → BookOf M → BookOf M
  moves h t r b = let c = b.client in record {
    held = b.held;
    carrier = b.carrier;
    client = record {
      view = c.view;
      registered = c.registered;
      inward = c.inward;
      handed = h;
      told = t;
      reported = r;
    };
    outgoing = b.outgoing;
  }

  unfoldable pub hands : Member → BookOf M → Result (DoneOf M)
  hands p b =
      with_view b.client.view NoClientView (λ v.
      with_first (drop b.client.handed b.client.inward) NoneToHand (λ x rest.
      does (event (hand p (id_of v) x)) (moves (b.client.handed + 1) b.client.told b.client.reported b)))

  -- ---- 10. tell: outgoing gains told, with the number handed out in this view

  unfoldable pub tells : Member → BookOf M → Result (DoneOf M)
  tells p b =
      with_view b.client.view NoClientView (λ v.
      need (client_is_carrier b) ClientNotCarrier (
      need (both (not (eqb b.client.handed b.client.told)) (not (eqb b.client.handed 0))) NothingNewToTell (
      need (has_room b) OutgoingFull (
      does ok (queues p (told b.client.handed)
      (moves b.client.handed b.client.handed b.client.reported b))))))

  -- ---- 11. safe: the next handed message not yet reported is reported, once every member of the view told of it

  unfoldable pub safes : ℕ → Member → BookOf M → Result (DoneOf M)
  safes n p b =
      with_view b.client.view NoClientView (λ v.
      need (client_is_carrier b) ClientNotCarrier (
      with_first (drop b.client.reported (take b.client.handed b.client.inward)) NoneToReport (λ x rest.
      need (every_of n v (λ q. ltb b.client.reported (b.carrier.tolds q))) ToldTooLow (
      does (event (safe p (id_of v) x)) (moves b.client.handed b.client.told (b.client.reported + 1) b)))))

  -- ---- 12. collect: the carrier view becomes settled; only open views above it remain

  unfoldable pub collected : View → BookOf M → BookOf M
  collected v b = record {
    held = record { settled = v; opens = above_of (id_of v) b.held.opens };
    carrier = b.carrier;
    client = b.client;
    outgoing = b.outgoing;
  }

  unfoldable pub collects : ℕ → BookOf M → Result (DoneOf M)
  collects n b =
      with_view b.carrier.view NoCarrierView (λ v.
      need (ltb (id_of b.held.settled) (id_of v)) NotAboveSettled (
      need (every_of n v b.carrier.registrations) RegistrationMissing (
      does ok (collected v b))))
