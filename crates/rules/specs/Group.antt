-- The group: start, the carrier's steps, the joint steps, and one step by its kind's number.
use Rattle.std.specs.Prelude.{false, cond, List, [], ◌∷◌, ◌++◌, ℕ, zero, suc, ltb, leb, length, drop, Option}
use Rattle.std.specs.Prelude.{None, Some}
use Rattle.views.specs.declared.View.{View}
use Rattle.std.specs.Prelude.{Some, None}
use Rattle.views.specs.declared.refusal.Refusal.TheVariants.{MembersOutOfRange, FirstSetUnfit, ListLength}
use Rattle.views.specs.declared.refusal.Refusal.TheVariants.{RecordsUnsound, UnknownStep, NoSuchMember, SetUnfit}
use Rattle.views.specs.declared.refusal.Refusal.TheVariants.{IdentifierNotAbove, ListFull, NoSuchView, WaitingFull}
use Rattle.views.specs.declared.refusal.Refusal.TheVariants.{NoneWaiting, OrderFull, NoCarrierView, NoneToDeliver}
use Rattle.views.specs.Limits.{max_members, max_views, max_waiting, max_ordered}
use Rattle.views.specs.Sets.{both, has, fits}
use Rattle.views.specs.Points.{at, at2}
use Rattle.views.specs.Lists.{id_of, find_of}
use Rattle.rules.specs.Data.{Identifier, Member, EntryOf, entry, BookOf, GroupOf, Group, Step, AnswerOf, ok}
use Rattle.rules.specs.Data.{refusal, Result, refused, accepted, need, with_view, with_first, after}
use Rattle.rules.specs.Member.{DoneOf, all, joins, passing, delivered, attempts, registers, sends, hands, tells}
use Rattle.rules.specs.Member.{safes, collects}
use Rattle.rules.specs.Sound.{sound}

-- ---- words

-- what an accepted step of the group leaves and answers
pub record NextOf (M : Type 0) : Type 0 where
  pub state : GroupOf M
  pub answer : AnswerOf M

abbrev pub Next : Type 0
Next = NextOf ℕ

-- the view of an identifier among those made, or 10
unfoldable pub with_listed : {A : Type 0} → Option View → (View → Result A) → Result A
with_listed (Some v) f = f v
with_listed None f = refused NoSuchView

-- the first view, identifier 0
abbrev pub first_view : ℕ → View
first_view S = record { id = record { 0 = 0 }; set = S }

module _ {M : Type 0} where
  -- the group with another book for the member p
  unfoldable pub booked : GroupOf M → Member → BookOf M → GroupOf M
  booked s p b = record {
    members = s.members;
    room = s.room;
    views = s.views;
    books = at p b s.books;
    waiting = s.waiting;
    order = s.order;
  }

  -- a step of the member p alone
  unfoldable pub own : GroupOf M → Member → Result (DoneOf M) → Result (NextOf M)
  own s p r = after r (λ d. accepted (record { state = booked s p d.book; answer = d.answer }))

  -- ---- start

  -- the first view is the carrier and client view of its members, attempted and registered; others have neither
  unfoldable pub fresh : ℕ → Member → BookOf M
  fresh S p = record {
    held = record { settled = first_view S; opens = [] };
    carrier = record {
      view = cond (has S p) (Some (first_view S)) None;
      infos = λ q. false;
      registrations = λ q. false;
      tolds = λ q. 0;
      taken = 0;
      inward = [];
    };
    client = record {
      view = cond (has S p) (Some (first_view S)) None;
      registered = has S p;
      inward = [];
      handed = 0;
      told = 0;
      reported = 0;
    };
    outgoing = [];
  }

  unfoldable pub started : ℕ → ℕ → ℕ → GroupOf M
  started n S room = record {
    members = n;
    room = room;
    views = first_view S ∷ [];
    books = fresh S;
    waiting = λ p g. [];
    order = λ g. [];
  }

  -- members, first set, the length of the list
  unfoldable pub start : ℕ → ℕ → ℕ → Result (GroupOf M)
  start n S room =
      need (both (leb 1 n) (leb n max_members)) MembersOutOfRange (
      need (fits n S) FirstSetUnfit (
      need (both (leb 1 room) (leb room max_views)) ListLength (
      accepted (started n S room))))

  -- ---- 1. create: the carrier makes the view

  unfoldable pub creates : GroupOf M → Identifier → ℕ → Result (NextOf M)
  creates s g S =
      need (fits s.members S) SetUnfit (
      need (all (λ v. ltb (id_of v) g) s.views) IdentifierNotAbove (
      need (ltb (length s.views) s.room) ListFull (
      accepted (record {
        state = record {
          members = s.members;
          room = s.room;
          views = s.views ++ (record { id = record { 0 = g }; set = S } ∷ []);
          books = s.books;
          waiting = s.waiting;
          order = s.order;
        };
        answer = ok;
      }))))

  -- ---- 2. join

  unfoldable pub join_step : GroupOf M → Member → Identifier → Result (NextOf M)
  join_step s p g = with_listed (find_of g s.views) (λ v. own s p (joins p v (s.books p)))

  -- ---- 3. pass: the first outgoing message goes to the member's waiting in its carrier view

  unfoldable pub pass_step : GroupOf M → Member → Result (NextOf M)
  pass_step s p =
      after (passing (s.books p)) (λ x. let g = id_of x.to in
      need (ltb (length (s.waiting p g)) max_waiting) WaitingFull (
      accepted (record {
        state = record {
          members = s.members;
          room = s.room;
          views = s.views;
          books = at p x.book s.books;
          waiting = at2 p g (s.waiting p g ++ (x.first ∷ [])) s.waiting;
          order = s.order;
        };
        answer = ok;
      })))

  -- ---- 4. order: the first one waiting goes to the end of the view's order

  unfoldable pub order_step : GroupOf M → Member → Identifier → Result (NextOf M)
  order_step s p g =
      with_listed (find_of g s.views) (λ v.
      with_first (s.waiting p g) NoneWaiting (λ e rest.
      need (ltb (length (s.order g)) max_ordered) OrderFull (
      accepted (record {
        state = record {
          members = s.members;
          room = s.room;
          views = s.views;
          books = s.books;
          waiting = at2 p g rest s.waiting;
          order = at g (s.order g ++ (e ∷ [])) s.order;
        };
        answer = ok;
      }))))

  -- ---- 5. deliver: it takes the next message of its carrier view's order

  abbrev pub take_from : EntryOf M → BookOf M → BookOf M
  take_from (entry q m) b = delivered q m b

  unfoldable pub deliver_step : GroupOf M → Member → Result (NextOf M)
  deliver_step s p =
      with_view (s.books p).carrier.view NoCarrierView (λ v.
      with_first (drop (s.books p).carrier.taken (s.order (id_of v))) NoneToDeliver (λ e rest.
      accepted (record { state = booked s p (take_from e (s.books p)); answer = ok })))

  -- ---- a result, put to the group: a refusal gives its number only and changes nothing

  abbrev pub settles : GroupOf M → Result (NextOf M) → NextOf M
  settles s (refused r) = record { state = s; answer = refusal r }
  settles s (accepted x) = x

-- ---- one step

-- the step of a kind's number, 1 for the first, or 5
unfoldable pub pick : {A : Type 0} → ℕ → List (Result A) → Result A
pick zero l = refused UnknownStep
pick (suc k) [] = refused UnknownStep
pick (suc zero) (r ∷ l) = r
pick (suc (suc k)) (r ∷ l) = pick (suc k) l

-- 6 in every step but create
unfoldable pub step_of : (Member → ℕ) → Group → Step → Result Next
step_of weight s c =
    let n = s.members in
    let p = c.first in
    let b = s.books p in
    let by = need (ltb p n) NoSuchMember in
    pick c.kind (
    creates s c.first c.second
    ∷ by (join_step s p c.second)
    ∷ by (pass_step s p)
    ∷ by (order_step s p c.second)
    ∷ by (deliver_step s p)
    ∷ by (own s p (attempts weight n p b))
    ∷ by (own s p (registers p b))
    ∷ by (own s p (sends p c.second b))
    ∷ by (own s p (hands p b))
    ∷ by (own s p (tells p b))
    ∷ by (own s p (safes n p b))
    ∷ by (own s p (collects n b))
    ∷ [])

-- 4 is asked first, over all records
unfoldable pub step : (Member → ℕ) → Group → Step → Next
step weight s c = settles s (need (sound s) RecordsUnsound (step_of weight s c))
