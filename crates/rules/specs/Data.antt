-- What the rules speak of: messages, a member's book, the group, steps, events and answers. M is what a client sends:
-- the rules pass it on and never look at it. In a group of the specification it is an entry number, and there the
-- words go without 'Of'.
use Rattle.std.specs.Prelude.{Bool, true, false, List, [], ◌∷◌, ℕ, suc, Option, None, Some}
use Rattle.views.specs.declared.View.{View}
use Rattle.views.specs.declared.refusal.Refusal.{Refusal}
use Rattle.views.specs.Lists.{id_of}

-- The three sorts, as the report's G, P and N. All are numbers here; each signature says which is due.
abbrev pub Identifier : Type 0
Identifier = ℕ

abbrev pub Member : Type 0
Member = ℕ

abbrev pub Position : Type 0
Position = ℕ

-- ---- messages

pub data MessageOf (M : Type 0) : Type 0 where
  client : M → MessageOf M  -- what the client sent
  info : View → List View → MessageOf M  -- the settled view, the open views
  registered : MessageOf M
  told : ℕ → MessageOf M  -- a count

-- a queue entry: its sender together with a message
pub data EntryOf (M : Type 0) : Type 0 where
  entry : Member → MessageOf M → EntryOf M

-- a client message that was taken: its sender, what it sent
pub data Item (M : Type 0) : Type 0 where
  item : Member → M → Item M

-- ---- a member's book

-- what is held: the settled view (the report's act) and the open views (its amb)
pub record Held : Type 0 where
  pub settled : View
  pub opens : List View

-- what is kept of the carrier view (the report's cur), the one the carrier last gave; a join starts it anew
pub record AtCarrierOf (M : Type 0) : Type 0 where
  pub view : Option View
  pub infos : Member → Bool  -- whose info was received
  pub registrations : Member → Bool  -- whose registration was received
  pub tolds : Member → ℕ  -- the told count received, 0 for none
  pub taken : Position  -- how many messages of its order were taken
  pub inward : List (Item M)  -- its inward list while it is not the client view

-- what is kept of the client view (the report's client-cur), the last one attempted; an attempt starts it anew
pub record AtClientOf (M : Type 0) : Type 0 where
  pub view : Option View
  pub registered : Bool
  pub inward : List (Item M)
  pub handed : Position  -- how many of the inward list were handed out
  pub told : Position  -- the number last told
  pub reported : Position  -- how many were reported safe

pub record BookOf (M : Type 0) : Type 0 where
  pub held : Held
  pub carrier : AtCarrierOf M
  pub client : AtClientOf M
  pub outgoing : List (EntryOf M)

-- ---- the group

pub record GroupOf (M : Type 0) : Type 0 where
  pub members : ℕ
  pub room : ℕ  -- the length of the lent list: how many views can be made
  pub views : List View  -- the views made, the first included
  pub books : Member → BookOf M
  pub waiting : Member → Identifier → List (EntryOf M)
  pub order : Identifier → List (EntryOf M)

-- a step: its kind's number and its operands in the order of the step's name
pub record Step : Type 0 where
  pub kind : ℕ
  pub first : ℕ
  pub second : ℕ

-- an outward event over messages M: member, view, sender, message
pub data Event (M : Type 0) : Type 0 where
  attempt : Member → View → Event M
  register : Member → Identifier → Event M
  send : Member → Identifier → M → Event M
  hand : Member → Identifier → Item M → Event M
  safe : Member → Identifier → Item M → Event M

pub data AnswerOf (M : Type 0) : Type 0 where
  ok : AnswerOf M
  event : Event M → AnswerOf M
  refusal : Refusal → AnswerOf M

-- ---- the same where a client sends entry numbers

abbrev pub Message : Type 0
Message = MessageOf ℕ

abbrev pub Entry : Type 0
Entry = EntryOf ℕ

abbrev pub Book : Type 0
Book = BookOf ℕ

abbrev pub Group : Type 0
Group = GroupOf ℕ

abbrev pub Answer : Type 0
Answer = AnswerOf ℕ

-- ---- results: one refusal, or what is given

pub data Result (A : Type 0) : Type 0 where
  refused : Refusal → Result A
  accepted : A → Result A

-- the refusal if the condition is unmet, else what follows
unfoldable pub need : {A : Type 0} → Bool → Refusal → Result A → Result A
need true r x = x
need false r x = refused r

-- the refusal if there is no view, else what follows of it
unfoldable pub with_view : {A : Type 0} → Option View → Refusal → (View → Result A) → Result A
with_view None r f = refused r
with_view (Some v) r f = f v

-- the refusal if the list is empty, else what follows of its first and the rest
unfoldable pub with_first : {A B : Type 0} → List B → Refusal → (B → List B → Result A) → Result A
with_first [] r f = refused r
with_first (x ∷ l) r f = f x l

-- what is made of what is given
unfoldable pub after : {A B : Type 0} → Result A → (A → Result B) → Result B
after (refused r) f = refused r
after (accepted x) f = f x

-- ---- views and none

-- 0 for none, else one more than the identifier: none is below every identifier
abbrev pub rank : Option View → ℕ
rank None = 0
rank (Some v) = suc (id_of v)
