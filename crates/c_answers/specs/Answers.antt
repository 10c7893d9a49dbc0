-- What the calls of the C interface have in common: the bytes of an event, which a run writes too, of a length or a
-- count that a call gives out, of a delivery, and of a view that may be missing; a range that must have its length, a
-- number that is taken in one byte.
use Rattle.std.specs.Prelude.{cond, List, [], ◌∷◌, ◌++◌, ℕ, ◌+◌, eqb, ltb, length, replicate, Option, Some, None}
use Rattle.std.specs.Prelude.{Result, Ok, Err}
use Rattle.views.specs.declared.View.{View}
use Rattle.views.specs.declared.ViewId.{ViewId}
use Rattle.views.specs.declared.Member.{Member}
use Rattle.views.specs.declared.refusal.Refusal.{Refusal}
use Rattle.views.specs.Lists.{no_view}
use Rattle.numbers.specs.Number.{digits}
use Rattle.views.specs.declared.refusal.Refusal.TheVariants.{RecordsUnsound}
use Rattle.views.specs.Refusals.{code_of, require}
use Rattle.views.specs.Sizes.{view_size, number_size}
use Rattle.wire.specs.Format.{view_bytes}
use Rattle.events.specs.Kinds.{attempt_kind, register_kind, send_kind, hand_kind, safe_kind}
use Rattle.events.specs.declared.Delivered.{Delivered}
use Rattle.events.specs.declared.Event.{Event}
use Rattle.events.specs.declared.Event.TheVariants.{Attempt, Register, Send, Hand, Safe}
use Rattle.c_answers.specs.declared.Fields.{Fields}

-- where the parts of an event stand: kind 1 byte, member 1, view 5, sender 1, entry number 8
abbrev pub event_kind : ℕ
event_kind = 0

abbrev pub event_member : ℕ
event_member = event_kind + 1

abbrev pub event_view : ℕ
event_view = event_member + 1

abbrev pub event_sender : ℕ
event_sender = event_view + view_size

abbrev pub event_entry : ℕ
event_entry = event_sender + 1

abbrev pub event_size : ℕ
event_size = event_entry + number_size

-- a view of which the identifier alone is given
abbrev pub named : ViewId → View
named g = record { id = g; set = 0 }

abbrev pub fields : ℕ → Member → View → Member → ℕ → Fields
fields k p v q x = record { kind = k; member = p; view = v; sender = q; entry = x }

-- what an event does not have is 0, and so is all where there is none
abbrev pub nobody : Member
nobody = record { 0 = 0 }

abbrev pub fields_of : Option Event → Fields
fields_of None = fields 0 nobody no_view nobody 0
fields_of (Some (Attempt p v)) = fields attempt_kind p v nobody 0
fields_of (Some (Register p g)) = fields register_kind p (named g) nobody 0
fields_of (Some (Send p g x)) = fields send_kind p (named g) nobody x
fields_of (Some (Hand p g x)) = fields hand_kind p (named g) x.sender x.entry
fields_of (Some (Safe p g x)) = fields safe_kind p (named g) x.sender x.entry

unfoldable pub fields_bytes : Fields → List ℕ
fields_bytes e = (e.kind ∷ e.member.0 ∷ view_bytes e.view) ++ (e.sender.0 ∷ digits number_size e.entry)

abbrev pub event_bytes : Option Event → List ℕ
event_bytes e = fields_bytes (fields_of e)

abbrev pub length_size : ℕ
length_size = 4

abbrev pub length_bytes : ℕ → List ℕ
length_bytes n = digits length_size n

-- a delivery: the number delivered 4 bytes, the number of the refusal that stopped it 1, 0 for none
abbrev pub delivery_size : ℕ
delivery_size = length_size + 1

unfoldable pub delivery_bytes : Delivered → List ℕ
delivery_bytes d = digits length_size d.count ++ (code_of d.stopped ∷ [])

-- a view that may be missing: 1 and the view, or 0 in every byte
abbrev pub found_size : ℕ
found_size = 1 + view_size

unfoldable pub found_bytes : Option View → List ℕ
found_bytes (Some v) = 1 ∷ view_bytes v
found_bytes None = replicate found_size 0

-- what a call leaves of the bytes that its result goes to: a refusal leaves them as they were
abbrev pub given_bytes : {A : Type 0} → (A → List ℕ) → Result A Refusal → List ℕ → List ℕ
given_bytes f (Ok x) b = f x
given_bytes f (Err r) b = b

-- 4, before anything else, for a range that is not of its length
unfoldable pub sized : {A : Type 0} → List ℕ → ℕ → Result A Refusal → Result A Refusal
sized range n v = require (eqb (length range) n) RecordsUnsound v

-- x if it fits into a byte, else another number in its place
unfoldable pub narrowed : ℕ → ℕ → ℕ
narrowed other x = cond (ltb x 256) x other
