-- What a call gives: the event of an accepted step that has one, or the refusal.
use Rattle.std.specs.Prelude.{ℕ, Option, Some, None, Ok, Err}
use Rattle.std.specs.Prelude.{Result as Given}
use Rattle.views.specs.declared.refusal.Refusal.{Refusal}
use Rattle.views.specs.declared.ViewId.{ViewId}
use Rattle.views.specs.declared.Member.{Member as MemberNumber}
use Rattle.views.specs.Refusals.{Verdict, and_then}
use Rattle.rules.specs.Data.{Identifier, Member, item, Event as Outward, attempt, register, send, hand, safe, Answer}
use Rattle.rules.specs.Data.{ok, event, refusal, Result, refused, accepted}
use Rattle.rules.specs.Member.{Done}
use Rattle.events.specs.declared.Item.{Item}
use Rattle.events.specs.declared.Event.{Event}
use Rattle.events.specs.declared.Event.TheVariants.{Attempt, Register, Send, Hand, Safe}

abbrev pub Reply : Type 0
Reply = Given (Option Event) Refusal

-- the verdict of a result of the rules
abbrev pub verdict_of : {A : Type 0} → Result A → Verdict
verdict_of (refused r) = Err r
verdict_of (accepted x) = Ok tt

-- a member's number and a view's identifier, as the code has them
abbrev pub member_number : Member → MemberNumber
member_number p = record { 0 = p }

abbrev pub identifier : Identifier → ViewId
identifier g = record { 0 = g }

-- an entry of the sender q
abbrev pub sent : Member → ℕ → Item
sent q x = record { sender = member_number q; entry = x }

-- attempt P I S, register P I, send P I V, hand P I Q V, safe P I Q V
abbrev pub outward_of : Outward ℕ → Event
outward_of (attempt p v) = Attempt (member_number p) v
outward_of (register p g) = Register (member_number p) (identifier g)
outward_of (send p g x) = Send (member_number p) (identifier g) x
outward_of (hand p g (item q x)) = Hand (member_number p) (identifier g) (sent q x)
outward_of (safe p g (item q x)) = Safe (member_number p) (identifier g) (sent q x)

abbrev pub event_of : Answer → Option Event
event_of ok = None
event_of (event e) = Some (outward_of e)
event_of (refusal r) = None

-- what is given where the verdict accepts
abbrev pub replied : Verdict → Option Event → Reply
replied v e = and_then v (Ok e)

abbrev pub reply_of : Result Done → Reply
reply_of (refused r) = Err r
reply_of (accepted d) = Ok (event_of d.answer)

-- the event that a reply has, if it has one
abbrev pub event_in : Reply → Option Event
event_in (Ok e) = e
event_in (Err r) = None
