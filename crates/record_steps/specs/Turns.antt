-- The member's steps on its small record: the verdict is that of the rules on the book it is, and what an accepted step
-- changes of it.
use Rattle.std.specs.Prelude.{Bool, false, cond, List, [], ℕ, ◌-◌, ltb, replicate, Result, Ok, Option, Some, unwrap_or}
use Rattle.views.specs.declared.View.{View}
use Rattle.views.specs.declared.list.Views.{Views}
use Rattle.views.specs.declared.refusal.Refusal.{Refusal}
use Rattle.views.specs.declared.refusal.Refusal.TheVariants.{NotInSet, NotAboveCarrier}
use Rattle.views.specs.Refusals.{Verdict, require, and_then}
use Rattle.views.specs.Sets.{has, one}
use Rattle.views.specs.Lists.{id_of, no_view, list_of, placed, insert_of, above_of}
use Rattle.rules.specs.Data as R
use Rattle.rules.specs.Data.{Entry, entry, Item, item}
use Rattle.rules.specs.Member.{is_above, attempts, registers, sends, hands, tells, safes, collects}
use Rattle.rules.specs.Member.{client_is_carrier, has_room}
use Rattle.book_bytes.specs.declared.Record.{Record}
use Rattle.book_bytes.specs.declared.Current.{Current}
use Rattle.book_bytes.specs.Records.{meaning}
use Rattle.events.specs.Replies.{verdict_of}

-- queues of a length: the rules' verdicts ask of the queues no more than that
abbrev pub entries_of : ℕ → List Entry
entries_of n = replicate n (entry 0 R.registered)

abbrev pub items_of : ℕ → List (Item ℕ)
items_of n = replicate n (item 0 0)

-- the record with so many outgoing and so many in the client view's inward list
abbrev pub book_of : Record → ℕ → ℕ → R.Book
book_of h out own = meaning h (entries_of out) (items_of own) []

-- ---- join

-- the verdict: of the book, it asks the carrier view alone
unfoldable pub join_verdict : ℕ → View → Option View → Verdict
join_verdict p v at =
    require (has v.set p) NotInSet (require (is_above (id_of v) at) NotAboveCarrier (Ok tt))

-- ---- attempt

-- the open views after an attempt of v
unfoldable pub opened_to : View → View → Views → Views
opened_to v settled l = cond (ltb (id_of settled) (id_of v)) (placed (insert_of v (list_of l))) l

unfoldable pub attempted_at : View → Record → Record
attempted_at v h = record {
  settled = h.settled;
  opens = opened_to v h.settled h.opens;
  carrier = h.carrier;
  client = Some v;
  registered = false;
  handed = record { 0 = 0 };
  told = record { 0 = 0 };
  reported = record { 0 = 0 };
  taken = h.taken;
  infos = h.infos;
  registrations = h.registrations;
  tolds = h.tolds;
  side = 1 - h.side;
}

unfoldable pub attempt_turn : ℕ → Record → Result Record Refusal
attempt_turn n h =
    and_then (verdict_of (attempts one n 0 (book_of h 0 0))) (Ok (attempted_at (unwrap_or h.carrier no_view) h))

-- ---- register, send, hand, tell, safe: no rule in the client view asks what is held

-- the record with nothing held
abbrev pub unheld : Current → Record
unheld h = record {
  settled = no_view;
  opens = placed [];
  carrier = h.carrier;
  client = h.client;
  registered = h.registered;
  handed = h.handed;
  told = h.told;
  reported = h.reported;
  taken = h.taken;
  infos = h.infos;
  registrations = h.registrations;
  tolds = h.tolds;
  side = h.side;
}

-- the client view is the carrier view
abbrev pub in_step : Current → Bool
in_step h = client_is_carrier (book_of (unheld h) 0 0)

-- a message can be queued, or would not be
unfoldable pub room_for : Current → ℕ → Bool
room_for h out = has_room (book_of (unheld h) out 0)

unfoldable pub register_verdict : Current → ℕ → Verdict
register_verdict h out = verdict_of (registers 0 (book_of (unheld h) out 0))

unfoldable pub send_verdict : Current → ℕ → Verdict
send_verdict h out = verdict_of (sends 0 0 (book_of (unheld h) out 0))

unfoldable pub hand_verdict : Current → ℕ → Verdict
hand_verdict h own = verdict_of (hands 0 (book_of (unheld h) 0 own))

unfoldable pub tell_verdict : Current → ℕ → Verdict
tell_verdict h out = verdict_of (tells 0 (book_of (unheld h) out 0))

unfoldable pub safe_verdict : ℕ → Current → ℕ → Verdict
safe_verdict n h own = verdict_of (safes n 0 (book_of (unheld h) 0 own))

-- ---- collect

unfoldable pub settled_as : View → Record → Record
settled_as v h = record {
  settled = v;
  opens = placed (above_of (id_of v) (list_of h.opens));
  carrier = h.carrier;
  client = h.client;
  registered = h.registered;
  handed = h.handed;
  told = h.told;
  reported = h.reported;
  taken = h.taken;
  infos = h.infos;
  registrations = h.registrations;
  tolds = h.tolds;
  side = h.side;
}

unfoldable pub collect_turn : ℕ → Record → Result Record Refusal
collect_turn n h = and_then (verdict_of (collects n (book_of h 0 0))) (Ok (settled_as (unwrap_or h.carrier no_view) h))
