-- The small record of a book: how it lies in the bytes, and which book of the rules it is, together with the queues.
use Rattle.std.specs.Prelude.{Bool, cond, List, ℕ, ◌+◌, min, eqb, get_or, set, take, drop, Option, None, Some}
use Rattle.std.proofs.Math.Seq.{paste}
use Rattle.views.specs.declared.View.{View}
use Rattle.views.specs.declared.list.Views.{Views}
use Rattle.views.specs.Limits.{max_members, max_open}
use Rattle.views.specs.Sets.{has}
use Rattle.views.specs.Lists.{list_of, placed}
use Rattle.wire.specs.Reader.{view_in, views_in}
use Rattle.wire.specs.Writer.{store_view, store_views}
use Rattle.rules.specs.Data as R
use Rattle.rules.specs.Data.{Entry, Item}
use Rattle.book_bytes.specs.declared.Record.{Record}
use Rattle.book_bytes.specs.declared.Current.{Current}
use Rattle.book_bytes.specs.declared.Held.{Held}
use Rattle.book_bytes.specs.Places.{settled_at, carrier_at, client_at, registered_at, handed_at, told_at, reported_at}
use Rattle.book_bytes.specs.Places.{taken_at, infos_at, registrations_at, tolds_at, side_at, opens_at}

-- ---- which book it is

-- with the outgoing queue, the client view's inward list, and that of a carrier view not attempted
abbrev pub meaning : Record → List Entry → List (Item ℕ) → List (Item ℕ) → R.Book
meaning h out own new = record {
  held = record { settled = h.settled; opens = list_of h.opens };
  carrier = record {
    view = h.carrier;
    infos = has h.infos;
    registrations = has h.registrations;
    tolds = λ q. get_or h.tolds q 0;
    taken = h.taken.0;
    inward = new;
  };
  client = record {
    view = h.client;
    registered = h.registered;
    inward = own;
    handed = h.handed.0;
    told = h.told.0;
    reported = h.reported.0;
  };
  outgoing = out;
}

-- ---- how it is read from the bytes

abbrev pub flag_in : List ℕ → ℕ → Bool
flag_in b at = eqb (get_or b at 0) 1

-- a view, or none
abbrev pub seat_in : List ℕ → ℕ → Option View
seat_in b at = cond (flag_in b at) (Some (view_in b (at + 1))) None

unfoldable pub record_in : List ℕ → Record
record_in b = record {
  settled = view_in b settled_at;
  opens = placed (views_in b (opens_at + 1) (min (get_or b opens_at 0) max_open));
  carrier = seat_in b carrier_at;
  client = seat_in b client_at;
  registered = flag_in b registered_at;
  handed = record { 0 = get_or b handed_at 0 };
  told = record { 0 = get_or b told_at 0 };
  reported = record { 0 = get_or b reported_at 0 };
  taken = record { 0 = get_or b taken_at 0 };
  infos = get_or b infos_at 0;
  registrations = get_or b registrations_at 0;
  tolds = take max_members (drop tolds_at b);
  side = get_or b side_at 0;
}

-- without the views held, and these alone
abbrev pub current_of : Record → Current
current_of h = record {
  carrier = h.carrier;
  client = h.client;
  registered = h.registered;
  handed = h.handed;
  told = h.told;
  reported = h.reported;
  taken = h.taken;
  infos = h.infos;
  registrations = h.registrations;
  tolds = h.tolds;
  side = h.side;
}

abbrev pub held_of : Record → Held
held_of h = record { settled = h.settled; opens = h.opens }

abbrev pub current_in : List ℕ → Current
current_in b = current_of (record_in b)

abbrev pub held_in : List ℕ → Held
held_in b = held_of (record_in b)

-- ---- how it is stored in the bytes

abbrev pub flag : Bool → ℕ
flag b = cond b 1 0

-- where there is no view, what is in its place stays
abbrev pub store_seat : List ℕ → ℕ → Option View → List ℕ
store_seat b at (Some v) = store_view (set b at 1) (at + 1) v
store_seat b at None = set b at 0

-- the views, then the counts and the notes, then the open views
unfoldable pub store_seats : List ℕ → Record → List ℕ
store_seats b h = store_seat (store_seat (store_view b settled_at h.settled) carrier_at h.carrier) client_at h.client

unfoldable pub store_counts : List ℕ → Record → List ℕ
store_counts b h =
    set (set (set (set (set b registered_at (flag h.registered)) handed_at h.handed.0) told_at h.told.0)
    reported_at h.reported.0) taken_at h.taken.0

unfoldable pub store_notes : List ℕ → Record → List ℕ
store_notes b h =
    set (paste (set (set b infos_at h.infos) registrations_at h.registrations) tolds_at h.tolds max_members)
    side_at h.side

unfoldable pub store_opens : List ℕ → Views → List ℕ
store_opens b l = store_views (set b opens_at l.count) (opens_at + 1) (list_of l)

-- the views held alone
unfoldable pub store_held : List ℕ → Held → List ℕ
store_held b h = store_opens (store_view b settled_at h.settled) h.opens

unfoldable pub store_record : List ℕ → Record → List ℕ
store_record b h = store_opens (store_notes (store_counts (store_seats b h) h) h) h.opens
