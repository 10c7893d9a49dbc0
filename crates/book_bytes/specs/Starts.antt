-- What a start leaves in a member's book: every byte of it.
use Rattle.std.specs.Prelude.{cond, List, [], ℕ, ◌+◌, length, set, replicate, Option, None, Some}
use Rattle.views.specs.declared.View.{View}
use Rattle.wire.specs.Writer.{store_view}
use Rattle.views.specs.Limits.{max_members}
use Rattle.views.specs.Sets.{has}
use Rattle.views.specs.Lists.{placed}
use Rattle.rules.specs.Data.{Member}
use Rattle.rules.specs.Group.{first_view}
use Rattle.book_bytes.specs.declared.Record.{Record}
use Rattle.book_bytes.specs.Places.{members_at, self_at, carrier_at, client_at}
use Rattle.book_bytes.specs.Records.{store_record}

-- the first view is there for its members
abbrev pub first_seat : ℕ → Member → Option View
first_seat S p = cond (has S p) (Some (first_view S)) None

abbrev pub fresh_record : ℕ → Member → Record
fresh_record S p = record {
  settled = first_view S;
  opens = placed [];
  carrier = first_seat S p;
  client = first_seat S p;
  registered = has S p;
  handed = record { 0 = 0 };
  told = record { 0 = 0 };
  reported = record { 0 = 0 };
  taken = record { 0 = 0 };
  infos = 0;
  registrations = 0;
  tolds = replicate max_members 0;
  side = 0;
}

-- the first view is in the places of the carrier and the client view, also where the member is not in it
abbrev pub first_placed : ℕ → List ℕ → List ℕ
first_placed S b = store_view (store_view b (carrier_at + 1) (first_view S)) (client_at + 1) (first_view S)

-- zero everywhere but for these, the members, the own number and the record
unfoldable pub start_bytes : ℕ → ℕ → Member → List ℕ → List ℕ
start_bytes n S p b =
    store_record (first_placed S (set (set (replicate (length b) 0) members_at n) self_at p)) (fresh_record S p)
