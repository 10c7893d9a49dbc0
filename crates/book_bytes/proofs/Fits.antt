-- What every record of the code satisfies: its numbers are within their widths, and its open views lie in their places.
use mathlib.Core.Path.{◌≡◌, refl, ap, ◌∙◌}
use mathlib.Core.Bool.{true, false}
use mathlib.Core.Logic.{⊎_elim}
use Rattle.std.specs.Prelude.{Option, IfSome}
use mathlib.Core.List.{List}
use Prim.Native.Nat.{ℕ, ◌+◌, ◌≤◌, ◌<◌, min}
use native.Mathlib.Omega.{arith}
use lib.ListN.{length, get_or, length-drop, drop}
use lib.Seq.{length-take-le}
use Rattle.views.specs.declared.View.{View}
use Rattle.views.specs.declared.list.Views.{Views}
use Rattle.views.specs.Limits.{max_members, max_open}
use Rattle.views.specs.Lists.{list_of, placed}
use Rattle.views.proofs.PlaceLaws.{list-placed}
use Rattle.views.proofs.SetLaws.{known}
use Rattle.wire.specs.Reader.{view_in, views_in}
use Rattle.wire.proofs.ReaderLaws.{length-views_in}
use Rattle.wire.proofs.TripViews.{ViewFits, EachFits, AreBytes, get-fits, views-fit}
use Rattle.book_bytes.specs.declared.Record.{Record}
use Rattle.book_bytes.specs.Places.{settled_at, carrier_at, client_at, handed_at, told_at, reported_at, taken_at, infos_at, registrations_at, tolds_at, opens_at, book_size}
use Rattle.book_bytes.specs.Records.{flag_in, seat_in, record_in}

-- the open views are a list in its places, within its limit
pub record OpensFit (v : Views) : Type 0 where
  pub list : List View
  pub places : v ≡ placed list
  pub few : length list ≤ max_open
  pub each : EachFits list

-- a view, if there is one
abbrev pub SeatFits : Option View → Type 0
SeatFits s = IfSome s ViewFits

pub record Fits (h : Record) : Type 0 where
  pub settled : ViewFits h.settled
  pub opens : OpensFit h.opens
  pub carrier : SeatFits h.carrier
  pub client : SeatFits h.client
  pub handed : h.handed.0 < 256
  pub told : h.told.0 < 256
  pub reported : h.reported.0 < 256
  pub taken : h.taken.0 < 256
  pub infos : h.infos < 256
  pub registrations : h.registrations < 256
  pub tolds : length h.tolds ≡ max_members

-- the list that the record holds is the one in its places
pub opens-list : (v : Views) (f : OpensFit v) → list_of v ≡ f.list
opens-list v f = ap list_of f.places ∙ list-placed f.list (omega (arith, f.few))

pub opens-count : (v : Views) (f : OpensFit v) → v.count ≡ length f.list
opens-count v f = ap (λ (w : Views). w.count) f.places

-- ---- a record read from bytes

view-fits : (b : List ℕ) (at : ℕ) → AreBytes b → ViewFits (view_in b at)
view-fits b at y = record { id = get-fits b at 4 y; set = y (at + 4) }

pub seat-fits : (b : List ℕ) (at : ℕ) → AreBytes b → SeatFits (seat_in b at)
seat-fits b at y =
    ⊎_elim (λ (t : flag_in b at ≡ true). rw t (view-fits b (at + 1) y)) (λ (t : flag_in b at ≡ false). rw t tt) (known (flag_in b at))

pub record-fits : (b : List ℕ) → AreBytes b → length b ≡ book_size → Fits (record_in b)
unfolding record_in
record-fits b y e =
    let n = min (get_or b opens_at 0) max_open in
    let few : length (views_in b (opens_at + 1) n) ≤ max_open = omega (arith, length-views_in b (opens_at + 1) n) in
    record {
      settled = view-fits b settled_at y;
      opens = record { list = views_in b (opens_at + 1) n; places = refl; few = few; each = views-fit b (opens_at + 1) n y };
      carrier = seat-fits b carrier_at y;
      client = seat-fits b client_at y;
      handed = y handed_at;
      told = y told_at;
      reported = y reported_at;
      taken = y taken_at;
      infos = y infos_at;
      registrations = y registrations_at;
      tolds = length-take-le max_members (drop tolds_at b) (omega (arith, length-drop tolds_at b));
    }
