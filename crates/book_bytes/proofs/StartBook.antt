-- The bytes that a start gives a member are its fresh book, in their layout, with the number of members and its own number.
use mathlib.Core.Path.{◌≡◌, refl, ◌∙◌}
use mathlib.Core.Bool.{true, false, not}
use mathlib.Core.Logic.{⊎_elim}
use mathlib.Core.List.{List, []}
use Prim.Native.Nat.{ℕ, ◌+◌, ◌^◌, ◌≤◌, ◌<◌}
use native.Mathlib.Omega.{arith}
use borrow.Author.Tests.{leb-false, not-true}
use lib.Dec.{leb}
use lib.ListN.{length, get_or, set, replicate, length-set, length-replicate}
use lib.Pow.{pow_mono}
use lib.Seq.{get_or-set_same, get_or-set_other}
use Rattle.views.specs.Limits.{max_members}
use Rattle.views.specs.Sets.{has, is_empty, is_beyond, fits}
use Rattle.views.proofs.SetLaws.{known, both_true}
use Rattle.wire.proofs.TripViews.{ViewFits, AreBytes}
use Rattle.rules.specs.Group.{first_view, fresh}
use Rattle.slots.proofs.BytesKept.{set-bytes, store_view-bytes}
use Rattle.slots.proofs.Outside.{Changed, store_view-changed}
use Rattle.wire.specs.Writer.{store_view}
use Rattle.book_bytes.specs.declared.Record.{Record}
use Rattle.book_bytes.specs.Places.{members_at, self_at, carrier_at, client_at, registered_at, side_at, opens_at, outgoing_at, inward_at, book_size}
use Rattle.book_bytes.specs.Records.{meaning}
use Rattle.book_bytes.specs.Books.{outgoing_in, inward_in, book_in}
use Rattle.book_bytes.proofs.Blank.{none-noted, none_told, zero-at, zero-bytes, no-entries, no-slots, no_items}
use Rattle.book_bytes.proofs.LayoutLaws.{Layout}
use Rattle.book_bytes.proofs.Fits.{SeatFits, Fits}
use Rattle.book_bytes.proofs.RecordLaws.{book-stored, layout-stored, length-record, members_kept, self-kept}
use Rattle.book_bytes.proofs.RecordBytes.{store_bytes}
use Rattle.book_bytes.specs.Starts.{first_seat, fresh_record, first_placed, start_bytes}

-- ---- the record

-- a set of at most eight members is a byte
pub fits_byte : (n S : ℕ) → n ≤ max_members → fits n S ≡ true → S < 256
unfolding is_beyond
fits_byte n S few h =
    let t = both_true (not (is_empty S)) (not (is_beyond S n)) h in
    omega (arith, leb-false (2 ^ n) S (not-true (leb (2 ^ n) S) t.1), pow_mono few)

first_fits : (S : ℕ) → S < 256 → ViewFits (first_view S)
first_fits S h = record { id = omega arith; set = h }

first_seat-fits : (S p : ℕ) → S < 256 → SeatFits (first_seat S p)
first_seat-fits S p h = ⊎_elim (λ (t : has S p ≡ true). rw t (first_fits S h)) (λ (t : has S p ≡ false). rw t tt) (known (has S p))

fresh-fits : (S p : ℕ) → S < 256 → Fits (fresh_record S p)
fresh-fits S p h = record {
  settled = first_fits S h;
  opens = record { list = []; places = refl; few = omega arith; each = λ j. record { id = omega arith; set = omega arith } };
  carrier = first_seat-fits S p h;
  client = first_seat-fits S p h;
  handed = omega arith;
  told = omega arith;
  reported = omega arith;
  taken = omega arith;
  infos = omega arith;
  registrations = omega arith;
  tolds = length-replicate {A = ℕ} max_members 0;
}

fresh-means : (S p : ℕ) → meaning (fresh_record S p) [] [] [] ≡ fresh S p
unfolding fresh
fresh-means S p = λ i. record {
  held = record { settled = first_view S; opens = [] };
  carrier = record { view = (fresh {M = ℕ} S p).carrier.view; infos = none-noted i; registrations = none-noted i; tolds = none_told max_members i; taken = 0; inward = [] };
  client = (fresh {M = ℕ} S p).client;
  outgoing = [];
}

-- ---- the book

module _ (n S p : ℕ) (b : List ℕ) (size : length b ≡ book_size) (byte : S < 256) where
  abbrev zeros : List ℕ
  zeros = replicate (length b) 0

  abbrev numbered : List ℕ
  numbered = set (set zeros members_at n) self_at p

  abbrev carried : List ℕ
  carried = store_view numbered (carrier_at + 1) (first_view S)

  abbrev seat : List ℕ
  seat = first_placed S numbered

  abbrev h : Record
  h = fresh_record S p

  first : Changed numbered carried (carrier_at + 1) 5
  first = store_view-changed numbered (carrier_at + 1) (first_view S)

  second : Changed carried seat (client_at + 1) 5
  second = store_view-changed carried (client_at + 1) (first_view S)

  numbered_long : length numbered ≡ book_size
  numbered_long = length-set (set zeros members_at n) self_at p ∙ length-set zeros members_at n ∙ length-replicate {A = ℕ} (length b) 0 ∙ size

  long : length seat ≡ book_size
  long = second.long ∙ first.long ∙ numbered_long

  -- after the two numbers all is zero, but for the views
  blank : (j : ℕ) → 2 ≤ j → get_or numbered j 0 ≡ 0
  blank j l =
      get_or-set_other (set zeros members_at n) self_at j p 0 (λ e. omega arith) ∙ get_or-set_other zeros members_at j n 0 (λ e. omega arith)
      ∙ zero-at (length b) j

  ahead : (j : ℕ) → j ≤ carrier_at → get_or seat j 0 ≡ get_or numbered j 0
  ahead j l = second.below j (omega arith) ∙ first.below j (omega arith)

  blank-behind : (j : ℕ) → registered_at ≤ j → get_or seat j 0 ≡ 0
  blank-behind j l = second.past j (omega arith) ∙ first.past j (omega arith) ∙ blank j (omega arith)

  seat-layout : Layout seat
  seat-layout = record {
    size = long;
    carrier = omega (arith, ahead carrier_at (omega arith), blank carrier_at (omega arith));
    client = omega (arith, second.below client_at (omega arith), first.past client_at (omega arith), blank client_at (omega arith));
    registered = omega (arith, blank-behind registered_at (omega arith));
    side = omega (arith, blank-behind side_at (omega arith));
    opens = omega (arith, blank-behind opens_at (omega arith));
    outgoing = omega (arith, blank-behind outgoing_at (omega arith));
    first = omega (arith, blank-behind (inward_at 0) (omega arith));
    second = omega (arith, blank-behind (inward_at 1) (omega arith));
    slots = no-slots seat (outgoing_at + 1) _ (blank-behind outgoing_at (omega arith));
  }

  pub start-size : length (start_bytes n S p b) ≡ book_size
  unfolding start_bytes
  start-size = length-record seat h long (fresh-fits S p byte) ∙ long

  pub start-layout : Layout (start_bytes n S p b)
  unfolding start_bytes
  start-layout = layout-stored seat h long (fresh-fits S p byte) seat-layout (omega arith)

  pub start-members : get_or (start_bytes n S p b) members_at 0 ≡ n
  unfolding start_bytes
  start-members =
      members_kept seat h long (fresh-fits S p byte) ∙ ahead members_at (omega arith)
      ∙ get_or-set_other (set zeros members_at n) self_at members_at p 0 (λ e. omega arith)
      ∙ get_or-set_same zeros members_at n 0 (omega (arith, length-replicate {A = ℕ} (length b) 0))

  pub start-self : get_or (start_bytes n S p b) self_at 0 ≡ p
  unfolding start_bytes
  start-self =
      self-kept seat h long (fresh-fits S p byte) ∙ ahead self_at (omega arith)
      ∙ get_or-set_same (set zeros members_at n) self_at p 0 (omega (arith, length-set zeros members_at n, length-replicate {A = ℕ} (length b) 0))

  empty-out : outgoing_in seat ≡ []
  empty-out = no-entries seat (outgoing_at + 1) _ (blank-behind outgoing_at (omega arith))

  empty-inward : (side : ℕ) → inward_in seat side ≡ []
  empty-inward side = no_items seat (inward_at side) (blank-behind (inward_at side) (omega arith))

  pub start-book : book_in (start_bytes n S p b) ≡ fresh S p
  unfolding start_bytes
  start-book =
      book-stored seat h long (fresh-fits S p byte) ∙ (λ i. meaning h (empty-out i) (empty-inward 0 i) (empty-inward 1 i)) ∙ fresh-means S p

  pub start-bytes : n < 256 → p < 256 → AreBytes (start_bytes n S p b)
  unfolding start_bytes
  start-bytes few own =
      let y : AreBytes numbered = set-bytes (set zeros members_at n) self_at p (set-bytes zeros members_at n (zero-bytes (length b)) few) own in
      store_bytes seat h
      (store_view-bytes carried (client_at + 1) (first_view S) (store_view-bytes numbered (carrier_at + 1) (first_view S) y byte) byte)
      (fresh-fits S p byte) (omega arith) (zero-bytes max_members)
