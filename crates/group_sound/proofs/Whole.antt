-- Three ranges are sound when their parts are: from the parts to the ranges, and both ways.
use mathlib.Core.Path.{◌≡◌, ◌∙◌}
use mathlib.Core.Bool.{true, not}
use Rattle.std.specs.Prelude.{Some}
use mathlib.Core.List.{List}
use Prim.Native.Nat.{ℕ, ◌+◌, ◌<◌, ◌≤◌}
use native.Mathlib.Omega.{arith}
use borrow.Author.Tests.{leb-true, eqb-true, not-true}
use lib.ListN.{length, get_or}
use Rattle.views.specs.declared.View.{View}
use Rattle.views.specs.Limits.{max_outgoing, max_waiting, max_ordered}
use Rattle.views.specs.Sets.{is_empty}
use Rattle.views.specs.Lists.{id_of, is_rising}
use Rattle.views.proofs.SetLaws.{both_true}
use Rattle.views.proofs.Members.{In}
use Rattle.rules.specs.Member.{all}
use Rattle.rules.specs.Sound as S
use Rattle.rules.specs.Sound.{set_fits, book_listed, sound}
use Rattle.rules.specs.Alone.{book_sound}
use Rattle.rules.proofs.TestLaws.{both-from, within-says, every-at, conditions-say, all-at, optional-in}
use Rattle.rules.proofs.Sound.Books.{QueueFacts, BookSound}
use Rattle.rules.proofs.Sound.{Listed, in_group, QueueSound, Sound, sound-says, sound-from}
use Rattle.slots.specs.Slots.{queue_in}
use Rattle.slots.specs.Columns.{entries_ordered}
use Rattle.book_bytes.specs.Places.{members_at, self_at}
use Rattle.book_bytes.specs.Records.{record_in}
use Rattle.book_bytes.specs.Books.{book_in, layout_fits, bytes_sound}
use Rattle.book_bytes.proofs.LayoutLaws.{layout-says}
use Rattle.rules.proofs.Truth.{alike}
use Rattle.group_bytes.specs.Places.{room_of, book_bytes, order_at, waiting_at}
use Rattle.group_bytes.specs.Groups.{Ranges, members_of, made_of, marks_of, layout_of, views_made, place_of, book_of, group_in, ranges_fit, ranges_sound}
use Rattle.group_bytes.proofs.RangesLaws.{Queued, Columned, Ranged, marks-says, ranges-says, ranges-from}
use Rattle.group_sound.specs.Parts.{sizes_fit, numbers_fit, book_known, member_sound, queue_sound, order_sound, waiting_sound, table_sound, records_sound, parts_sound}
use Rattle.group_sound.proofs.GroupParts.{queue-in, order-in, book-in, outgoing-in}
use Rattle.group_sound.proofs.Parted.{made, book-of, place-made, order-of, waiting-of, ordered_of, record-listed, parts_from}

module _ (r : Ranges) where
  abbrev views : List View
  views = views_made r

  abbrev n : ℕ
  n = members_of r

  abbrev bytes : ℕ → List ℕ
  bytes p = book_bytes r.books p

  -- ---- from the parts to the ranges

  module _ (h : parts_sound r ≡ true) where
    sizes : sizes_fit (length r.list) (length r.books) (length r.queues) ≡ true
    unfolding parts_sound
    sizes = let (x, _) = conditions-say _ h in x

    numbers : numbers_fit (layout_of r) n (made_of r) (room_of r.list) (marks_of r) ≡ true
    unfolding parts_sound
    numbers = let (_, (x, _)) = conditions-say _ h in x

    records : records_sound views n r.books r.queues ≡ true
    unfolding parts_sound
    records = let (_, (_, (x, _))) = conditions-say _ h in x

    list-says : (all (set_fits n) views ≡ true) × (is_rising views ≡ true)
    unfolding records_sound
    list-says = let (x, _) = conditions-say _ records in both_true _ _ x

    in_place : (p : ℕ) → p < n → member_sound views r.queues n p (bytes p) ≡ true
    unfolding records_sound
    in_place p k = let (_, (x, _)) = conditions-say _ records in every-at n _ x p k

    tables : (i : ℕ) → i < made_of r → table_sound views n r.queues i ≡ true
    unfolding records_sound
    tables i k = let (_, (_, (x, _))) = conditions-say _ records in every-at (length views) _ x i (omega (arith, made r))

    module _ (p : ℕ) (k : p < n) where
      member-says : (bytes_sound (bytes p) ≡ true) × (get_or (bytes p) members_at 0 ≡ n) × (get_or (bytes p) self_at 0 ≡ p) × (book_known views r.queues (bytes p) ≡ true)
      unfolding member_sound
      member-says = let (sound, (members, (self, (known, _)))) = conditions-say _ (in_place p k) in (sound, eqb-true _ _ members, eqb-true _ _ self, known)

      layout : layout_fits (bytes p) ≡ true
      unfolding bytes_sound
      layout = let (x, _) = conditions-say _ member-says.0 in x

      by_itself : book_sound n (book_in (bytes p)) ≡ true
      unfolding bytes_sound
      by_itself = let (_, (x, _)) = conditions-say _ member-says.0 in rw member-says.1 at x

      listed-book : book_listed views (book_in (bytes p)) ≡ true
      unfolding book_known
      listed-book = let (x, _) = conditions-say _ member-says.3 in record-listed r (bytes p) ∙ x

      carrier-in : (v : View) → (record_in (bytes p)).carrier ≡ Some v → In v views
      unfolding book_listed book_in
      carrier-in = let (_, (x, _)) = conditions-say _ listed-book in optional-in views (record_in (bytes p)).carrier x

      taken-within : (book_in (bytes p)).carrier.taken ≤ length (S.order_at (group_in r) (book_in (bytes p)).carrier.view)
      unfolding book_known book_in
      taken-within =
          let (_, (x, _)) = conditions-say _ member-says.3 in
          rw (ordered_of r (record_in (bytes p)).carrier carrier-in) (leb-true _ _ x)

      book-sound : BookSound (in_group (group_in r)) (book_of r p)
      unfolding group_in
      book-sound = rw (book-of r p k) (book-in (group_in r) (book_in (bytes p)) by_itself listed-book taken-within)

      outgoing-sound : QueueSound (group_in r) max_outgoing (book_of r p).outgoing
      unfolding group_in book_known book_in
      outgoing-sound =
          let (_, (_, (x, _))) = conditions-say _ member-says.3 in
          rw (book-of r p k) (outgoing-in (group_in r) (book_in (bytes p)) by_itself x)

    module _ (i : ℕ) (k : i < made_of r) where
      order-says : Columned r.queues (order_at i) × QueueFacts n (Listed views) max_ordered (entries_ordered r.queues (order_at i))
      unfolding table_sound
      order-says = order-in views n r.queues (order_at i) (both_true _ _ (tables i k)).0

      waiting-says : (p : ℕ) → p < n
          → Queued r.queues max_waiting (waiting_at i p) × QueueFacts n (Listed views) max_waiting (queue_in r.queues (waiting_at i p) (waiting_at i p + 1))
      unfolding table_sound waiting_sound
      waiting-says p m =
          let t = both_true (order_sound views n r.queues (order_at i)) (waiting_sound views n r.queues i) (tables i k) in
          queue-in views n r.queues (waiting_at i p) (every-at n (λ (p : ℕ). queue_sound views n r.queues (waiting_at i p)) t.1 p m)

    ranged : Ranged r
    unfolding sizes_fit numbers_fit
    ranged =
        let (whole, (room, (books, (queues, _)))) = conditions-say _ sizes in
        let (number, (members, (count, (marks, _)))) = conditions-say _ numbers in
        record {
          whole = eqb-true _ _ whole;
          room = within-says _ _ _ room;
          books = eqb-true _ _ books;
          queues = eqb-true _ _ queues;
          members = within-says _ _ _ members;
          made = within-says _ _ _ count;
          marks = marks-says _ _ marks;
          layout = eqb-true _ _ number;
          in_place = λ p k. record { layout = layout-says _ (layout p k); members = (member-says p k).1; self = (member-says p k).2 };
          tables = λ i k. record { order = (order-says i k).0; waiting = λ p m. (waiting-says i k p m).0 };
        }

    grouped : Sound (group_in r)
    unfolding group_in
    grouped = record {
      members-low = ranged.members.0;
      members-high = ranged.members.1;
      room-low = ranged.room.0;
      room-high = ranged.room.1;
      made-low = rw (made r) ranged.made.0;
      made-high = rw (made r) ranged.made.1;
      rising = list-says.1;
      fits = λ v j. let u = both_true (not (is_empty v.set)) _ (all-at (set_fits n) views list-says.0 v j) in (not-true _ u.0, not-true _ u.1);
      book = book-sound;
      outgoing = outgoing-sound;
      waiting = λ p m v j. rw (waiting-of r p m v j) (waiting-says (place_of (id_of v) views) (place-made r v j) p m).1;
      ordered = λ v j. rw (order-of r v j) (order-says (place_of (id_of v) views) (place-made r v j)).1;
    }

  -- ---- both ways

  pub ranges-parts : ranges_sound r ≡ parts_sound r
  unfolding ranges_sound
  ranges-parts =
      alike _ _ (λ h. let t = both_true (ranges_fit r) (sound (group_in r)) h in parts_from r (ranges-says r t.0) (sound-says (group_in r) t.1))
      (λ h. both-from _ _ (ranges-from r (ranged h)) (sound-from (group_in r) (grouped h)))
