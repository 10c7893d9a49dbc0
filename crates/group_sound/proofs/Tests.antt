-- The parts, by the tests that the code makes one after another.
use mathlib.Core.Path.{◌≡◌, refl}
use mathlib.Core.Bool.{Bool, true, false, not}
use mathlib.Core.List.{List, [], ◌∷◌}
use Prim.Native.Nat.{ℕ, ◌+◌, ◌*◌, ◌%◌, ◌/◌, ◌≤◌}
use native.Mathlib.Omega.{arith}
use borrow.Author.Tests.{eqb-true}
use lib.Dec.{eqb, leb}
use lib.ListN.{length, get_or}
use Rattle.views.specs.declared.View.{View}
use Rattle.views.specs.Limits.{max_members, max_views, max_open}
use Rattle.views.specs.Sizes.{view_size, layout_number}
use Rattle.views.specs.Sets.{both, is_beyond}
use Rattle.views.specs.Lists.{is_rising, list_of}
use Rattle.views.proofs.SetLaws.{both_true}
use Rattle.wire.specs.Reader.{view_in, views_in}
use Rattle.rules.specs.Member.{all}
use Rattle.rules.specs.Sound.{conditions, set_fits, opens_rise, listed, listed_if}
use Rattle.rules.specs.Alone.{book_sound}
use Rattle.rules.proofs.TestLaws.{within-says, conditions-say}
use Rattle.book_bytes.specs.declared.Record.{Record}
use Rattle.book_bytes.specs.Places.{settled_at, carrier_at, client_at, opens_at}
use Rattle.book_bytes.specs.Records.{seat_in, record_in}
use Rattle.book_bytes.specs.Books.{outgoing_in, book_in, layout_fits, bytes_sound}
use Rattle.book_bytes.proofs.Opens.{opens_in}
use Rattle.rules.proofs.Truth.{both-unit}
use Rattle.group_bytes.specs.Places.{room_of, books_size, order_at, queues_size}
use Rattle.group_bytes.specs.Groups.{Ranges, members_of, made_of, marks_of, layout_of}
use Rattle.group_sound.specs.Parts.{sizes_fit, numbers_fit, list_sound, views_known, record_listed}

sizes-order : (z a b c d : Bool) → conditions (z ∷ both a b ∷ c ∷ d ∷ []) ≡ both z (both a (both b (both c d)))
unfolding conditions
sizes-order false a b c d = refl
sizes-order true false b c d = refl
sizes-order true true false c d = refl
sizes-order true true true c d = rw (both-unit d)

numbers-order : (l a b c d e : Bool) → conditions (l ∷ both a b ∷ both c d ∷ e ∷ []) ≡ both l (both a (both b (both c (both d e))))
unfolding conditions
numbers-order false a b c d e = refl
numbers-order true false b c d e = refl
numbers-order true true false c d e = refl
numbers-order true true true false d e = refl
numbers-order true true true true d e = rw (both-unit e)

record-order : (s o a b : Bool) → conditions (both s o ∷ a ∷ b ∷ []) ≡ both s (both o (both a b))
unfolding conditions
record-order false o a b = refl
record-order true o a b = rw (both-unit b)

pub sizes-are : (list books queues : ℕ) → sizes_fit list books queues
    ≡ both (eqb (list % view_size) 0) (both (leb 1 (list / view_size)) (both (leb (list / view_size) max_views)
    (both (eqb books books_size) (eqb queues (queues_size (list / view_size))))))
unfolding sizes_fit
sizes-are list books queues =
    sizes-order (eqb (list % view_size) 0) (leb 1 (list / view_size)) (leb (list / view_size) max_views) (eqb books books_size) (eqb queues (queues_size (list / view_size)))

pub numbers-are : (layout n made room marks : ℕ) → numbers_fit layout n made room marks
    ≡ both (eqb layout layout_number) (both (leb 1 n) (both (leb n max_members) (both (leb 1 made) (both (leb made room) (not (is_beyond marks made))))))
unfolding numbers_fit
numbers-are layout n made room marks =
    numbers-order (eqb layout layout_number) (leb 1 n) (leb n max_members) (leb 1 made) (leb made room) (not (is_beyond marks made))

record-are : (views : List View) (h : Record) → record_listed views h
    ≡ both (listed views h.settled) (both (all (listed views) (list_of h.opens)) (both (listed_if views h.carrier) (listed_if views h.client)))
unfolding record_listed all
record-are views h =
    record-order (listed views h.settled) (all (listed views) (list_of h.opens)) (listed_if views h.carrier) (listed_if views h.client)

-- in bytes, where the open views rise
pub record-in : (views : List View) (b : List ℕ) → get_or b opens_at 0 ≤ max_open → is_rising (views_in b (opens_at + 1) (get_or b opens_at 0)) ≡ true
    → record_listed views (record_in b) ≡ both (listed views (view_in b settled_at)) (both (views_known views (views_in b (opens_at + 1) (get_or b opens_at 0)))
    (both (listed_if views (seat_in b carrier_at)) (listed_if views (seat_in b client_at))))
unfolding record_in
record-in views b few rise = rw (rise, ← opens_in b few) (record-are views (record_in b))

-- ---- what tests that were met say

-- every set of the list fits, and the identifiers rise
pub list-fits : (n : ℕ) (views : List View) → list_sound n views ≡ true → all (set_fits n) views ≡ true
list-fits n views h = (both_true (all (set_fits n) views) (is_rising views) h).0

pub list-rises : (n : ℕ) (views : List View) → list_sound n views ≡ true → is_rising views ≡ true
list-rises n views h = (both_true (all (set_fits n) views) (is_rising views) h).1

-- the three ranges have room for what the numbers say
module _ (r : Ranges) (sizes : sizes_fit (length r.list) (length r.books) (length r.queues) ≡ true) where
  pub books-long : length r.books ≡ books_size
  unfolding sizes_fit
  books-long = let (_, (_, (x, _))) = conditions-say _ sizes in eqb-true _ _ x

  pub queues-long : length r.queues ≡ queues_size (room_of r.list)
  unfolding sizes_fit
  queues-long = let (_, (_, (_, (x, _)))) = conditions-say _ sizes in eqb-true _ _ x

  pub room-few : room_of r.list ≤ max_views
  unfolding sizes_fit
  room-few = let (_, (x, _)) = conditions-say _ sizes in (within-says 1 (room_of r.list) max_views x).1

  module _ (numbers : numbers_fit (layout_of r) (members_of r) (made_of r) (room_of r.list) (marks_of r) ≡ true) where
    pub members-few : members_of r ≤ max_members
    unfolding numbers_fit
    members-few = let (_, (x, _)) = conditions-say _ numbers in (within-says 1 (members_of r) max_members x).1

    made-few : made_of r ≤ room_of r.list
    unfolding numbers_fit
    made-few = let (_, (_, (x, _))) = conditions-say _ numbers in (within-says 1 (made_of r) (room_of r.list) x).1

    pub list-holds : 5 * made_of r ≤ length r.list
    list-holds = omega (arith, made-few)

    pub queues-hold : order_at (made_of r) ≤ length r.queues
    queues-hold = omega (arith, queues-long, made-few)

-- a sound book has its layout
pub fits-layout : (b : List ℕ) → bytes_sound b ≡ true → layout_fits b ≡ true
unfolding bytes_sound
fits-layout b h = let (x, _) = conditions-say _ h in x

-- and the views of its infos rise
pub infos-rise : (b : List ℕ) → bytes_sound b ≡ true → all opens_rise (outgoing_in b) ≡ true
unfolding bytes_sound book_sound book_in
infos-rise b h =
    let (_, (whole, _)) = conditions-say _ h in
    let (_, (_, (_, (_, (_, (_, (_, (_, (_, (rise, _)))))))))) = conditions-say _ whole in
    rise
