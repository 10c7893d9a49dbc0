-- Pass in the ranges: the group is the rule's, and what the step reads and writes lies within its ranges. What another book for one member does to
-- the group is asked of the caller: it is a law of the books.
use mathlib.Core.Path.{◌≡◌, refl, sym, ap, ◌∙◌}
use mathlib.Core.Bool.{true}
use Rattle.std.specs.Prelude.{Some, unwrap_or}
use mathlib.Core.List.{List, [], ◌∷◌, ◌++◌}
use Prim.Native.Nat.{ℕ, ◌+◌, ◌*◌, ◌≤◌, ◌<◌}
use native.Mathlib.Omega.{arith}
use borrow.Author.Tests.{ltb-true, lt-ltb}
use lib.Dec.{ltb}
use lib.ListN.{length, get_or, drop}
use Rattle.views.specs.declared.View.{View}
use Rattle.views.specs.Limits.{max_outgoing, max_waiting}
use Rattle.views.specs.Lists.{id_of, no_view}
use Rattle.wire.proofs.TripViews.{AreBytes}
use Rattle.rules.specs.Data.{Member, Entry, Book, Group, accepted}
use Rattle.rules.specs.Member.{outgoes, passing}
use Rattle.rules.specs.Sound.{sound}
use Rattle.rules.specs.Group.{Next, booked, pass_step}
use Rattle.rules.proofs.Sound.{sound-says}
use Rattle.rules.proofs.Holding.{Holds, gives, need-holds, view-holds, first_holds, then-holds}
use Rattle.slots.specs.Slots.{slot_size, entry_in, queue_in, slot_fits}
use Rattle.slots.proofs.Outside.{Changed, queue-whole}
use Rattle.slots.proofs.Lists.{length-entries, slots-first}
use Rattle.slots.proofs.BytesKept.{take-bytes, drop-bytes}
use Rattle.book_bytes.specs.Places.{book_size, outgoing_at}
use Rattle.book_bytes.specs.Records.{record_in}
use Rattle.book_bytes.specs.Books.{outgoing_in, book_in}
use Rattle.book_bytes.proofs.LayoutLaws.{Layout}
use Rattle.book_bytes.proofs.QueueBooks.{length-outgoing}
use Rattle.book_steps.specs.Acts.{pass_bytes}
use Rattle.book_steps.proofs.Means.{Means, gave, queues-kept, pops}
use Rattle.group_bytes.specs.Places.{book_at, book_bytes, waiting_size, waiting_at}
use Rattle.group_bytes.specs.Groups.{Ranges, members_of, made_of, views_made, place_of, waiting_in, book_of, group_in}
use Rattle.group_bytes.specs.Moves.{rebooked, slot_added, pass_ranges}
use Rattle.group_bytes.proofs.RangesLaws.{RangesBytes, Queued, Ranged, MeansGroup}
use Rattle.group_bytes.proofs.PlaceLaws.{length-made, place_in}
use Rattle.group_bytes.proofs.SlotLaws.{add-changed, add-count, add-appends, add-fits, add-bytes}
use Rattle.group_bytes.proofs.Inside.{waiting-inside, entries-first}
use Rattle.group_bytes.proofs.Tables.{waiting-at, rewaited, waits, group-as}

-- what another book for a member does to the group
abbrev pub Rebooks : Ranges → Type 0
Rebooks r = (p : Member) → p < members_of r → (b : List ℕ) (B : Book) → Means (book_bytes r.books p) b B → MeansGroup (rebooked r p b) (booked (group_in r) p B)

-- the carrier view by the record of a book
abbrev pub carried_in : List ℕ → View
carried_in b = unwrap_or (record_in b).carrier no_view

pub carried-is : (b : List ℕ) (v : View) → (record_in b).carrier ≡ Some v → carried_in b ≡ v
carried-is b v e = rw e

-- what is known where pass is accepted, b the member's book: there is a carrier view and i its place, something is outgoing, the queue has room
pub record PassingOn (r : Ranges) (p : Member) (b : List ℕ) (i : ℕ) : Type 0 where
  pub carries : (record_in b).carrier ≡ Some (carried_in b)
  pub there : i < made_of r
  pub some : 0 < get_or b outgoing_at 0
  pub few : get_or b outgoing_at 0 ≤ max_outgoing
  pub first : slot_fits b (outgoing_at + 1) ≡ true
  pub size : length b ≡ book_size
  pub room : get_or r.queues (waiting_at i p) 0 < max_waiting
  pub waiting : waiting_at i p + waiting_size ≤ length r.queues
  pub book : book_at p + book_size ≤ length r.books

module _ (r : Ranges) (fits : Ranged r) (p : Member) (member : p < members_of r) where
  abbrev b : List ℕ
  b = book_bytes r.books p

  abbrev g : ℕ
  g = id_of (carried_in b)

  abbrev i : ℕ
  i = place_of g (views_made r)

  abbrev w : ℕ
  w = waiting_at i p

  -- the book without its first outgoing entry
  abbrev lighter : Book
  lighter = outgoes (drop 1 (outgoing_in b)) (book_in b)

  -- the group that pass leaves, by what stands in the bytes
  abbrev after : Group
  after = rewaited (booked (group_in r) p lighter) p g (waiting_in r p g ++ (entry_in b (outgoing_at + 1) ∷ []))

  layout : Layout b
  layout = (fits.in_place p member).layout

  book-at : book_of r p ≡ book_in b
  unfolding book_of
  book-at = rw (lt-ltb p (members_of r) member)

  pass-holds : sound (group_in r) ≡ true → Holds (λ (x : Next). PassingOn r p b i × (x.state ≡ after)) (pass_step (group_in r) p)
  unfolding pass_step passing group_in booked book_in
  pass-holds s =
      then-holds (passing (book_of r p)) _
      (view-holds (book_of r p).carrier.view _ _ (λ v c.
      first_holds (book_of r p).outgoing _ _ (λ e rest d. gives (
      need-holds (ltb (length (waiting_in r p (id_of v))) max_waiting) _ _ (λ k.
      let held : (record_in b).carrier ≡ Some v = sym (ap (λ (x : Book). x.carrier.view) book-at) ∙ c in
      let same : carried_in b ≡ v = carried-is b v held in
      let listed = ((sound-says (group_in r) s).book p member).carrier-known v c in
      let there : i < made_of r = rw same (omega (arith, length-made r, place_in v (views_made r) listed)) in
      let one = entries-first b (outgoing_at + 1) (get_or b outgoing_at 0) e rest (sym (ap (λ (x : Book). x.outgoing) book-at) ∙ d) in
      let room : length (queue_in r.queues w (w + 1)) < max_waiting = rw (← waiting-at r g i refl p member there, same) (ltb-true _ _ k) in
      let from = sym same in
      gives (
        record {
          carries = held ∙ ap (λ (x : View). Some x) (sym same);
          there = there;
          some = one.some;
          few = layout.outgoing;
          first = slots-first b (outgoing_at + 1) (get_or b outgoing_at 0) one.some layout.slots;
          size = layout.size;
          room = omega (arith, room, length-entries r.queues (w + 1) (get_or r.queues w 0));
          waiting = waiting-inside r fits i there p member;
          book = omega (arith, fits.books, fits.members.1);
        },
        (λ j. rewaited (booked (group_in r) p (outgoes (one.behind j) (book-at j))) p (id_of (from j)) (waiting_in r p (id_of (from j)) ++ (one.entry j ∷ []))),
      ))))))

  module _ (bytes : RangesBytes r) (o : PassingOn r p b i) where
    book-bytes : AreBytes b
    unfolding book_bytes
    book-bytes = take-bytes book_size (drop (book_at p) r.books) (drop-bytes (book_at p) r.books bytes.books)

    lighter-means : Means b (pass_bytes b) lighter
    unfolding pass_bytes book_in
    lighter-means = (pops (queues-kept b layout book-bytes) (omega (arith, length-outgoing b, o.some))).means

    abbrev added : List ℕ
    added = slot_added r.queues w b (outgoing_at + 1)

    inside : outgoing_at + 1 + slot_size ≤ length b
    inside = omega (arith, o.size)

    space : w + 1 + slot_size * (get_or r.queues w 0 + 1) ≤ length r.queues
    space = omega (arith, o.waiting, o.room)

    pub add-within : Changed r.queues added w waiting_size
    add-within =
        queue-whole (add-changed r.queues w b (outgoing_at + 1) inside space) w waiting_size
        (omega arith) (omega arith) (omega arith) (omega (arith, o.room))

    added-queued : Queued added max_waiting w
    added-queued = record {
      few = omega (arith, add-count r.queues w b (outgoing_at + 1) inside space, o.room);
      slots = add-fits r.queues w b (outgoing_at + 1) inside space ((fits.tables i o.there).waiting p member).slots o.first;
    }

    added_is : queue_in added w (w + 1) ≡ waiting_in r p g ++ (entry_in b (outgoing_at + 1) ∷ [])
    added_is =
        add-appends r.queues w b (outgoing_at + 1) inside space
        ∙ ap (λ (l : List Entry). l ++ (entry_in b (outgoing_at + 1) ∷ [])) (sym (waiting-at r g i refl p member o.there))

    pass-means : Rebooks r → MeansGroup (pass_ranges r p) after
    unfolding pass_ranges group_in booked
    pass-means rebook =
        let m = rebook p member (pass_bytes b) lighter lighter-means in
        let still : members_of (rebooked r p (pass_bytes b)) ≡ members_of r = ap (λ (s : Group). s.members) m.group in
        let y = add-bytes r.queues w b (outgoing_at + 1) bytes.queues book-bytes (omega (arith, o.room)) in
        group-as (ap (λ (s : Group). rewaited s p g (waiting_in r p g ++ (entry_in b (outgoing_at + 1) ∷ []))) m.group)
        (waits (rebooked r p (pass_bytes b)) m.fits m.bytes added g i refl o.there p (rw still member) add-within added-queued y _ added_is)

-- ---- the step

module _ (r : Ranges) (fits : Ranged r) where
  pub pass-says : sound (group_in r) ≡ true → (p : Member) → p < members_of r → (x : Next) → pass_step (group_in r) p ≡ accepted x
      → PassingOn r p (book_bytes r.books p) (place_of (id_of (carried_in (book_bytes r.books p))) (views_made r))
  pass-says s p member x e = (gave (pass_step (group_in r) p) x (pass-holds r fits p member s) e).0

  pub pass-group : RangesBytes r → sound (group_in r) ≡ true → Rebooks r → (p : Member) → p < members_of r → (x : Next)
      → pass_step (group_in r) p ≡ accepted x → MeansGroup (pass_ranges r p) x.state
  pass-group bytes s rebook p member x e =
      let t = gave (pass_step (group_in r) p) x (pass-holds r fits p member s) e in
      group-as (sym t.1) (pass-means r fits p member bytes t.0 rebook)
