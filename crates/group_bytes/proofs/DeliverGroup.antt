-- Deliver in a sound group: the entry that is next of the carrier view's order can be taken, and the ranges then are the rule's group.
use mathlib.Core.Path.{◌≡◌, refl, sym, ap, ◌∙◌}
use mathlib.Core.Logic.{⊎_elim}
use mathlib.Core.Bool.{Bool, true, false, cond}
use Rattle.std.specs.Prelude.{None, Some}
use mathlib.Core.List.{List, [], ◌∷◌}
use Prim.Native.Nat.{ℕ, ◌≤◌, ◌<◌}
use native.Mathlib.Omega.{arith}
use borrow.Author.Tests.{eqb-true, ltb-true}
use lib.Dec.{ltb}
use lib.ListN.{length, get_or, drop}
use lib.Seq.{drop-nil}
use Rattle.views.specs.declared.View.{View}
use Rattle.views.specs.Limits.{max_open, max_ordered}
use Rattle.views.specs.Lists.{id_of}
use Rattle.views.proofs.SetLaws.{known}
use Rattle.rules.specs.Data.{Member, Message, client, info, registered, told, Entry, entry, Book, Group, ok, accepted}
use Rattle.rules.specs.Member.{does, client_is_carrier, delivered}
use Rattle.rules.specs.Sound.{sound}
use Rattle.rules.specs.Group.{Next, booked, take_from, deliver_step}
use Rattle.rules.proofs.Sound.{Sound, EntrySound, entry-from}
use Rattle.rules.proofs.Holding.{Holds, gives, view-holds, first_holds}
use Rattle.rules.proofs.Sound.QueueLaws.{next-below}
use Rattle.rules.proofs.Alone.Peculiar.{next-sound, info-short}
use Rattle.slots.specs.Slots.{fits_kind}
use Rattle.slots.specs.Columns.{order_sender, order_kind, order_count, order_message, order_entry, entries_ordered}
use Rattle.slots.proofs.Stored.{told_of}
use Rattle.slots.proofs.Orders.{length-order, order-next}
use Rattle.book_bytes.specs.Places.{carrier_at, taken_at}
use Rattle.book_bytes.specs.Records.{flag_in, seat_in, record_in}
use Rattle.book_bytes.specs.Books.{book_in}
use Rattle.book_steps.specs.Acts.{taking, take_bytes}
use Rattle.book_steps.proofs.Means.{gave}
use Rattle.book_steps.proofs.MeansTake.{take-means}
use Rattle.group_bytes.specs.Places.{book_bytes, order_at}
use Rattle.group_bytes.specs.Groups.{Ranges, members_of, made_of, views_made, place_of, order_in, group_in}
use Rattle.group_bytes.specs.Moves.{deliver_ranges}
use Rattle.group_bytes.proofs.RangesLaws.{RangesBytes, Ranged, MeansGroup}
use Rattle.group_bytes.proofs.BookBytes.{book-bytes}
use Rattle.group_bytes.proofs.BookSounds.{book-is, sound-book}
use Rattle.group_bytes.proofs.RebookLaws.{rebook}
use Rattle.group_bytes.proofs.BookSteps.{facts, few-given}
use Rattle.group_bytes.proofs.PassGroup.{carried_in, carried-is}
use Rattle.group_bytes.proofs.Widths.{InWidths, order-widths, told-byte}
use Rattle.group_bytes.proofs.Tables.{group-as}

-- ---- over a group of the rules: what taking a sound entry leaves

module _ (s : Group) (h : Sound s) where
  took-few : (p : Member) → p < s.members → (q : Member) (m : Message) → EntrySound s (entry q m) → length (delivered q m (s.books p)).held.opens ≤ max_open
  unfolding delivered
  took-few p i q (client x) e =
      ⊎_elim (λ (t : client_is_carrier (s.books p) ≡ true). rw t (h.book p i).opens-short)
      (λ (t : client_is_carrier (s.books p) ≡ false). rw t (h.book p i).opens-short)
      (known (client_is_carrier (s.books p)))
  took-few p i q (info v l) e = info-short s h p i q v l e
  took-few p i q registered e = (h.book p i).opens-short
  took-few p i q (told k) e = (h.book p i).opens-short

-- ---- the next entry

-- a mark before a view that is there is 1
mark-there : (b : List ℕ) (at : ℕ) (v : View) → seat_in b at ≡ Some v → get_or b at 0 ≡ 1
mark-there b at v e =
    ⊎_elim (λ (t : flag_in b at ≡ true). eqb-true _ _ t)
    (λ (t : flag_in b at ≡ false). let k : None ≡ Some v = rw t at e in let z : ◌≡◌ {A = ℕ} 0 1 = cc in absurd (omega arith))
    (known (flag_in b at))

entry_next : (q : List ℕ) (c k : ℕ) (t : Bool) (e : Entry) (rest : List Entry) → drop k (cond t (entries_ordered q c) []) ≡ e ∷ rest
    → (t ≡ true) × (k < get_or q c 0) × (e ≡ order_entry q c k)
entry_next q c k true e rest d =
    let l : k < get_or q c 0 = omega (arith, next-below k (entries_ordered q c) e rest d, length-order q c) in
    let f = sym d ∙ order-next q c k l in
    (refl, l, cc)
entry_next q c k false e rest d =
    let f = sym (drop-nil k) ∙ d in
    let z : ◌≡◌ {A = ℕ} 0 1 = cc in
    absurd (omega arith)

-- where the order of the member's carrier view stands, and the number of the entry that the member takes next
abbrev pub order_of : Ranges → Member → ℕ
order_of r p = order_at (place_of (id_of (carried_in (book_bytes r.books p))) (views_made r))

abbrev pub taken_of : Ranges → Member → ℕ
taken_of r p = get_or (book_bytes r.books p) taken_at 0

-- the message m of q is next for the member p, and can be taken: 16 and 43 do not show
pub record Takes (r : Ranges) (p : Member) (q : Member) (m : Message) : Type 0 where
  pub entry : EntrySound (group_in r) (entry q m)
  pub sender : q < members_of r
  pub widths : InWidths m
  pub count : told_of m < 256
  pub there : get_or (book_bytes r.books p) carrier_at 0 ≡ 1
  pub inside : taken_of r p < get_or r.queues (order_of r p) 0
  pub kind : fits_kind (get_or r.queues (order_kind (order_of r p) (taken_of r p)) 0) (get_or r.queues (order_count (order_of r p) (taken_of r p)) 0) ≡ true
  pub room : taken_of r p < max_ordered
  pub few : length (delivered q m ((group_in r).books p)).held.opens ≤ max_open

pub takes-accepted : (r : Ranges) (p q : Member) (m : Message) → Takes r p q m → taking q m ((group_in r).books p) ≡ does ok (delivered q m ((group_in r).books p))
takes-accepted r p q m t = few-given (does ok (delivered q m ((group_in r).books p))) (gives t.few)

module _ (r : Ranges) (fits : Ranged r) (bytes : RangesBytes r) (sounds : sound (group_in r) ≡ true) (p : ℕ) (member : p < members_of r) where
  abbrev b : List ℕ
  b = book_bytes r.books p

  abbrev B : Book
  B = (group_in r).books p

  abbrev q : Member
  q = get_or r.queues (order_sender (order_of r p) (taken_of r p)) 0

  abbrev m : Message
  m = order_message r.queues (order_of r p) (taken_of r p)

  -- the carrier view and the position, as the bytes have them
  carrier-in : (v : View) → B.carrier.view ≡ Some v → (get_or b carrier_at 0 ≡ 1) × (carried_in b ≡ v)
  unfolding book_in record_in
  carrier-in v c =
      let e : seat_in b carrier_at ≡ Some v = sym (ap (λ (C : Book). C.carrier.view) (book-is r fits p member)) ∙ c in
      (mark-there b carrier_at v e, carried-is b v e)

  taken_in : B.carrier.taken ≡ get_or b taken_at 0
  unfolding book_in record_in
  taken_in = ap (λ (C : Book). C.carrier.taken) (book-is r fits p member)

  record IsNext (e : Entry) : Type 0 where
    made : place_of (id_of (carried_in b)) (views_made r) < made_of r
    inside : taken_of r p < get_or r.queues (order_of r p) 0
    entry : e ≡ entry q m

  next-entry : (v : View) (e : Entry) (rest : List Entry) → B.carrier.view ≡ Some v → drop B.carrier.taken ((group_in r).order (id_of v)) ≡ e ∷ rest
      → IsNext e
  unfolding group_in order_in
  next-entry v e rest c d =
      let g : drop (taken_of r p) (order_in r (id_of (carried_in b))) ≡ e ∷ rest = rw ((carrier-in v c).1, ← taken_in) d in
      let i = place_of (id_of (carried_in b)) (views_made r) in
      let f = entry_next r.queues (order_of r p) (taken_of r p) (ltb i (made_of r)) e rest g in
      record { made = ltb-true _ _ f.0; inside = f.1; entry = f.2 }

  next-takes : (v : View) (e : Entry) (rest : List Entry) → B.carrier.view ≡ Some v → drop B.carrier.taken ((group_in r).order (id_of v)) ≡ e ∷ rest
      → Takes r p q m
  unfolding group_in
  next-takes v e rest c d =
      let h : Sound (group_in r) = facts r fits bytes sounds in
      let i : p < (group_in r).members = member in
      let (x, room) = next-sound (group_in r) h p i v e rest c d in
      let n = next-entry v e rest c d in
      let y : EntrySound (group_in r) (entry q m) = rw (← n.entry) x in
      record {
        entry = y;
        sender = entry-from y;
        widths = order-widths r.queues (order_of r p) (taken_of r p) bytes.queues;
        count = told-byte (group_in r) q m y;
        there = (carrier-in v c).0;
        inside = n.inside;
        kind = (fits.tables _ n.made).order.kinds (taken_of r p) n.inside;
        room = rw (← taken_in) room;
        few = took-few (group_in r) h p i q m y;
      }

  deliver-means : Takes r p q m → MeansGroup (deliver_ranges r p) (booked (group_in r) p (delivered q m B))
  unfolding deliver_ranges
  deliver-means t =
      let few : length (delivered q m (book_in b)).held.opens ≤ max_open = rw (← book-is r fits p member) t.few in
      let means = take-means b (book-bytes r.books p bytes.books) (sound-book r fits p member sounds) q m
      (omega (arith, t.sender, fits.members.1)) t.widths.message t.widths.sets t.count t.there t.room few in
      group-as (ap (λ (C : Book). booked (group_in r) p (delivered q m C)) (sym (book-is r fits p member)))
      (rebook r fits bytes p member (take_bytes q m b) (delivered q m (book_in b)) means)

  delivers : Holds (λ (x : Next). Takes r p q m × MeansGroup (deliver_ranges r p) x.state) (deliver_step (group_in r) p)
  unfolding deliver_step
  delivers =
      view-holds _ _ _ (λ v c. first_holds _ _ _ (λ e rest d.
      let t = next-takes v e rest c d in
      gives (t, group-as (ap (λ (x : Entry). booked (group_in r) p (take_from x B)) (sym (next-entry v e rest c d).entry)) (deliver-means t))))

  -- an accepted deliver takes the next entry
  pub deliver-takes : (x : Next) → deliver_step (group_in r) p ≡ accepted x
      → Takes r p (get_or r.queues (order_sender (order_of r p) (taken_of r p)) 0) (order_message r.queues (order_of r p) (taken_of r p))
  deliver-takes x e = (gave (deliver_step (group_in r) p) x delivers e).0

  pub deliver-group : (x : Next) → deliver_step (group_in r) p ≡ accepted x → MeansGroup (deliver_ranges r p) x.state
  deliver-group x e = (gave (deliver_step (group_in r) p) x delivers e).1
