-- What every accepted step of a group keeps: sound records, no client view above the carrier view, nothing queued in a view that is not made.
use mathlib.Core.Path.{◌≡◌, refl}
use mathlib.Core.Logic.{◌≢◌}
use Rattle.std.specs.Prelude.{Option, None, Some}
use mathlib.Core.List.{List, []}
use Prim.Native.Nat.{◌≤◌, ◌<◌}
use native.Mathlib.Omega.{arith}
use lib.ListN.{length}
use Rattle.views.specs.declared.View.{View}
use Rattle.views.specs.Limits.{max_waiting, max_ordered}
use Rattle.views.specs.Points.{at}
use Rattle.views.specs.Lists.{id_of}
use Rattle.views.proofs.Members.{In}
use Rattle.views.proofs.PointLaws.{upd-ind}
use Rattle.rules.specs.Data.{Identifier, Member, EntryOf, BookOf, GroupOf, Result, rank}
use Rattle.rules.specs.Member.{DoneOf}
use Rattle.rules.specs.Sound.{order_at}
use Rattle.rules.specs.Group.{NextOf, booked, own}
use Rattle.rules.proofs.Sound.{QueueSound, BookSound, Sound, in_group}
use Rattle.rules.proofs.Holding.{Holds, gives, after_holds}
use Rattle.rules.proofs.Sound.ListsWithin.{Within}
use Rattle.rules.proofs.Sound.HeldLaws.{Made}
use Rattle.rules.proofs.Sound.BookParts.{BookKept, Keeps, parts-of, sound-of}

-- ---- the group

-- no view made has the identifier
abbrev pub Unmade : List View → Identifier → Type 0
Unmade views g = (v : View) → In v views → id_of v ≢ g

module _ {M : Type 0} where
  -- nothing waits or is ordered in a view that is not made
  abbrev pub NoneUnmade : List View → (Member → Identifier → List (EntryOf M)) → (Identifier → List (EntryOf M)) → Type 0
  NoneUnmade views waiting order = (g : Identifier) → Unmade views g → ((p : Member) → waiting p g ≡ []) × (order g ≡ [])

  pub record Kept (s : GroupOf M) : Type 0 where
    pub sound : Sound s
    pub below : (p : Member) → p < s.members → rank (s.books p).client.view ≤ rank (s.books p).carrier.view
    pub unmade : NoneUnmade s.views s.waiting s.order

  -- a step of the group leaves such a group, if it leaves any
  abbrev pub KeepsGroup : Result (NextOf M) → Type 0
  KeepsGroup r = Holds (λ (x : NextOf M). Kept x.state) r

  pub made : (s : GroupOf M) → Sound s → Made s.views
  made s h = record { rising = h.rising; short = omega (arith, h.made-high, h.room-high) }

  pub book-kept : (s : GroupOf M) → Kept s → (p : Member) → p < s.members → BookKept (in_group s) (s.books p)
  book-kept s h p i = parts-of (in_group s) (s.books p) (h.sound.book p i) (h.sound.outgoing p i) (h.below p i)

  order-longer : (s t : GroupOf M) → ((g : Identifier) → length (s.order g) ≤ length (t.order g)) → (o : Option View) → length (order_at s o) ≤ length (order_at t o)
  order-longer s t h None = omega arith
  order-longer s t h (Some v) = h (id_of v)

  -- a book that is sound in a group is so in one with the same members, no view less and no order shorter
  pub book-moves : (s t : GroupOf M) (b : BookOf M) → s.members ≡ t.members → Within s.views t.views → ((g : Identifier) → length (s.order g) ≤ length (t.order g))
      → BookKept (in_group s) b → BookSound (in_group t) b
  book-moves s t b n w l k = let h = sound-of (in_group s) b k in record {
    opens-short = h.opens-short;
    inward-short = h.inward-short;
    arrived-short = h.arrived-short;
    tolds-short = λ q i. h.tolds-short q (omega arith);
    taken_in = omega (arith, h.taken_in, order-longer s t l b.carrier.view);
    inward-taken = h.inward-taken;
    handed-in = h.handed-in;
    told_in = h.told_in;
    reported-in = h.reported-in;
    opens-rise = h.opens-rise;
    held-known = λ v i. w v (h.held-known v i);
    carrier-known = λ v e. w v (h.carrier-known v e);
    client-known = λ v e. w v (h.client-known v e);
    inward-from = λ q x i. omega (arith, h.inward-from q x i);
    arrived-from = λ q x i. omega (arith, h.arrived-from q x i);
  }

  -- ---- changes that make no view

  -- the group with other books and queues
  abbrev pub changed : GroupOf M → (Member → BookOf M) → (Member → Identifier → List (EntryOf M)) → (Identifier → List (EntryOf M)) → GroupOf M
  changed s books waiting order = record { members = s.members; room = s.room; views = s.views; books = books; waiting = waiting; order = order }

  pub kept-changed : (s : GroupOf M) (books : Member → BookOf M) (waiting : Member → Identifier → List (EntryOf M)) (order : Identifier → List (EntryOf M)) → Kept s
      → ((p : Member) → p < s.members → BookKept (in_group s) (books p))
      → ((p : Member) → p < s.members → (v : View) → In v s.views → QueueSound s max_waiting (waiting p (id_of v)))
      → ((v : View) → In v s.views → QueueSound s max_ordered (order (id_of v)))
      → ((g : Identifier) → length (s.order g) ≤ length (order g))
      → NoneUnmade s.views waiting order
      → Kept (changed s books waiting order)
  kept-changed s books waiting order h b w o l u = let k = h.sound in record {
    sound = record {
      members-low = k.members-low;
      members-high = k.members-high;
      room-low = k.room-low;
      room-high = k.room-high;
      made-low = k.made-low;
      made-high = k.made-high;
      rising = k.rising;
      fits = k.fits;
      book = λ p i. book-moves s (changed s books waiting order) (books p) refl (λ v j. j) l (b p i);
      outgoing = λ p i. (b p i).outgoing;
      waiting = w;
      ordered = o;
    };
    below = λ p i. (b p i).below;
    unmade = u;
  }

  -- one book changed
  pub books-kept : (s : GroupOf M) (p : Member) (b : BookOf M) → Kept s → BookKept (in_group s) b → (q : Member) → q < s.members → BookKept (in_group s) (at p b s.books q)
  books-kept s p b h k = upd-ind p b s.books (λ q x. q < s.members → BookKept (in_group s) x) (λ i. k) (λ q n i. book-kept s h q i)

  pub kept-booked : (s : GroupOf M) (p : Member) (b : BookOf M) → Kept s → BookKept (in_group s) b → Kept (booked s p b)
  unfolding booked
  kept-booked s p b h k = kept-changed s _ s.waiting s.order h (books-kept s p b h k) h.sound.waiting h.sound.ordered (λ g. omega arith) h.unmade

  -- a step of one member
  pub own-kept : (s : GroupOf M) (p : Member) (r : Result (DoneOf M)) → Kept s → Keeps (in_group s) r → KeepsGroup (own s p r)
  unfolding own
  own-kept s p r h k = after_holds (λ (d : DoneOf M). BookKept (in_group s) d.book) r _ k (λ d i. gives (kept-booked s p d.book h i))
