-- What steps by servers of one view change in the ranges: the books, and of the queues the head and the queues of that view. So these are what has to
-- be kept of a group to undo them.
use mathlib.Core.Path.{◌≡◌, refl, sym, ap, ◌∙◌}
use mathlib.Core.Logic.{◌⊎◌, ⊎_elim}
use mathlib.Core.Bool.{Bool, true, false}
use Rattle.std.specs.Prelude.{Some, Ok}
use mathlib.Core.List.{List, ◌∷◌}
use Prim.Native.Nat.{ℕ, suc, ◌+◌, ◌^◌, ◌≤◌, ◌<◌}
use native.Mathlib.Omega.{arith}
use borrow.Author.Tests.{ltb-true}
use lib.ListN.{length, get_or}
use Rattle.views.specs.declared.View.{View}
use Rattle.views.specs.declared.refusal.Refusal.TheVariants.{RecordsUnsound}
use Rattle.views.specs.Limits.{max_members}
use Rattle.views.specs.Lists.{id_of}
use Rattle.views.specs.Members.{In}
use Rattle.views.specs.Sets.{one}
use Rattle.views.specs.Refusals.{left, verdict_given}
use Rattle.views.proofs.Members.{in-cons}
use Rattle.views.proofs.VerdictLaws.{never}
use Rattle.rules.specs.Data.{Member, Group, Step, Book, Result, refused, accepted, need, rank}
use Rattle.rules.specs.Sound.{sound}
use Rattle.rules.specs.Group.{Next, pass_step, order_step, pick, step_of, settles, step}
use Rattle.rules.proofs.Holding.{Holds, holds-from, need-holds}
use Rattle.rules.proofs.Forming.Each.{asks}
use Rattle.rules.proofs.Forming.Carriers.{carrier_of, carrier-stays, carrier-joins, views-stay}
use Rattle.events.specs.Replies.{verdict_of}
use Rattle.slots.proofs.Outside.{Changed}
use Rattle.book_bytes.specs.Records.{record_in}
use Rattle.book_bytes.specs.Books.{book_in}
use Rattle.book_steps.proofs.Means.{gave}
use Rattle.group_bytes.specs.Places.{book_bytes, head_size, table_size, order_at}
use Rattle.group_bytes.specs.Groups.{Ranges, members_of, views_made, place_of, group_in, ranges_sound}
use Rattle.group_bytes.specs.Moves.{pass_ranges, order_ranges, deliver_ranges, join_ranges, marked, attempt_ranges}
use Rattle.group_bytes.specs.Answers.{next_reply}
use Rattle.group_bytes.specs.Steps.{step_result, pick_ranges, moved, step_ranges, step_reply}
use Rattle.group_bytes.specs.Promises.{Given}
use Rattle.group_bytes.proofs.RangesLaws.{RangesBytes, Ranged, MeansGroup, ranges-from}
use Rattle.group_bytes.proofs.BookSounds.{book-is}
use Rattle.group_bytes.proofs.Tables.{group-as}
use Rattle.group_bytes.proofs.StepGroup.{step-means}
use Rattle.group_bytes.proofs.MarkGroup.{mark-changed}
use Rattle.group_bytes.proofs.PassGroup as P
use Rattle.group_bytes.proofs.OrderGroup as O

-- ---- queues

-- d is q with nothing changed but the head and the queues of the view at place i
pub record Within (q d : List ℕ) (i : ℕ) : Type 0 where
  pub long : length d ≡ length q
  pub same : (j : ℕ) → head_size ≤ j → (j < order_at i) ⊎ (order_at i + table_size ≤ j) → get_or d j 0 ≡ get_or q j 0

pub within_none : (q : List ℕ) (i : ℕ) → Within q q i
within_none q i = record { long = refl; same = λ j h a. refl }

pub within-then : {q c d : List ℕ} {i : ℕ} → Within q c i → Within c d i → Within q d i
within-then x y = record { long = y.long ∙ x.long; same = λ j h a. y.same j h a ∙ x.same j h a }

changed-in : {q d : List ℕ} {at n : ℕ} (i : ℕ) → order_at i ≤ at → at + n ≤ order_at i + table_size → Changed q d at n → Within q d i
changed-in i l h x = record {
  long = x.long;
  same = λ j k. ⊎_elim (λ (b : j < order_at i). x.below j (omega arith)) (λ (b : order_at i + table_size ≤ j). x.past j (omega arith));
}

-- a mark is in the head
mark-within : (q : List ℕ) (k i : ℕ) → Within q (marked q k) i
mark-within q k i = record { long = (mark-changed q k).long; same = λ j h a. (mark-changed q k).past j (omega arith) }

-- ---- ranges

-- d is r but for the books, the queues' head and the queues of the view at place i
pub record Beside (r d : Ranges) (i : ℕ) : Type 0 where
  pub list : d.list ≡ r.list
  pub queues : Within r.queues d.queues i

-- a book that has a carrier view
carried : (b : List ℕ) (g : ℕ) → (record_in b).carrier ≡ Some (P.carried_in b) → rank (book_in b).carrier.view ≡ suc g → id_of (P.carried_in b) ≡ g
unfolding book_in
carried b g t h = let e : suc (id_of (P.carried_in b)) ≡ suc g = sym (ap rank t) ∙ h in omega (arith, e)

module _ (r : Ranges) (fits : Ranged r) (bytes : RangesBytes r) (sounds : sound (group_in r) ≡ true) (g i : ℕ) (place : place_of g (views_made r) ≡ i) (p : Member)
    (member : p < members_of r) where
  low : p < max_members
  low = omega (arith, fits.members.1)

  pass-beside : carrier_of (group_in r) p ≡ suc g → (x : Next) → pass_step (group_in r) p ≡ accepted x → Beside r (pass_ranges r p) i
  unfolding pass_ranges
  pass-beside at x e =
      let b = book_bytes r.books p in
      let o = P.pass-says r fits sounds p member x e in
      let carrier : rank (book_in b).carrier.view ≡ suc g = sym (ap (λ (y : Book). rank y.carrier.view) (book-is r fits p member)) ∙ at in
      let same : place_of (id_of (P.carried_in b)) (views_made r) ≡ i = ap (λ (h : ℕ). place_of h (views_made r)) (carried b g o.carries carrier) ∙ place in
      record { list = refl; queues = changed-in i (omega (arith, same)) (omega (arith, same, low)) (P.add-within r fits p member bytes o) }

  order-beside : (x : Next) → order_step (group_in r) p g ≡ accepted x → Beside r (order_ranges r p g) i
  unfolding order_ranges
  order-beside x e =
      let o = O.order-says r fits sounds p g member x e in
      let k = place_of g (views_made r) in
      record {
        list = refl;
        queues = within-then
            (changed-in i (omega (arith, place)) (omega (arith, place)) (O.add-within r fits bytes p member k o))
            (changed-in i (omega (arith, place)) (omega (arith, place, low)) (O.pop-within r fits bytes p member k o));
      }

-- ---- the steps of a server whose carrier view is the view

-- the kinds of the driver's steps behind its joins
pub data Served : ℕ → Type 0 where
  pass : Served 3
  order : Served 4
  deliver : Served 5
  attempt : Served 6
  register : Served 7
  collect : Served 12

high : {kind : ℕ} → Served kind → 2 < kind
high pass = omega arith
high order = omega arith
high deliver = omega arith
high attempt = omega arith
high register = omega arith
high collect = omega arith

alike : (r d : Ranges) (i : ℕ) → d.list ≡ r.list → d.queues ≡ r.queues → Beside r d i
alike r d i e f = record { list = e; queues = rw f (within_none r.queues i) }

module _ (r : Ranges) (fits : Ranged r) (bytes : RangesBytes r) (sounds : sound (group_in r) ≡ true) (g i : ℕ) (place : place_of g (views_made r) ≡ i) (p : Member) where
  step-beside : (kind : ℕ) → Served kind → carrier_of (group_in r) p ≡ suc g
      → Holds (λ (x : Next). Beside r (moved r (asks kind p g)) i) (step_of one (group_in r) (asks kind p g))
  unfolding step_of pick moved pick_ranges deliver_ranges attempt_ranges group_in
  step-beside kind pass at =
      need-holds _ _ _ (λ t. holds-from (pass_step (group_in r) p) (λ x e. pass-beside r fits bytes sounds g i place p (ltb-true _ _ t) at x e))
  step-beside kind order at =
      need-holds _ _ _ (λ t. holds-from (order_step (group_in r) p g) (λ x e. order-beside r fits bytes sounds g i place p (ltb-true _ _ t) x e))
  step-beside kind deliver at = holds-from _ (λ x e. alike r _ i refl refl)
  step-beside kind attempt at = holds-from _ (λ x e. record { list = refl; queues = mark-within r.queues _ i })
  step-beside kind register at = holds-from _ (λ x e. alike r _ i refl refl)
  step-beside kind collect at = holds-from _ (λ x e. alike r _ i refl refl)

  join-beside : Holds (λ (x : Next). Beside r (moved r (asks 2 p g)) i) (step_of one (group_in r) (asks 2 p g))
  unfolding moved pick_ranges join_ranges
  join-beside = holds-from _ (λ x e. alike r _ i refl refl)

-- ---- one step after another

pub beside_none : (r : Ranges) (i : ℕ) → Beside r r i
beside_none r i = record { list = refl; queues = within_none r.queues i }

beside-then : {r c d : Ranges} {i : ℕ} → Beside r c i → Beside c d i → Beside r d i
beside-then x y = record { list = y.list ∙ x.list; queues = within-then x.queues y.queues }

-- what an accepted step says
record Stepped (r : Ranges) (c : Step) : Type 0 where
  next : Next
  given_by : step_of one (group_in r) c ≡ accepted next
  sounds : sound (group_in r) ≡ true
  leaves : step_ranges r c ≡ moved r c

accepted-left : (x : Result Next) (m r : Ranges) → verdict_given (next_reply x) ≡ Ok tt → left (verdict_of x) m r ≡ m
unfolding left
accepted-left (refused f) m r h = absurd (never f h)
accepted-left (accepted y) m r h = refl

stepped : (r : Ranges) → Ranged r → (c : Step) → verdict_given (step_reply r c) ≡ Ok tt → Stepped r c
unfolding step_reply step_ranges step_result ranges_sound need
stepped r fits c h = go (sound (group_in r)) refl (step_of one (group_in r) c) refl (rw (ranges-from r fits) at h)
  where
    go : (t : Bool) → sound (group_in r) ≡ t → (x : Result Next) → step_of one (group_in r) c ≡ x → verdict_given (next_reply (need t RecordsUnsound x)) ≡ Ok tt → Stepped r c
    go true s (accepted y) e k = record { next = y; given_by = e; sounds = s; leaves = accepted-left (step_result r c) (moved r c) r h }
    go true s (refused f) e k = absurd (never f k)
    go false s x e k = absurd (never RecordsUnsound k)

-- what an accepted step leaves is the group that the rules give
left-means : (r : Ranges) (fits : Ranged r) → RangesBytes r → (c : Step) → Given c → (x : Stepped r c) → MeansGroup (step_ranges r c) x.next.state
unfolding need step
left-means r fits bytes c w x = group-as (go (sound (group_in r)) x.sounds (step_of one (group_in r) c) x.given_by) (step-means r fits bytes c w)
  where
    go : (t : Bool) → t ≡ true → (y : Result Next) → y ≡ accepted x.next → (settles (group_in r) (need t RecordsUnsound y)).state ≡ x.next.state
    go t e y f = rw (e, f)

-- the ranges d are r but for what the driver's steps change, and the servers of L have the view g, at place i, as carrier view
pub record Serves (r : Ranges) (g i : ℕ) (L : List Member) (d : Ranges) : Type 0 where
  pub beside : Beside r d i
  pub fits : Ranged d
  pub bytes : RangesBytes d
  pub views : views_made d ≡ views_made r
  pub carry : (p : Member) → In p L → carrier_of (group_in d) p ≡ suc g

module _ {r : Ranges} {g i : ℕ} (place : place_of g (views_made r) ≡ i) {L : List Member} {d : Ranges} (s : Serves r g i L d) (p : Member) (few : p < 256 ^ 4) (width : g < 256 ^ 8) where
  here : place_of g (views_made d) ≡ i
  here = ap (λ (l : List View). place_of g l) s.views ∙ place

  width_of : (kind : ℕ) → Given (asks kind p g)
  width_of kind = record { first = few; second = width }

  -- the views made stay
  same-views : (c : Step) → 1 < c.kind → (x : Stepped d c) → MeansGroup (step_ranges d c) x.next.state → views_made (step_ranges d c) ≡ views_made r
  unfolding group_in
  same-views c h x m =
      ap (λ (y : Group). y.views) m.group ∙ (gave (step_of one (group_in d) c) x.next (views-stay one (group_in d) c h) x.given_by).0 ∙ s.views

  -- a step of another kind by one of them
  pub serves_on : (kind : ℕ) → Served kind → In p L → verdict_given (step_reply d (asks kind p g)) ≡ Ok tt → Serves r g i L (step_ranges d (asks kind p g))
  serves_on kind k in-L h =
      let c = asks kind p g in
      let x = stepped d s.fits c h in
      let m = left-means d s.fits s.bytes c (width_of kind) x in
      let b : Beside d (moved d c) i = gave (step_of one (group_in d) c) x.next (step-beside d s.fits s.bytes x.sounds g i here p kind k (s.carry p in-L)) x.given_by in
      let stays = gave (step_of one (group_in d) c) x.next (carrier-stays one (group_in d) c (high k)) x.given_by in
      record {
        beside = beside-then s.beside (rw x.leaves b);
        fits = m.fits;
        bytes = m.bytes;
        views = same-views c (omega (arith, high k)) x m;
        carry = λ q j. ap (λ (y : Group). carrier_of y q) m.group ∙ stays q ∙ s.carry q j;
      }

  -- a join: one server more
  pub serves-joined : verdict_given (step_reply d (asks 2 p g)) ≡ Ok tt → Serves r g i (p ∷ L) (step_ranges d (asks 2 p g))
  serves-joined h =
      let c = asks 2 p g in
      let x = stepped d s.fits c h in
      let m = left-means d s.fits s.bytes c (width_of 2) x in
      let b : Beside d (moved d c) i = gave (step_of one (group_in d) c) x.next (join-beside d s.fits s.bytes x.sounds g i here p) x.given_by in
      let (now, others) = gave (step_of one (group_in d) c) x.next (carrier-joins one (group_in d) p g) x.given_by in
      let had : (q : Member) → In q (p ∷ L) → carrier_of x.next.state q ≡ suc g
      = λ q j. ⊎_elim (λ (e : q ≡ p). ap (carrier_of x.next.state) e ∙ now) (λ (e : carrier_of x.next.state q ≡ carrier_of (group_in d) q).
      ⊎_elim (λ (f : q ≡ p). ap (carrier_of x.next.state) f ∙ now) (λ (k : In q L). e ∙ s.carry q k) (in-cons j)) (others q) in
      record {
        beside = beside-then s.beside (rw x.leaves b);
        fits = m.fits;
        bytes = m.bytes;
        views = same-views c (omega arith) x m;
        carry = λ q j. ap (λ (y : Group). carrier_of y q) m.group ∙ had q j;
      }
