-- In a sound group every member's book is a sound book of the member by itself: so what is proved of a book's steps holds of a group's books.
use mathlib.Core.Path.{◌≡◌, refl}
use mathlib.Core.Bool.{Bool, true, not}
use Rattle.std.specs.Prelude.{Option, None, Some}
use Prim.Native.Nat.{ℕ, ◌≤◌, ◌<◌}
use native.Mathlib.Omega.{arith}
use borrow.Author.Tests.{le-leb, lt-ltb}
use lib.ListN.{length}
use Rattle.views.specs.declared.View.{View}
use Rattle.views.specs.Limits.{max_members, max_ordered}
use Rattle.views.specs.Sets.{is_empty, is_beyond}
use Rattle.views.proofs.Members.{In}
use Rattle.rules.specs.Data.{Member, Entry, entry, Group}
use Rattle.rules.specs.Member.{all}
use Rattle.rules.specs.Sound.{count_fits, order_at, set_fits, opens_rise, from_member, sound}
use Rattle.rules.specs.Alone.{views_of, book_views, limit_if, sets_fit, set_fits_if, book_sound}
use Rattle.rules.proofs.TestLaws.{both-from, within-from, all_from, ◌and◌, conditions-from}
use Rattle.rules.proofs.Sound.Books.{BookSound, EntryTests, entry-tests, book-tests}
use Rattle.rules.proofs.Sound.{Listed, Sound, sound-says}
use Rattle.rules.proofs.Alone.{Fits, by_itself}
use Rattle.book_bytes.specs.Books.{book_in, bytes_sound, members_in, own_in_book}
use Rattle.book_bytes.proofs.LayoutLaws.{layout-from}
use Rattle.group_bytes.specs.Places.{book_bytes}
use Rattle.group_bytes.specs.Groups.{Ranges, members_of, book_of, group_in}
use Rattle.group_bytes.proofs.RangesLaws.{Ranged}

-- ---- over a group of the rules

module _ (s : Group) (h : Sound s) where
  -- a view made fits the members
  made-fits : (v : View) → In v s.views → Fits s.members v
  made-fits v i = both-from (not (is_empty v.set)) (not (is_beyond v.set s.members)) (rw (h.fits v i).0) (rw (h.fits v i).1)

  -- no order is longer than 128
  taken-within : (o : Option View) (k : ℕ) → ((v : View) → o ≡ Some v → In v s.views) → k ≤ length (order_at s o) → k ≤ limit_if o max_ordered
  taken-within None k f l = l
  taken-within (Some v) k f l = omega (arith, l, (h.ordered v (f v refl)).short)

  fits-if : (o : Option View) → ((v : View) → o ≡ Some v → In v s.views) → set_fits_if s.members o ≡ true
  fits-if None f = refl
  fits-if (Some v) f = made-fits v (f v refl)

  carried-fits : (e : Entry) → EntryTests s.members (Listed s.views) e → sets_fit s.members e ≡ true
  carried-fits (entry q m) t = all_from (set_fits s.members) (views_of m) (λ v i. made-fits v (t.known v i))

  pub book-alone : (p : Member) → p < s.members → book_sound s.members (s.books p) ≡ true
  unfolding book_sound
  book-alone p i =
      let n = s.members in
      let b = s.books p in
      let k = h.book p i in
      let known : BookSound (by_itself n) b = record {
        opens-short = k.opens-short;
        inward-short = k.inward-short;
        arrived-short = k.arrived-short;
        tolds-short = k.tolds-short;
        taken_in = taken-within b.carrier.view b.carrier.taken k.carrier-known k.taken_in;
        inward-taken = k.inward-taken;
        handed-in = k.handed-in;
        told_in = k.told_in;
        reported-in = k.reported-in;
        opens-rise = k.opens-rise;
        held-known = λ v j. made-fits v (k.held-known v j);
        carrier-known = λ v e. made-fits v (k.carrier-known v e);
        client-known = λ v e. made-fits v (k.client-known v e);
        inward-from = k.inward-from;
        arrived-from = k.arrived-from;
      } in
      let t = book-tests (by_itself n) b known in
      let outgoing : (f : Entry → Bool) → ((e : Entry) → EntryTests n (Listed s.views) e → f e ≡ true) → all f b.outgoing ≡ true
      = λ f g. all_from f b.outgoing (λ e j. g e (entry-tests n (Listed s.views) e ((h.outgoing p i).entries e j))) in
      conditions-from _ (
      within-from 1 n max_members h.members-low h.members-high
      and t.count
      and le-leb _ _ (h.outgoing p i).short
      and outgoing count_fits (λ e u. u.count)
      and all_from (set_fits n) (book_views b) t.held
      and fits-if b.carrier.view k.carrier-known
      and fits-if b.client.view k.client-known
      and outgoing (sets_fit n) carried-fits
      and t.rise
      and outgoing opens_rise (λ e u. u.rise)
      and outgoing (from_member n) (λ e u. u.sender)
      and t.inward
      and t.arrived
      and tt)

-- ---- over the ranges

module _ (r : Ranges) (fits : Ranged r) (p : ℕ) (member : p < members_of r) where
  pub members-in : members_in (book_bytes r.books p) ≡ members_of r
  members-in = (fits.in_place p member).members

  pub self_in : own_in_book (book_bytes r.books p) ≡ p
  self_in = (fits.in_place p member).self

  pub member-low : p < max_members
  member-low = omega (arith, fits.members.1)

  -- the book of p in the group is the one in its bytes
  pub book-is : (group_in r).books p ≡ book_in (book_bytes r.books p)
  unfolding group_in book_of
  book-is = rw (lt-ltb p (members_of r) member)

  pub sound-book : sound (group_in r) ≡ true → bytes_sound (book_bytes r.books p) ≡ true
  unfolding bytes_sound group_in
  sound-book h =
      let own : book_sound (members_of r) ((group_in r).books p) ≡ true = book-alone (group_in r) (sound-says (group_in r) h) p member in
      conditions-from _ (
      layout-from (book_bytes r.books p) (fits.in_place p member).layout
      and rw (members-in, ← book-is) own
      and tt)
