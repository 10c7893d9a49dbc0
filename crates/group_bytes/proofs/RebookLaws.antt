-- Another book for one member of a group: the ranges then are the group with that book, and still fit.
use mathlib.Core.Path.{◌≡◌, sym, ap, fun_ext, ◌∙◌}
use mathlib.Core.Logic.{◌≢◌, ⊎_elim}
use mathlib.Core.Bool.{true, false}
use mathlib.Core.List.{List}
use Prim.Native.Nat.{ℕ, ◌<◌}
use native.Mathlib.Decide.{ℕ_discrete}
use native.Mathlib.Omega.{arith}
use borrow.Author.Tests.{eqb-true, eqb-false, ltb-true, lt-ltb}
use lib.Dec.{eqb, ltb}
use lib.ListN.{get_or}
use Rattle.views.specs.Limits.{max_members}
use Rattle.views.specs.Points.{at}
use Rattle.views.proofs.SetLaws.{known}
use Rattle.rules.specs.Data.{Book}
use Rattle.rules.specs.Group.{booked}
use Rattle.book_bytes.specs.Places.{members_at}
use Rattle.book_bytes.specs.Books.{book_in}
use Rattle.book_steps.proofs.Means.{Means}
use Rattle.group_bytes.specs.Places.{book_bytes, with_book}
use Rattle.group_bytes.specs.Groups.{Ranges, members_of, book_of, waiting_in, order_in, group_in}
use Rattle.group_bytes.specs.Moves.{rebooked}
use Rattle.group_bytes.proofs.RangesLaws.{RangesBytes, InPlace, Ranged, MeansGroup}
use Rattle.group_bytes.proofs.BookBytes.{first-members, with-bytes, with_size, with-own, with-other}
use Rattle.group_bytes.proofs.BookSounds.{members-in, self_in, member-low}

module _ (r : Ranges) (fits : Ranged r) (bytes : RangesBytes r) (p : ℕ) (member : p < members_of r) (b : List ℕ) (B : Book)
    (means : Means (book_bytes r.books p) b B) where
  abbrev books : List ℕ
  books = with_book r.books p b

  low : p < max_members
  low = member-low r fits p member

  own : book_bytes books p ≡ b
  own = with-own r.books fits.books p low b means.layout.size

  other : (q : ℕ) → q < max_members → q ≢ p → book_bytes books q ≡ book_bytes r.books q
  other q h n = with-other r.books fits.books p low b means.layout.size q h n

  members-b : get_or b members_at 0 ≡ members_of r
  members-b = means.members ∙ members-in r fits p member

  -- the first book is the new one or as it was: either way of as many members
  pub members_kept : get_or books members_at 0 ≡ members_of r
  members_kept =
      first-members books ∙ elim (ℕ_discrete 0 p) [
        | yes e ↦ rw (ap (book_bytes books) e ∙ own) members-b
        | no n ↦ rw (other 0 (omega arith) n) (sym (first-members r.books))
      ]

  seat : (q : ℕ) → q < members_of r → InPlace books (members_of r) q
  seat q h =
      elim (ℕ_discrete q p) [
        | yes e ↦ rw e (record {
          layout = rw own means.layout;
          members = rw own members-b;
          self = rw own (means.self ∙ self_in r fits p member);
        })
        | no n ↦
            let old = fits.in_place q h in
            let same = other q (member-low r fits q h) n in
            record { layout = rw same old.layout; members = rw same old.members; self = rw same old.self }
      ]

  rebook-fits : Ranged (rebooked r p b)
  rebook-fits = record {
    whole = fits.whole;
    room = fits.room;
    books = with_size r.books fits.books p low b means.layout.size ∙ fits.books;
    queues = fits.queues;
    members = rw members_kept fits.members;
    made = fits.made;
    marks = fits.marks;
    layout = fits.layout;
    in_place = rw members_kept seat;
    tables = rw members_kept fits.tables;
  }

  book-kept : (q : ℕ) → book_of (rebooked r p b) q ≡ at p B (book_of r) q
  unfolding book_of at
  book-kept q =
      ⊎_elim
      (λ (e : eqb q p ≡ true). rw (members_kept, e, eqb-true q p e, lt-ltb p (members_of r) member, own) means.book)
      (λ (e : eqb q p ≡ false).
      ⊎_elim
      (λ (t : ltb q (members_of r) ≡ true).
      rw (members_kept, e, t) (ap book_in (other q (member-low r fits q (ltb-true q (members_of r) t)) (eqb-false q p e))))
      (λ (t : ltb q (members_of r) ≡ false). rw (members_kept, e, t))
      (known (ltb q (members_of r))))
      (known (eqb q p))

  waiting_kept : (q g : ℕ) → waiting_in (rebooked r p b) q g ≡ waiting_in r q g
  unfolding waiting_in
  waiting_kept q g = rw members_kept

  rebook-group : group_in (rebooked r p b) ≡ booked (group_in r) p B
  unfolding group_in booked order_in
  rebook-group = λ i. record {
    members = members_kept i;
    room = (group_in r).room;
    views = (group_in r).views;
    books = fun_ext book-kept i;
    waiting = fun_ext (λ (q : ℕ). fun_ext (waiting_kept q)) i;
    order = order_in r;
  }

  pub rebook : MeansGroup (rebooked r p b) (booked (group_in r) p B)
  rebook = record {
    group = rebook-group;
    fits = rebook-fits;
    bytes = record { list = bytes.list; books = with-bytes r.books p b bytes.books means.bytes; queues = bytes.queues };
  }
