-- The marks in the head of the queues: one more mark leaves the group as it was, and attempt in the ranges is the rule's, with the mark of its view.
use mathlib.Core.Path.{◌≡◌, refl, sym, ap, ◌∙◌, fun_ext}
use mathlib.Core.Bool.{true}
use mathlib.Core.Logic.{inr}
use mathlib.Core.List.{List}
use Prim.Native.Nat.{ℕ, ◌^◌, ◌≤◌, ◌<◌}
use native.Mathlib.Omega.{arith}
use lib.Pow.{pow_mono}
use lib.ListN.{get_or}
use Rattle.numbers.specs.Number.{get}
use Rattle.numbers.proofs.NumberLaws.{get-put-same}
use Rattle.views.specs.declared.View.{View}
use Rattle.views.specs.Limits.{max_views, max_waiting}
use Rattle.views.specs.Lists.{id_of}
use Rattle.views.specs.Sets.{with_member}
use Rattle.views.proofs.WithMemberLaws.{with-below}
use Rattle.rules.specs.Data.{Member, Book, Answer, attempt, event, accepted}
use Rattle.rules.specs.Member.{Done, attempts}
use Rattle.rules.specs.Sound.{sound}
use Rattle.rules.specs.Group.{booked}
use Rattle.rules.proofs.Sound.{sound-says}
use Rattle.rules.proofs.Holding.{Holds, gives, need-holds, view-holds}
use Rattle.slots.proofs.Outside.{Changed, Apart, put-changed}
use Rattle.slots.proofs.BytesKept.{put-bytes}
use Rattle.book_bytes.specs.Books.{book_in}
use Rattle.book_steps.specs.Acts.{attempt_bytes}
use Rattle.book_steps.proofs.Means.{gave}
use Rattle.group_bytes.specs.Places.{book_bytes, made_at, marks_at, marks_size, layout_at, head_size, order_at, waiting_at}
use Rattle.group_bytes.specs.Groups.{Ranges, members_of, made_of, marks_of, views_made, place_of, waiting_in, order_in, book_of, group_in}
use Rattle.group_bytes.specs.Moves.{rebooked, marked, attempt_ranges}
use Rattle.group_bytes.proofs.RangesLaws.{RangesBytes, Ranged, MeansGroup}
use Rattle.group_bytes.proofs.PlaceLaws.{length-made, place_in}
use Rattle.group_bytes.proofs.Apart.{queue-still, queued-still, ordered-still, columned-still}
use Rattle.group_bytes.proofs.Tables.{requeued, group-as, order-still, waiting-still, means}
use Rattle.group_bytes.proofs.BookSounds.{book-is}
use Rattle.group_bytes.proofs.BookSteps.{attempt-group}
use Rattle.group_bytes.proofs.PassGroup.{carried_in, carried-is}

-- ---- one more mark

pub mark-changed : (q : List ℕ) (i : ℕ) → Changed q (marked q i) marks_at marks_size
unfolding marked
mark-changed q i = put-changed q marks_at marks_size (with_member i (get q marks_at marks_size))

module _ (r : Ranges) (fits : Ranged r) (i : ℕ) (there : i < made_of r) where
  abbrev d : List ℕ
  d = marked r.queues i

  x : Changed r.queues d marks_at marks_size
  x = mark-changed r.queues i

  low : with_member i (marks_of r) < 2 ^ made_of r
  low = with-below i (marks_of r) (made_of r) fits.marks there

  few : made_of r ≤ max_views
  few = omega (arith, fits.made.1, fits.room.1)

  pub mark-more : get d marks_at marks_size ≡ with_member i (marks_of r)
  unfolding marked
  mark-more =
      get-put-same r.queues marks_at marks_size (with_member i (marks_of r)) (omega (arith, fits.queues)) (omega (arith, low, pow_mono few))

  -- every table is past the head
  past : (at n : ℕ) → head_size ≤ at → Apart marks_at marks_size at n
  past at n h = inr (omega arith)

  pub mark-means : RangesBytes r → MeansGroup (requeued r d) (group_in r)
  unfolding group_in marked
  mark-means bytes =
      let made : get_or d made_at 0 ≡ made_of r = x.below made_at (omega arith) in
      means r fits bytes d x.long made (rw mark-more low) (x.past layout_at (omega arith))
      (λ j h. record {
        order = columned-still x (order_at j) (fits.tables j h).order (past _ _ (omega arith));
        waiting = λ q m. queued-still x max_waiting (waiting_at j q) ((fits.tables j h).waiting q m) (past _ _ (omega arith));
      })
      (put-bytes r.queues marks_at marks_size _ bytes.queues) (waiting_in r) (order_in r)
      (fun_ext (λ q. fun_ext (λ h. let j = place_of h (views_made r) in waiting-still r d made h j refl q (λ m k.
      queue-still x max_waiting (waiting_at j q) ((fits.tables j k).waiting q m) (past _ _ (omega arith))))))
      (fun_ext (λ h. let j = place_of h (views_made r) in order-still r d made h j refl (λ k.
      ordered-still x (order_at j) (fits.tables j k).order (past _ _ (omega arith)))))

-- ---- attempt

module _ (r : Ranges) (fits : Ranged r) (sounds : sound (group_in r) ≡ true) (p : ℕ) (member : p < members_of r) where
  abbrev b : List ℕ
  b = book_bytes r.books p

  -- the answer that names a view
  abbrev naming : View → Answer
  naming w = event (attempt p w)

  -- an accepted attempt: the carrier view by the book's bytes is a view made, and is the one that it names
  abbrev Attempting : Done → Type 0
  Attempting y = (place_of (id_of (carried_in b)) (views_made r) < made_of r) × (y.answer ≡ naming (carried_in b))

  attempt-holds : (weight : Member → ℕ) → Holds Attempting (attempts weight (members_of r) p ((group_in r).books p))
  unfolding attempts group_in book_in
  attempt-holds weight =
      view-holds (book_of r p).carrier.view _ _ (λ v c.
      let same : carried_in b ≡ v = carried-is b v (sym (ap (λ (y : Book). y.carrier.view) (book-is r fits p member)) ∙ c) in
      let listed = ((sound-says (group_in r) sounds).book p member).carrier-known v c in
      need-holds _ _ _ (λ _. need-holds _ _ _ (λ _. need-holds _ _ _ (λ _.
      gives (rw same (omega (arith, length-made r, place_in v (views_made r) listed)), ap naming (sym same))))))

  pub attempt-at : (weight : Member → ℕ) (d : Done) → attempts weight (members_of r) p ((group_in r).books p) ≡ accepted d → Attempting d
  attempt-at weight d e = gave (attempts weight (members_of r) p ((group_in r).books p)) d (attempt-holds weight) e

  pub attempt-marked : RangesBytes r → (weight : Member → ℕ) (d : Done) → attempts weight (members_of r) p ((group_in r).books p) ≡ accepted d
      → MeansGroup (attempt_ranges r p) (booked (group_in r) p d.book)
  unfolding attempt_ranges
  attempt-marked bytes weight d e =
      let m = attempt-group r fits bytes sounds p member weight d e in
      group-as m.group (mark-means (rebooked r p (attempt_bytes b)) m.fits (place_of (id_of (carried_in b)) (views_made r)) (attempt-at weight d e).0 m.bytes)
