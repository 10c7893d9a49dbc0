-- A start put to the records: it begins with the first view, and behind it is none.
use mathlib.Core.Path.{◌≡◌, refl, sym, ◌∙◌, ap}
use mathlib.Core.Bool.{Bool, true, false}
use mathlib.Core.Logic.{inr}
use mathlib.Core.List.{List}
use Prim.Native.Nat.{ℕ, zero, suc, ◌+◌, ◌-◌, ◌*◌, ◌%◌, ◌≤◌, ◌<◌}
use native.Mathlib.Decide.{dec_le}
use native.Mathlib.Omega.{arith}
use borrow.Author.Tests.{lt-leb, le-leb, eq-eqb}
use lib.Dec.{eqb, leb, lit<}
use lib.ListN.{length, get_or, replicate, length-replicate, get_or-replicate, get_or-eq_default}
use lib.Seq.{ext_get_or}
use Rattle.numbers.specs.Number.{get}
use Rattle.views.specs.declared.View.{View}
use Rattle.views.specs.declared.list.Views.{Views}
use Rattle.views.specs.declared.refusal.Refusal.{Refusal}
use Rattle.views.specs.declared.refusal.Refusal.TheVariants.{RecordsUnsound, MembersOutOfRange, FirstSetUnfit, ListLength}
use Rattle.views.specs.Refusals.{Verdict, left}
use Rattle.std.specs.Prelude.{Ok, Err}
use Rattle.views.specs.Limits.{max_views, max_members}
use Rattle.views.specs.Sizes.{view_size}
use Rattle.views.specs.Lists.{no_view, list_of, placed}
use Rattle.views.specs.Sets.{both, fits}
use Rattle.views.proofs.PlaceLaws.{length-places, list-placed}
use Rattle.wire.specs.Format.{views_bytes}
use Rattle.wire.specs.Reader.{view_in, views_in}
use Rattle.wire.proofs.ReaderLaws.{length-views_in, views-at}
use Rattle.wire.proofs.SeamLaws.{length-views_bytes}
use Rattle.rules.specs.Data.{Group, Result, refused, need}
use Rattle.rules.specs.Sound.{conditions}
use Rattle.rules.specs.Group.{first_view, start}
use Rattle.slots.proofs.Outside.{store_view-changed, view-apart}
use Rattle.slots.proofs.Stored.{view-stored}
use Rattle.wire.specs.Writer.{store_view}
use Rattle.events.specs.Replies.{verdict_of}
use Rattle.group_bytes.specs.Places.{room_of, books_size}
use Rattle.group_bytes.specs.Groups.{Ranges, ranges}
use Rattle.group_bytes.specs.Starts.{start_ranges}
use Rattle.group_bytes.specs.Steps.{ranges_long, start_result}
use Rattle.group_listed.specs.declared.Begun.{Begun}
use Rattle.group_listed.specs.Calls.{ranges_of, Began}
use Rattle.group_listed.specs.Parts.{bytes_in, ranges_in, from_of, BegunBy}
use Rattle.group_listed.specs.SliceParts.{laid}
use Rattle.group_listed.proofs.SliceLaws.{laid-length, laid-here, laid-behind}
use Rattle.group_listed.proofs.BytesLaws.{short-bytes, long-length}

-- ---- the bytes of a start

abbrev zeros : ℕ → List ℕ
zeros m = replicate m 0

byte_at : (m i : ℕ) → get_or (zeros m) i 0 ≡ 0
byte_at m i = elim (dec_le m i) [ yes h ↦ get_or-eq_default (zeros m) 0 (let n : length (zeros m) ≡ m = length-replicate m 0 in omega (arith, n, h)) | no h ↦ get_or-replicate m i 0 0 (omega arith) ]

number_at : (m at k : ℕ) → get (zeros m) at k ≡ 0
unfolding get
number_at m at zero = refl
number_at m at (suc k) = rw (number_at m at k, byte_at m (at + k)) refl

none-at : (m at : ℕ) → view_in (zeros m) at ≡ no_view
none-at m at = rw (number_at m at 4, byte_at m (at + 4)) refl

module _ (ys : List View) (S : ℕ) (few : length ys ≤ max_views) where
  abbrev v : View
  v = first_view S

  abbrev l : List ℕ
  l = store_view (zeros (length (views_bytes ys))) 0 v

  abbrev Read : ℕ → Type 0
  Read i = get_or (laid max_views ys 0 v) i no_view ≡ get_or (views_in l 0 (length ys)) i no_view

  at_first : 0 < length ys → Read 0
  at_first h =
      let m : 0 + 5 ≤ length (zeros (length (views_bytes ys))) = let n : length (zeros (length (views_bytes ys))) ≡ 5 * length ys = length-replicate (length (views_bytes ys)) 0 ∙ length-views_bytes ys in omega (arith, n, h) in
      laid-here 31 ys 0 v h ∙ sym (views-at l 0 (length ys) 0 h ∙ view-stored (zeros (length (views_bytes ys))) 0 v (lit< tt) m)

  at_other : (i : ℕ) → suc i < length ys → Read (suc i)
  at_other i h =
      laid-behind max_views ys 0 (suc i) v (omega arith) (omega (arith, h, few)) h
      ∙ sym (views-at l 0 (length ys) (suc i) h ∙ view-apart (store_view-changed (zeros (length (views_bytes ys))) 0 v) (0 + 5 * suc i) (inr (omega arith)) ∙ none-at (length (views_bytes ys)) (0 + 5 * suc i))

  at-any : (i : ℕ) → i < length ys → Read i
  at-any zero h = at_first h
  at-any (suc i) h = at_other i h

  pub laid-first : laid max_views ys 0 v ≡ views_in l 0 (length ys)
  laid-first =
      let m : length (laid max_views ys 0 v) ≡ length ys = laid-length max_views ys 0 v in
      ext_get_or no_view (laid max_views ys 0 v) (views_in l 0 (length ys)) (m ∙ sym (length-views_in l 0 (length ys))) (λ i h. at-any i (omega (arith, h, m)))

-- ---- a list that is too long: 3, where nothing before it is unmet

refused_long : Bool → Bool → Bool → Result Group
refused_long p m f = need p RecordsUnsound (need m MembersOutOfRange (need f FirstSetUnfit (refused ListLength)))

some-refusal : (p m f : Bool) → (y : Refusal) × (refused_long p m f ≡ refused y)
unfolding refused_long need
some-refusal false m f = (RecordsUnsound, refl)
some-refusal true false f = (MembersOutOfRange, refl)
some-refusal true true false = (FirstSetUnfit, refl)
some-refusal true true true = (ListLength, refl)

long-start : (n S : ℕ) (r : Ranges) → length r.list % view_size ≡ 0 → max_views < room_of r.list
    → start_result n S r ≡ refused_long (both (eqb (length r.books) books_size) true) (both (leb 1 n) (leb n max_members)) (fits n S)
unfolding start_result ranges_long conditions start refused_long need
long-start n S r w h = rw (eq-eqb _ _ w, lt-leb _ _ h, le-leb 1 (room_of r.list) (omega (arith, h))) refl

module _ (ys : List View) (b q : List ℕ) (n S : ℕ) (l : Views) (same : l ≡ placed ys) (d e : List ℕ) (x : Begun) (s : BegunBy l b q n S d e x) (zs : List View) (put : zs ≡ laid (max_views - x.at) ys x.at x.view) where
  abbrev R : Ranges
  R = ranges_of ys b q

  abbrev I : Ranges
  I = ranges_in l b q

  places-long : length l.at ≡ max_views
  places-long = rw same (length-places ys)

  count-is : l.count ≡ length ys
  count-is = ap (λ (t : Views). t.count) same

  laid_from : (w : Verdict) → x.at ≡ from_of w → zs ≡ laid (max_views - from_of w) ys (from_of w) (first_view S)
  laid_from w a = put ∙ ap (λ (i : ℕ). laid (max_views - i) ys i x.view) a ∙ ap (laid (max_views - from_of w) ys (from_of w)) s.view

  -- a list that a group can have
  module _ (h : length ys ≤ max_views) where
    ranges-are : I ≡ R
    ranges-are = ap (λ (t : List ℕ). ranges t b q) (short-bytes l places-long (omega (arith, count-is, h)) ∙ ap views_bytes (ap list_of same ∙ list-placed ys h))

    verdict-is : x.verdict ≡ verdict_of (start_result n S R)
    verdict-is = s.verdict ∙ ap (λ (r : Ranges). verdict_of (start_result n S r)) ranges-are

    left-views : (w : Verdict) → x.verdict ≡ w → zs ≡ left w (views_in (start_ranges n S R).list 0 (length ys)) ys
    unfolding start_ranges laid left
    left-views (Ok u) k = laid_from (Ok tt) (s.at ∙ ap from_of (sym s.verdict ∙ k)) ∙ laid-first ys S h
    left-views (Err y) k = laid_from (Err y) (s.at ∙ ap from_of (sym s.verdict ∙ k))

    short-began : Began ys b q n S zs d e x.verdict
    short-began = record {
      verdict = verdict-is;
      list = left-views x.verdict refl;
      books = s.books ∙ ap (λ (r : Ranges). (left (verdict_of (start_result n S r)) (start_ranges n S r) r).books) ranges-are ∙ ap (λ (w : Verdict). (left w (start_ranges n S R) R).books) (sym verdict-is);
      queues = s.queues ∙ ap (λ (r : Ranges). (left (verdict_of (start_result n S r)) (start_ranges n S r) r).queues) ranges-are ∙ ap (λ (w : Verdict). (left w (start_ranges n S R) R).queues) (sym verdict-is);
    }

  -- a list that is too long for one
  module _ (h : max_views < length ys) where
    abbrev K : Result Group
    K = refused_long (both (eqb (length b) books_size) true) (both (leb 1 n) (leb n max_members)) (fits n S)

    abbrev y : Refusal
    y = (some-refusal (both (eqb (length b) books_size) true) (both (leb 1 n) (leb n max_members)) (fits n S)).0

    is_y : K ≡ refused y
    is_y = (some-refusal (both (eqb (length b) books_size) true) (both (leb 1 n) (leb n max_members)) (fits n S)).1

    in-y : start_result n S I ≡ refused y
    in-y = let k : length (bytes_in l) ≡ 165 = sym (long-length l places-long (omega (arith, count-is, h))) in long-start n S I (rw k refl) (rw k (omega arith)) ∙ is_y

    of-y : start_result n S R ≡ refused y
    of-y = let k : length (views_bytes ys) ≡ 5 * length ys = length-views_bytes ys in long-start n S R (rw k (omega arith)) (rw k (omega (arith, h))) ∙ is_y

    verdict-y : x.verdict ≡ Err y
    verdict-y = s.verdict ∙ ap verdict_of in-y

    stays : zs ≡ ys
    unfolding laid
    stays = laid_from (Err y) (s.at ∙ ap (λ (t : Result Group). from_of (verdict_of t)) in-y)

    long-began : Began ys b q n S zs d e x.verdict
    unfolding left
    long-began = record {
      verdict = verdict-y ∙ sym (ap verdict_of of-y);
      list = stays ∙ sym (ap (λ (w : Verdict). left w (views_in (start_ranges n S R).list 0 (length ys)) ys) verdict-y);
      books = s.books ∙ ap (λ (t : Result Group). (left (verdict_of t) (start_ranges n S I) I).books) in-y ∙ sym (ap (λ (w : Verdict). (left w (start_ranges n S R) R).books) verdict-y);
      queues = s.queues ∙ ap (λ (t : Result Group). (left (verdict_of t) (start_ranges n S I) I).queues) in-y ∙ sym (ap (λ (w : Verdict). (left w (start_ranges n S R) R).queues) verdict-y);
    }

  pub begun-began : Began ys b q n S zs d e x.verdict
  begun-began = elim (dec_le (length ys) max_views) [ yes h ↦ short-began h | no h ↦ long-began (omega arith) ]
