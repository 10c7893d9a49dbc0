-- The records that a step or a start leaves, written as bytes, are the bytes that it leaves: the next step of the records is the next step of the bytes.
use mathlib.Core.Path.{◌≡◌, refl, sym, ◌∙◌, ap, subst}
use mathlib.Core.Bool.{Bool, true, false}
use mathlib.Core.List.{List, [], ◌++◌, append-nil}
use Prim.Native.Nat.{ℕ, zero, suc, ◌+◌, ◌*◌}
use native.Mathlib.Omega.{arith}
use lib.ListN.{length, length-replicate}
use lib.Seq.{take_all, drop-nil}
use Rattle.views.specs.declared.View.{View}
use Rattle.views.specs.declared.refusal.Refusal.TheVariants.{RecordsUnsound}
use Rattle.views.specs.Refusals.{Verdict, left}
use Rattle.std.specs.Prelude.{Ok, Err}
use Rattle.views.specs.Sizes.{view_size}
use Rattle.views.specs.Sets.{one}
use Rattle.views.proofs.SetLaws.{both_true}
use Rattle.wire.specs.Format.{views_bytes}
use Rattle.wire.specs.Reader.{views_in}
use Rattle.wire.proofs.SeamLaws.{length-views_bytes}
use Rattle.wire.proofs.TripViews.{EachFits, AreBytes, views-again, views-fit}
use Rattle.rules.specs.Data.{Group, Step, Result, refused, accepted, need}
use Rattle.rules.specs.Sound.{sound}
use Rattle.rules.specs.Group.{Next, creates, pick, step_of}
use Rattle.slots.proofs.BytesKept.{sets-fit, store_view-bytes, store_views-bytes}
use Rattle.slots.proofs.Outside.{store_view-changed}
use Rattle.wire.specs.Writer.{store_views}
use Rattle.events.specs.Replies.{Reply, verdict_of}
use Rattle.book_steps.proofs.Means.{gave}
use Rattle.group_bytes.specs.Groups.{Ranges, made_of, group_in, ranges_fit, ranges_sound}
use Rattle.group_bytes.specs.Starts.{start_ranges}
use Rattle.group_bytes.specs.Steps.{start_result, moved, step_result, step_ranges}
use Rattle.group_bytes.proofs.Creating.{create-says}
use Rattle.group_bytes.proofs.RangesLaws.{ranges-says}
use Rattle.group_bytes.proofs.StartGroup.{start-group}
use Rattle.group_bytes.proofs.GroupRuns.{start-holds}
use Rattle.group_bytes.proofs.Demand2.{step-refused}
use Rattle.group_listed.specs.Calls.{ranges_of, Began, Went}
use Rattle.group_listed.proofs.ListLaws.{moved-list, step-changed}

-- ---- bytes

fit-bytes : (l : List View) → EachFits l → AreBytes (views_bytes l)
unfolding store_views
fit-bytes l f = subst AreBytes (ap (λ (t : List ℕ). views_bytes l ++ t) (drop-nil (0 + 5 * length l)) ∙ append-nil (views_bytes l)) (store_views-bytes [] 0 l (λ (j : ℕ). omega arith) (sets-fit l f))

-- bytes of whole records are those of the views that they are
views-written : (b : List ℕ) (n : ℕ) → length b ≡ 5 * n → AreBytes b → views_bytes (views_in b 0 n) ≡ b
views-written b n e y = views-again b 0 n (omega (arith, e)) y ∙ take_all (5 * n) b (omega (arith, e))

-- ---- a step leaves bytes in the list: the set that a create stores is one of members

module _ (r : Ranges) (c : Step) (bytes : AreBytes r.list) where
  create-asked : (k : ℕ) (y : Next) → k ≡ 1 → step_of one (group_in r) (record { kind = k; first = c.first; second = c.second }) ≡ accepted y
      → creates (group_in r) c.first c.second ≡ accepted y
  unfolding step_of pick
  create-asked zero y e h = absurd (omega (arith, e))
  create-asked (suc zero) y e h = h
  create-asked (suc (suc k)) y e h = absurd (omega (arith, e))

  moved-bytes : ranges_fit r ≡ true → (y : Next) → step_of one (group_in r) c ≡ accepted y → AreBytes (moved r c).list
  moved-bytes f y e =
      moved-list r c AreBytes c.kind bytes (λ k.
      store_view-bytes r.list (view_size * made_of r) _ bytes
      (create-says r (ranges-says r f) c.first c.second y (create-asked c.kind y k e)).set)

  left-bytes : (t : Bool) (x : Result Next) → (t ≡ true → (y : Next) → x ≡ accepted y → AreBytes (moved r c).list)
      → AreBytes (left (verdict_of (need t RecordsUnsound x)) (moved r c) r).list
  unfolding need left
  left-bytes true (accepted y) h = h refl y refl
  left-bytes true (refused f) h = bytes
  left-bytes false x h = bytes

  pub step-bytes : AreBytes (step_ranges r c).list
  unfolding step_ranges step_result ranges_sound
  step-bytes = left-bytes (ranges_sound r) (step_of one (group_in r) c) (λ t. moved-bytes (both_true (ranges_fit r) (sound (group_in r)) t).0)

-- ---- the records after a step

module _ (l : List View) (b q : List ℕ) (c : Step) (k : List View) (d e : List ℕ) (x : Reply) (w : Went l b q c k d e x) (fits : EachFits l) where
  abbrev R : Ranges
  R = ranges_of l b q

  abbrev n : ℕ
  n = length l

  abbrev list_left : List ℕ
  list_left = (step_ranges R c).list

  are-bytes : AreBytes list_left
  are-bytes = step-bytes R c (fit-bytes l fits)

  left_is : (y : Reply) → x ≡ y → k ≡ left y (views_in list_left 0 n) l
  left_is y f = w.list ∙ ap (λ (z : Reply). left z (views_in list_left 0 n) l) f

  list-is : (y : Reply) → x ≡ y → views_bytes k ≡ list_left
  unfolding left
  list-is (Ok u) f = ap views_bytes (left_is (Ok u) f) ∙ views-written list_left n ((step-changed R c).long ∙ length-views_bytes l) are-bytes
  list-is (Err y) f = ap views_bytes (left_is (Err y) f) ∙ sym (ap (λ (r : Ranges). r.list) (step-refused R c y (sym w.reply ∙ f)))

  fit-left : (y : Reply) → x ≡ y → EachFits k
  unfolding left
  fit-left (Ok u) f = rw (left_is (Ok u) f) (views-fit list_left 0 n are-bytes)
  fit-left (Err y) f = rw (left_is (Err y) f) fits

  -- the views left are within their widths again
  pub went-fits : EachFits k
  went-fits = fit-left x refl

  -- the list list_left, as bytes, is the list of bytes that the step leaves, and the books and the queues are the same
  pub went-ranges : ranges_of k d e ≡ step_ranges R c
  went-ranges = λ i. record { list = list-is x refl i; books = w.books i; queues = w.queues i }

-- ---- the records after a start

module _ (l : List View) (b q : List ℕ) (n S : ℕ) (k : List View) (d e : List ℕ) (v : Verdict) (w : Began l b q n S k d e v) where
  abbrev R₀ : Ranges
  R₀ = ranges_of l b q

  abbrev left₀ : List ℕ
  left₀ = (start_ranges n S R₀).list

  -- an accepted start gave a group
  gave-group : (x : Result Group) → (Ok tt) ≡ verdict_of x → (s : Group) × (x ≡ accepted s)
  gave-group (accepted s) f = (s, refl)
  gave-group (refused y) f = let z : ◌≡◌ {A = ℕ} 0 1 = cc in absurd (omega arith)

  pub began-group : v ≡ Ok tt → (s : Group) × (start_result n S R₀ ≡ accepted s)
  began-group f = gave-group (start_result n S R₀) (sym f ∙ w.verdict)

  began-bytes : v ≡ Ok tt → AreBytes left₀
  began-bytes f = let (s, g) = began-group f in (start-group n S R₀ (gave (start_result n S R₀) s (start-holds n S R₀) g).0).bytes.list

  began-is : (u : Verdict) → v ≡ u → k ≡ left u (views_in left₀ 0 (length l)) l
  began-is u f = w.list ∙ ap (λ (u : Verdict). left u (views_in left₀ 0 (length l)) l) f

  began-long : length left₀ ≡ 5 * length l
  unfolding start_ranges
  began-long = (store_view-changed _ 0 _).long ∙ length-replicate (length (views_bytes l)) 0 ∙ length-views_bytes l

  began-list : (u : Verdict) → v ≡ u → views_bytes k ≡ (left u (start_ranges n S R₀) R₀).list
  unfolding left
  began-list (Ok u) f = ap views_bytes (began-is (Ok tt) f) ∙ views-written left₀ (length l) began-long (began-bytes f)
  began-list (Err y) f = ap views_bytes (began-is (Err y) f)

  pub began-fits : v ≡ Ok tt → EachFits k
  unfolding left
  began-fits f = rw (began-is (Ok tt) f) (views-fit left₀ 0 (length l) (began-bytes f))

  pub began-ranges : ranges_of k d e ≡ left v (start_ranges n S R₀) R₀
  began-ranges = λ i. record { list = began-list v refl i; books = w.books i; queues = w.queues i }
