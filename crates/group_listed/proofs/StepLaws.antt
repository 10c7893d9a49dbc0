-- A step, and a start, with the list by value: what is put to the group is the list's bytes.
use Rattle.std.specs.Prelude.{Ok, Err}
use mathlib.Core.Path.{◌≡◌, refl, sym, ◌∙◌, ap, subst}
use mathlib.Core.List.{List}
use mathlib.Core.Bool.{true, false}
use mathlib.Core.Logic.{⊎_elim}
use Prim.Native.Nat.{ℕ, ◌*◌, ◌≤◌, ◌<◌}
use native.Mathlib.Decide.{dec_le}
use native.Mathlib.Omega.{arith}
use borrow.Author.Tests.{lt-ltb, le-ltb}
use lib.ListN.{length, set}
use lib.Seq.{set_out}
use Rattle.views.specs.declared.View.{View}
use Rattle.views.specs.declared.list.Views.{Views}
use Rattle.views.specs.declared.refusal.Refusal.TheVariants.{RecordsUnsound}
use Rattle.views.specs.Refusals.{Verdict, left}
use Rattle.views.specs.Limits.{max_views}
use Rattle.views.specs.Lists.{list_of, placed}
use Rattle.views.proofs.PlaceLaws.{length-places, list-placed}
use Rattle.views.proofs.SetLaws.{known}
use Rattle.wire.specs.Format.{views_bytes}
use Rattle.wire.specs.Reader.{views_in}
use Rattle.wire.proofs.SeamLaws.{length-views_bytes}
use Rattle.wire.proofs.TripViews.{EachFits}
use Rattle.wire.proofs.RecordTrip.{take-fit}
use Rattle.rules.specs.Data.{Step}
use Rattle.rules.specs.Group.{first_view}
use Rattle.events.specs.Replies.{Reply}
use Rattle.group_bytes.specs.Places.{room_of}
use Rattle.group_bytes.specs.Groups.{Ranges, ranges, made_of, ranges_fit}
use Rattle.group_bytes.specs.Answers.{next_reply}
use Rattle.group_bytes.specs.Steps.{step_ranges, step_reply}
use Rattle.group_bytes.proofs.RangesLaws.{ranges-says}
use Rattle.group_bytes.proofs.StepGroup.{step-unfit}
use Rattle.group_bytes.proofs.Demand2.{step-refused}
use Rattle.group.specs.StartCalls.{Began}
use Rattle.group.specs.StepCalls as bytes
use Rattle.group_listed.specs.declared.Stepped.{Stepped}
use Rattle.group_listed.specs.Calls.{ranges_of, Went}
use Rattle.group_listed.proofs.BytesLaws.{short-bytes, long-length}
use Rattle.group_listed.proofs.ListLaws.{step-changed, views-whole, views-kept}
use Rattle.group_listed.specs.Parts.{bytes_in, ranges_in, view_or, next_of, from_of, SteppedBy, BegunBy}

-- the part p of the bytes that was put to the group came back as k
pub stepped_by : (l : Views) (b q p : List ℕ) (c : Step) (k d e : List ℕ) (x : Reply) (m : List ℕ) (at : ℕ) (v : View) → p ≡ bytes_in l → bytes.Went (ranges p b q) c (ranges k d e) x → at ≡ next_of l.count q → m ≡ k → v ≡ view_or m at
    → SteppedBy l b q c d e (record { reply = x; at = at; view = v })
stepped_by l b q p c k d e x m at v same went next back view =
    let w : bytes.Went (ranges_in l b q) c (ranges k d e) x = subst (λ (s : List ℕ). bytes.Went (ranges s b q) c (ranges k d e) x) same went in
    record { reply = w.reply; books = w.books; queues = w.queues; at = next; view = view ∙ ap (λ (s : List ℕ). view_or s at) (back ∙ w.list) }

pub begun-by : (l : Views) (b q p : List ℕ) (n S : ℕ) (k d e : List ℕ) (v : Verdict) (at : ℕ) → p ≡ bytes_in l → Began (ranges p b q) n S (ranges k d e) v → at ≡ from_of v
    → BegunBy l b q n S d e (record { verdict = v; at = at; view = first_view S })
begun-by l b q p n S k d e v at same began from =
    let w : Began (ranges_in l b q) n S (ranges k d e) v = subst (λ (s : List ℕ). Began (ranges s b q) n S (ranges k d e) v) same began in
    record { verdict = w.verdict; books = w.books; queues = w.queues; at = from ∙ ap from_of w.verdict; view = refl }

-- ---- a step put to the records

-- ranges with a list that is too long do not fit
pub long-unfit : (r : Ranges) → max_views < room_of r.list → ranges_fit r ≡ false
long-unfit r h =
    ⊎_elim
    (λ (t : ranges_fit r ≡ true). absurd (omega (arith, h, (ranges-says r t).room.1)))
    (λ (t : ranges_fit r ≡ false). t)
    (known (ranges_fit r))

module _ (ys : List View) (b q : List ℕ) (c : Step) (l : Views) (same : l ≡ placed ys) (fits : EachFits l.at) (d e : List ℕ) (x : Stepped) (s : SteppedBy l b q c d e x) (zs : List View) (put : zs ≡ set ys x.at x.view) where
  abbrev R : Ranges
  R = ranges_of ys b q

  abbrev n : ℕ
  n = length ys

  places-long : length l.at ≡ max_views
  places-long = rw same (length-places ys)

  count-is : l.count ≡ n
  count-is = ap (λ (t : Views). t.count) same

  -- a list that a group can have
  module _ (h : n ≤ max_views) where
    whole : list_of l ≡ ys
    whole = rw same (list-placed ys h)

    each : EachFits ys
    each = subst EachFits whole (take-fit l.count l.at fits)

    bytes-are : bytes_in l ≡ views_bytes ys
    bytes-are = short-bytes l places-long (omega (arith, count-is, h)) ∙ ap views_bytes whole

    ranges-are : ranges_in l b q ≡ R
    ranges-are = ap (λ (t : List ℕ). ranges t b q) bytes-are

    at-made : x.at ≡ made_of R
    unfolding next_of
    at-made = s.at ∙ rw (le-ltb max_views l.count (omega (arith, count-is, h))) refl

    filled : zs ≡ views_in (step_ranges R c).list 0 n
    filled =
        let v : x.view ≡ view_or (step_ranges R c).list (made_of R) = s.view ∙ ap (λ (r : Ranges). view_or (step_ranges r c).list x.at) ranges-are ∙ ap (view_or (step_ranges R c).list) at-made in
        put ∙ ap (λ (i : ℕ). set ys i x.view) at-made ∙ ap (set ys (made_of R)) v ∙ sym (views-kept ys each (step_ranges R c).list (made_of R) (step-changed R c))

    reply-is : x.reply ≡ step_reply R c
    reply-is = s.reply ∙ ap (λ (r : Ranges). step_reply r c) ranges-are

    left-views : (y : Reply) → x.reply ≡ y → zs ≡ left y (views_in (step_ranges R c).list 0 n) ys
    unfolding left
    left-views (Ok u) k = filled
    left-views (Err y) k =
        let t : step_ranges R c ≡ R = step-refused R c y (sym reply-is ∙ k) in
        filled ∙ ap (λ (r : Ranges). views_in r.list 0 n) t ∙ views-whole ys each

    short-went : Went ys b q c zs d e x.reply
    short-went = record {
      reply = reply-is;
      list = left-views x.reply refl;
      books = s.books ∙ ap (λ (r : Ranges). (step_ranges r c).books) ranges-are;
      queues = s.queues ∙ ap (λ (r : Ranges). (step_ranges r c).queues) ranges-are;
    }

  -- a list that is too long for one
  module _ (h : max_views < n) where
    abbrev L : Ranges
    L = ranges_in l b q

    unfit-in : ranges_fit L ≡ false
    unfit-in =
        let k : length (bytes_in l) ≡ 165 = sym (long-length l places-long (omega (arith, count-is, h))) in
        long-unfit L (rw k (omega arith))

    unfit : ranges_fit R ≡ false
    unfit = long-unfit R (let k : length (views_bytes ys) ≡ 5 * n = length-views_bytes ys in rw k (omega (arith, h)))

    refusal : (r : Ranges) → ranges_fit r ≡ false → step_reply r c ≡ Err RecordsUnsound
    unfolding step_reply
    refusal r f = ap next_reply (step-unfit r f c).0

    stays : zs ≡ ys
    unfolding next_of
    stays =
        let a : x.at ≡ n = s.at ∙ rw (lt-ltb max_views l.count (omega (arith, count-is, h))) count-is in
        put ∙ set_out ys x.at x.view (omega (arith, a))

    long-went : Went ys b q c zs d e x.reply
    unfolding left
    long-went =
        let r : x.reply ≡ Err RecordsUnsound = s.reply ∙ refusal L unfit-in in
        record {
          reply = r ∙ sym (refusal R unfit);
          list = stays ∙ sym (ap (λ (t : Reply). left t (views_in (step_ranges R c).list 0 n) ys) r);
          books = s.books ∙ ap (λ (t : Ranges). t.books) (step-unfit L unfit-in c).1 ∙ sym (ap (λ (t : Ranges). t.books) (step-unfit R unfit c).1);
          queues = s.queues ∙ ap (λ (t : Ranges). t.queues) (step-unfit L unfit-in c).1 ∙ sym (ap (λ (t : Ranges). t.queues) (step-unfit R unfit c).1);
        }

  pub stepped-went : Went ys b q c zs d e x.reply
  stepped-went = elim (dec_le n max_views) [ yes h ↦ short-went h | no h ↦ long-went (omega arith) ]
