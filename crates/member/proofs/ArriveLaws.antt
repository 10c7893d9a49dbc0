-- Join and deliver after 4 and 6: their refusals in order, and that what was read is a message that can be taken.
use mathlib.Core.Path.{◌≡◌, refl, sym, ap, ◌∙◌}
use mathlib.Core.Logic.{⊎_elim}
use mathlib.Core.Bool.{Bool, true, false, not}
use Rattle.std.specs.Prelude.{None, Some, Ok, Err}
use mathlib.Core.List.{List}
use Prim.Native.Nat.{ℕ, ◌≤◌, ◌<◌}
use native.Mathlib.Omega.{arith}
use borrow.Author.Tests.{not-true, not-false, eqb-true, eq-eqb, ne_eqb, ltb-true, lt-ltb, le-ltb}
use lib.Dec.{eqb, ltb}
use lib.ListN.{get_or}
use Rattle.views.specs.declared.View.{View}
use Rattle.views.specs.declared.refusal.Refusal.{Refusal}
use Rattle.views.specs.declared.refusal.Refusal.TheVariants.{SetUnfit, OrderFull, AnotherView, SenderNotInView}
use Rattle.views.specs.Refusals.{Verdict, require}
use Rattle.views.specs.Limits.{max_members, max_ordered}
use Rattle.views.specs.Sets.{has, is_empty, is_beyond}
use Rattle.views.specs.Lists.{id_of, list_of}
use Rattle.views.proofs.SetLaws.{known, both_true, has-below}
use Rattle.wire.specs.declared.Frame.{Frame}
use Rattle.views.proofs.VerdictLaws.{need-accepted}
use Rattle.rules.specs.Data.{Result, refused, need}
use Rattle.rules.specs.Member.{Done, all, joins}
use Rattle.rules.specs.Sound.{set_fits}
use Rattle.rules.specs.Alone.{views_of, sent_in, book_sound}
use Rattle.rules.proofs.TestLaws.{conditions-say, within-says}
use Rattle.book_bytes.specs.Places.{carrier_at, taken_at}
use Rattle.book_bytes.specs.Records.{flag_in, record_in}
use Rattle.book_bytes.specs.Books.{book_in, bytes_sound, members_in, own_in_book}
use Rattle.events.specs.Replies.{Reply, verdict_of}
use Rattle.book_steps.specs.Acts.{taking, join_bytes, take_bytes}
use Rattle.book_steps.proofs.Committed.{Answered, refused-by}
use Rattle.member.specs.Parts.{joining, arriving, frame_answer}

pub answers-refused : (r : Result Done) (x : Refusal) (new b : List ℕ) → r ≡ refused x → Answered r new b (Err x) b
answers-refused r x new b e = refused-by r x new b (ap verdict_of e)

-- ---- join: 7

module _ (b : List ℕ) (v : View) (t : Bool) (tested : t ≡ set_fits (members_in b) v) where
  pub join-unfit : not t ≡ true → Answered (joining (members_in b) (own_in_book b) v (book_in b)) (join_bytes v b) b (Err SetUnfit) b
  unfolding need
  join-unfit h =
      let f : set_fits (members_in b) v ≡ false = sym tested ∙ not-true t h in
      answers-refused (joining (members_in b) (own_in_book b) v (book_in b)) SetUnfit (join_bytes v b) b (rw f refl)

  pub join-fits : not t ≡ false → (y : Reply) (d : List ℕ) → Answered (joins (own_in_book b) v (book_in b)) (join_bytes v b) b y d
      → Answered (joining (members_in b) (own_in_book b) v (book_in b)) (join_bytes v b) b y d
  unfolding need
  join-fits h y d a = let f : set_fits (members_in b) v ≡ true = sym tested ∙ not-false t h in rw f a

-- ---- deliver: 7, 41, 42, 16 in the code

module _ (n : ℕ) (v : View) (taken q : ℕ) (f : Frame) (t : Bool) (tested : t ≡ all (set_fits n) (list_of f.views)) where
  pub answer-unfit : not t ≡ true → Err SetUnfit ≡ frame_answer n v taken q f
  unfolding frame_answer require
  answer-unfit h = rw (← tested, not-true t h) refl

  module _ (fit : not t ≡ false) where
    pub answer-other : (f.view.0 ≡ id_of v → ⊥) → Err AnotherView ≡ frame_answer n v taken q f
    unfolding frame_answer require
    answer-other h = rw (← tested, not-false t fit, ne_eqb f.view.0 (id_of v) h) refl

    module _ (same : f.view.0 ≡ id_of v) (s : Bool) (asked : s ≡ has v.set q) where
      pub answer-stranger : not s ≡ true → Err SenderNotInView ≡ frame_answer n v taken q f
      unfolding frame_answer require
      answer-stranger h = rw (← tested, not-false t fit, eq-eqb f.view.0 (id_of v) same, ← asked, not-true s h) refl

      pub answer-full : not s ≡ false → max_ordered ≤ taken → Err OrderFull ≡ frame_answer n v taken q f
      unfolding frame_answer require
      answer-full h k = rw (← tested, not-false t fit, eq-eqb f.view.0 (id_of v) same, ← asked, not-false s h, le-ltb taken max_ordered k) refl

      pub answer-passes : not s ≡ false → taken < max_ordered → frame_answer n v taken q f ≡ Ok tt
      unfolding frame_answer require
      answer-passes h k = rw (← tested, not-false t fit, eq-eqb f.view.0 (id_of v) same, ← asked, not-false s h, lt-ltb taken max_ordered k) refl

-- ---- the same in the rule

-- the code's tests
abbrev chain : Bool → Bool → Bool → Bool → Verdict
chain a b c d = require a SetUnfit (require b AnotherView (require c SenderNotInView (require d OrderFull (Ok tt))))

chain-refused : (a b c d : Bool) (x : Refusal) (r : Result Done) → chain a b c d ≡ Err x
    → need a SetUnfit (need b AnotherView (need c SenderNotInView (need d OrderFull r))) ≡ refused x
unfolding require need
chain-refused false b c d x r h = let e : SetUnfit ≡ x = cc in rw e refl
chain-refused true false c d x r h = let e : AnotherView ≡ x = cc in rw e refl
chain-refused true true false d x r h = let e : SenderNotInView ≡ x = cc in rw e refl
chain-refused true true true false x r h = let e : OrderFull ≡ x = cc in rw e refl
chain-refused true true true true x r h = cc

record Passed (a b c d : Bool) : Type 0 where
  sets : a ≡ true
  view : b ≡ true
  sender : c ≡ true
  room : d ≡ true

chain-passed : (a b c d : Bool) → chain a b c d ≡ Ok tt → Passed a b c d
chain-passed a b c d h =
    let one = need-accepted a SetUnfit _ h in
    let two = need-accepted b AnotherView _ one.1 in
    let three = need-accepted c SenderNotInView _ two.1 in
    let four = need-accepted d OrderFull _ three.1 in
    record { sets = one.0; view = two.0; sender = three.0; room = four.0 }

-- ---- the carrier view of a sound book

pub carrier-mark : (b : List ℕ) (v : View) → (book_in b).carrier.view ≡ Some v → get_or b carrier_at 0 ≡ 1
unfolding book_in record_in
carrier-mark b v e =
    ⊎_elim (λ (t : flag_in b carrier_at ≡ true). eqb-true _ _ t)
    (λ (t : flag_in b carrier_at ≡ false). let k : None ≡ Some v = rw t at e in cc)
    (known (flag_in b carrier_at))

-- a sender in it is below 8
pub sender-small : (b : List ℕ) (v : View) (q : ℕ) → bytes_sound b ≡ true → (book_in b).carrier.view ≡ Some v → has v.set q ≡ true → q < max_members
unfolding bytes_sound book_sound
sender-small b v q h e m =
    let (_, (s, _)) = conditions-say _ h in
    let (members, (_, (_, (_, (_, (carrier, _)))))) = conditions-say _ s in
    let fit : set_fits (members_in b) v ≡ true = rw e at carrier in
    let below : is_beyond v.set (members_in b) ≡ false = not-true _ (both_true (not (is_empty v.set)) (not (is_beyond v.set (members_in b))) fit).1 in
    omega (arith, has-below v.set (members_in b) q below m, (within-says 1 (members_in b) max_members members).1)

-- ---- a frame in the carrier view v of a sound book

module _ (b : List ℕ) (v : View) (q : ℕ) (f : Frame) (carried : list_of f.views ≡ views_of (sent_in f).message) where
  -- what the code answers
  abbrev answer : Verdict
  answer = frame_answer (members_in b) v (get_or b taken_at 0) q f

  abbrev result : Result Done
  result = arriving (members_in b) v (sent_in f) q (book_in b)

  sets_same : all (set_fits (members_in b)) (list_of f.views) ≡ all (set_fits (members_in b)) (views_of (sent_in f).message)
  sets_same = ap (all (set_fits (members_in b))) carried

  pub frame_refused : {x : Refusal} → Err x ≡ answer → Answered result (take_bytes q (sent_in f).message b) b (Err x) b
  unfolding frame_answer book_in record_in
  frame_refused {x} e =
      answers-refused result x (take_bytes q (sent_in f).message b) b
      (rw (← sets_same) (chain-refused _ _ _ _ x (taking q (sent_in f).message (book_in b)) (sym e)))

  passed : {u : Unit {0}} → Ok u ≡ answer
      → Passed (all (set_fits (members_in b)) (list_of f.views)) (eqb f.view.0 (id_of v)) (has v.set q) (ltb (get_or b taken_at 0) max_ordered)
  unfolding frame_answer
  passed e = chain-passed _ _ _ _ (sym e)

  pub frame-sender : {u : Unit {0}} → Ok u ≡ answer → has v.set q ≡ true
  frame-sender e = (passed e).sender

  pub frame-room : {u : Unit {0}} → Ok u ≡ answer → get_or b taken_at 0 < max_ordered
  frame-room e = ltb-true _ _ (passed e).room

  pub frame-taken : {u : Unit {0}} → Ok u ≡ answer → (y : Reply) (d : List ℕ)
      → Answered (taking q (sent_in f).message (book_in b)) (take_bytes q (sent_in f).message b) b y d
      → Answered result (take_bytes q (sent_in f).message b) b y d
  unfolding book_in record_in need
  frame-taken e y d a =
      let p = passed e in
      rw (← sets_same, p.sets, p.view, p.sender, p.room) a
