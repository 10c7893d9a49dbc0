-- Deliver: what the reader gave, and the member's answer to it.
use mathlib.Core.Path.{◌≡◌, refl, sym, ap, subst, ◌∙◌}
use Rattle.std.specs.Prelude.{None, Option, Some, Ok, Err, IsOk, is_ok, MatchResult}
use Rattle.std.specs.Prelude.{Result as Outcome}
use mathlib.Core.Bool.{Bool, true, true≢false}
use mathlib.Core.List.{List, [], ◌∷◌}
use Prim.Native.Nat.{ℕ, suc, ◌+◌, ◌-◌, ◌*◌, ◌≤◌, ◌<◌}
use native.Mathlib.Omega.{arith}
use borrow.Author.Tests.{eqb-true, leb-true, le-ltb}
use lib.Dec.{eqb, leb}
use lib.ListN.{length, take, drop}
use lib.Seq.{take_all}
use Rattle.views.specs.declared.View.{View}
use Rattle.views.specs.declared.refusal.Refusal.{Refusal}
use Rattle.views.specs.declared.refusal.Refusal.TheVariants.{NoSuchMember, NoCarrierView}
use Rattle.views.specs.Refusals.{Verdict, verdict_given, and_then, left}
use Rattle.views.specs.Limits.{max_views}
use Rattle.views.specs.Sizes.{view_size}
use Rattle.views.specs.Lists.{list_of}
use Rattle.views.proofs.SetLaws.{both_true}
use Rattle.views.proofs.VerdictLaws.{after-ok, after-given, given-ok, given-err, given-met}
use Rattle.wire.specs.declared.Frame.{Frame}
use Rattle.wire.specs.declared.Message.TheVariants.{Info}
use Rattle.wire.specs.declared.Reading.{Reading}
use Rattle.wire.specs.Format.{views_allowed}
use Rattle.wire.specs.Reader.{kind_in, views_at, view_count, views_in, number_in, message_of as message_in, scan_of, frame_in, read_front, front_of}
use Rattle.wire.specs.Single.{read_one}
use Rattle.wire.proofs.FormatLaws.{views-few}
use Rattle.wire.proofs.ReaderLaws.{length-views_in, list-views_in}
use Rattle.wire.proofs.TripMessages.{Kind}
use Rattle.wire.proofs.TripRead.{Scanned, scanned, front-met, front-is}
use Rattle.wire.proofs.RoundTrip.{read-takes-all}
use Rattle.rules.specs.Data.{Book as Ruled, ok, Result, refused, accepted, need, with_view, after}
use Rattle.rules.specs.Member.{Done, all}
use Rattle.rules.specs.Sound.{set_fits}
use Rattle.rules.specs.Alone.{Sent, message_of, views_of, sent_in, sent_of, deliver_alone}
use Rattle.rules.proofs.Holding.{Holds, gives, holds-from, need-holds, view-holds, after_holds}
use Rattle.book_bytes.specs.Places.{carrier_at}
use Rattle.book_bytes.specs.Records.{seat_in, record_in}
use Rattle.book_bytes.specs.Books.{book_in, bytes_sound, members_in, own_in_book}
use Rattle.events.specs.Replies.{Reply, replied, reply_of, verdict_of}
use Rattle.events.proofs.ReplyLaws.{accepts}
use Rattle.book_steps.specs.Acts.{take_bytes, few_open}
use Rattle.book_steps.proofs.Committed.{Answered}
use Rattle.member.specs.Calls.{taken_bytes, deliver_call, deliver_bytes, Gave}
use Rattle.member.specs.Parts.{admitted, sent_as, arriving, delivering, Took, message_call, GaveFront}
use Rattle.member.proofs.CallLaws.{sound-called, called-admitted, call-done}
use Rattle.member.proofs.CallMeans.{call-read}

-- ---- a frame that was read has its message's views, no more and no fewer

none_of : (l : List View) → eqb (length l) 0 ≡ true → l ≡ []
none_of [] h = refl
none_of (v ∷ l) h = absurd (omega (arith, eqb-true (suc (length l)) 0 h))

kind-carries : (kind x : ℕ) (l : List View) → Kind kind → views_allowed kind (length l) ≡ true → l ≡ views_of (message_of (message_in kind x) l)
unfolding views_allowed message_in
kind-carries kind x l Kind.client a = none_of l a
kind-carries kind x [] Kind.info a = absurd (true≢false (sym a))
kind-carries kind x (v ∷ l) Kind.info a = refl
kind-carries kind x l Kind.registered a = none_of l a
kind-carries kind x l Kind.told a = none_of l a

some-allowed : (kind x n : ℕ) → Kind kind → message_in kind x ≡ Info → views_allowed kind n ≡ true → 1 ≤ n
unfolding views_allowed message_in
some-allowed kind x n Kind.client e a = let z : ◌≡◌ {A = ℕ} 0 1 = cc in absurd (omega arith)
some-allowed kind x n Kind.info e a = leb-true 1 n (both_true (leb 1 n) (leb n max_views) a).0
some-allowed kind x n Kind.registered e a = let z : ◌≡◌ {A = ℕ} 0 1 = cc in absurd (omega arith)
some-allowed kind x n Kind.told e a = let z : ◌≡◌ {A = ℕ} 0 1 = cc in absurd (omega arith)

-- all bytes of a list are the list
pub all_of : (l : List ℕ) → take (length l - 0) (drop 0 l) ≡ l
all_of l = take_all (length l - 0) l (omega arith)

-- bytes that have the shape of a message
module _ (b : List ℕ) (scan : scan_of b ≡ Ok tt) where
  abbrev carried : List View
  carried = views_in b views_at (view_count b)

  shape : Scanned b
  shape = scanned b scan

  pub scan-few : view_count b ≤ max_views
  scan-few = views-few (kind_in b) (view_count b) shape.views

  pub scan-size : views_at + view_size * view_count b + 1 ≤ length b
  scan-size = omega (arith, shape.size)

  -- its views are those in their places
  pub scan-views : carried ≡ list_of (frame_in b).views
  scan-views = sym (list-views_in b views_at (view_count b) scan-few)

  pub scan-sets : (n : ℕ) (t : Bool) → t ≡ all (set_fits n) carried → t ≡ all (set_fits n) (list_of (frame_in b).views)
  scan-sets n t e = e ∙ ap (all (set_fits n)) scan-views

  pub scan-carries : list_of (frame_in b).views ≡ views_of (sent_in (frame_in b)).message
  scan-carries =
      rw (← scan-views) (kind-carries (kind_in b) (number_in b) carried shape.kind (rw (length-views_in b views_at (view_count b)) shape.views))

  -- an info has a view
  pub scan-some : message_in (kind_in b) (number_in b) ≡ Info → 1 ≤ view_count b
  scan-some e = some-allowed (kind_in b) (number_in b) (view_count b) shape.kind e shape.views

-- ---- the message that was read, by the verdict on it and the frame that the bytes hold

ok-gives : (v : Outcome Reading Refusal) → IsOk v → (r : Reading) × (v ≡ Ok r)
ok-gives (Ok r) e = (r, refl)
ok-gives (Err x) e = absurd (true≢false (sym e))

pub gives-ok : {r : Reading} {v : Outcome Reading Refusal} → v ≡ Ok r → IsOk v
gives-ok {v = v} e = rw e refl

pub shaped : (b : List ℕ) → IsOk (read_front b) → scan_of b ≡ Ok tt
shaped b e = let (r, read) = ok-gives (read_front b) e in (front-met b read).0

read-sent : (f : Frame) (v : Outcome Reading Refusal) → ((r : Reading) → v ≡ Ok r → f ≡ r.frame) → sent_as (verdict_given v) f ≡ sent_of v
read-sent f (Ok r) h = ap (λ (z : Frame). accepted (sent_in z)) (h r refl)
read-sent f (Err x) h = refl

frame-read : (b : List ℕ) (r : Reading) → read_front b ≡ Ok r → frame_in b ≡ r.frame
frame-read b r e = ap (λ (y : Reading). y.frame) (sym (front-is b e))

front-sent : (b : List ℕ) → sent_as (verdict_given (front_of b)) (frame_in b) ≡ sent_of (read_front b)
front-sent b =
    ap (λ (v : Verdict). sent_as v (frame_in b)) (after-given (read_front b) (λ r. r.taken)) ∙ read-sent (frame_in b) (read_front b) (frame-read b)

one-sent : (b : List ℕ) → sent_as (verdict_given (read_one b)) (frame_in b) ≡ sent_of (read_one b)
one-sent b = read-sent (frame_in b) (read_one b) (λ r e. frame-read b r (read-takes-all b e).0)

-- the verdict that is made of what the reader's test gives
pub verdict-made : (b : List ℕ) (f : Outcome ℕ Refusal) (P : ℕ → Type 0) (v : Verdict) → f ≡ front_of b → is_ok v ≡ is_ok f
    → MatchResult f P (λ e. v ≡ Err e) → v ≡ verdict_given (front_of b)
verdict-made b (Ok n) P (Ok u) e s h = sym (given-ok (sym e))
verdict-made b (Ok n) P (Err x) e s h = cc
verdict-made b (Err x) P v e s h = h ∙ sym (given-err (sym e))

-- what was accepted at the front had been read
pub front-ok : (b : List ℕ) → verdict_given (front_of b) ≡ Ok tt → IsOk (read_front b)
front-ok b e = let (r, read) = given-met (read_front b) (sym (after-given (read_front b) (λ r. r.taken)) ∙ e) in gives-ok read

-- ---- the answer, with the carrier view as it was loaded

pub reply-verdict : (r : Result Done) → verdict_given (reply_of r) ≡ verdict_of r
reply-verdict (refused x) = refl
reply-verdict (accepted d) = refl

-- with a carrier view and a message
arrives : (n q : ℕ) (b : Ruled) (v : View) (x : Sent) (read : Result Sent) → b.carrier.view ≡ Some v → read ≡ accepted x
    → delivering n read q b ≡ arriving n v x q b
unfolding with_view after
arrives n q b v x read e f =
    ap (λ (o : Option View). with_view o NoCarrierView (λ w. after read (λ y. arriving n w y q b))) e
    ∙ ap (λ (z : Result Sent). after z (λ y. arriving n v y q b)) f

module _ (b : List ℕ) (f : Frame) (read : Verdict) (q : ℕ) where
  abbrev sent : Result Sent
  sent = sent_as read f

  abbrev result : Result Done
  result = delivering (members_in b) sent q (book_in b)

  took-refused : (x : Refusal) → result ≡ refused x → Took sent q b b (Err x)
  unfolding left
  took-refused x e = record { verdict = ap verdict_of (sym e); book = refl }

  pub read-unseated : seat_in b carrier_at ≡ None → Took sent q b b (Err NoCarrierView)
  unfolding book_in record_in with_view
  read-unseated e = took-refused NoCarrierView (rw e refl)

  module _ (v : View) (seated : seat_in b carrier_at ≡ Some v) where
    pub read-carrier : (book_in b).carrier.view ≡ Some v
    unfolding book_in record_in
    read-carrier = seated

    pub read-refused : {x : Refusal} → read ≡ Err x → Took sent q b b (Err x)
    unfolding with_view after
    read-refused {x} t = let k : sent ≡ refused x = rw t refl in took-refused x (rw (read-carrier, k) refl)

    pub read_done : {u : Unit {0}} → read ≡ Ok u → (y : Reply) (d : List ℕ)
        → Answered (arriving (members_in b) v (sent_in f) q (book_in b)) (take_bytes q (sent_in f).message b) b y d → Took sent q b d (verdict_given y)
    read_done t y d (e, g) =
        let r = arriving (members_in b) v (sent_in f) q (book_in b) in
        let k : sent ≡ accepted (sent_in f) = rw t refl in
        let is : result ≡ r = arrives (members_in b) q (book_in b) v (sent_in f) sent read-carrier k in
        let new : taken_bytes sent q b ≡ take_bytes q (sent_in f).message b = ap (λ (z : Result Sent). taken_bytes z q b) k in
        let w : verdict_given y ≡ verdict_of r = ap verdict_given e ∙ reply-verdict r in
        record { verdict = w ∙ ap verdict_of (sym is); book = g ∙ (λ i. left (sym w i) (sym new i) b) }

-- ---- deliver of what was read, after 4 and 6

-- a message that is taken is no outward event
taken-silent : (n : ℕ) (read : Result Sent) (q : ℕ) (b : Ruled) → Holds (λ (d : Done). d.answer ≡ ok) (delivering n read q b)
unfolding few_open after
taken-silent n read q b =
    view-holds b.carrier.view _ _ (λ v _.
    after_holds (λ (x : Sent). Unit {0}) read _ (holds-from read (λ x _. tt)) (λ x _.
    need-holds _ _ _ (λ _. need-holds _ _ _ (λ _. need-holds _ _ _ (λ _. need-holds _ _ _ (λ _. need-holds _ _ _ (λ _. gives refl)))))))

silent : (r : Result Done) → Holds (λ (d : Done). d.answer ≡ ok) r → replied (verdict_of r) None ≡ reply_of r
unfolding and_then
silent (refused x) h = refl
silent (accepted d) (gives e) = rw e refl

module _ (b bytes : List ℕ) (q : ℕ) where
  -- the bytes as one message
  pub one-done : {u : Unit {0}} → Ok u ≡ admitted b → (read : Verdict) → read ≡ verdict_given (read_one bytes) → (w : Verdict) (d : List ℕ)
      → Took (sent_as read (frame_in bytes)) q b d w → Gave (deliver_call bytes q b) (deliver_bytes bytes q b) b d (replied w None)
  unfolding deliver_call deliver_bytes deliver_alone few_open after
  one-done e read r w d g =
      let sent = sent_of (read_one bytes) in
      let k : sent_as read (frame_in bytes) ≡ sent = ap (λ (y : Verdict). sent_as y (frame_in bytes)) r ∙ one-sent bytes in
      let h : Took sent q b d w = subst (λ (s : Result Sent). Took s q b d w) k g in
      let result = delivering (members_in b) sent q (book_in b) in
      call-done b _ _ e (replied w None) d (
        ap (λ (x : Verdict). replied x None) h.verdict ∙ silent result (taken-silent (members_in b) sent q (book_in b)),
        h.book ∙ ap (λ (x : Verdict). left x (taken_bytes sent q b) b) h.verdict,
      )

  -- the message at their front: 6
  module _ (sound : bytes_sound b ≡ true) where
    pub front-beyond : members_in b ≤ own_in_book b → GaveFront bytes q b b (Err NoSuchMember)
    unfolding deliver_alone need and_then left
    front-beyond h =
        let k : message_call (sent_of (read_front bytes)) q b ≡ refused NoSuchMember = sound-called b _ sound ∙ rw (le-ltb _ _ h) in
        record { reply = rw k refl; book = refl }

    -- then what was read
    module _ (i : own_in_book b < members_in b) (v : Verdict) (e : v ≡ verdict_given (front_of bytes)) (d : List ℕ) where
      abbrev read_here : Result Sent
      read_here = sent_of (read_front bytes)

      took-read : {w : Verdict} → Took (sent_as v (frame_in bytes)) q b d w → Took read_here q b d w
      took-read {w} g = subst (λ (s : Result Sent). Took s q b d w) (ap (λ (y : Verdict). sent_as y (frame_in bytes)) e ∙ front-sent bytes) g

      call-same : message_call read_here q b ≡ delivering (members_in b) read_here q (book_in b)
      unfolding deliver_alone few_open after
      call-same = called-admitted b (delivering (members_in b) read_here q (book_in b)) (record { sound = sound; member = i })

      pub front-stopped : {x : Refusal} → Took (sent_as v (frame_in bytes)) q b d (Err x) → GaveFront bytes q b d (Err x)
      unfolding and_then left
      front-stopped g =
          let h = took-read g in
          let k = sym (h.verdict ∙ ap verdict_of (sym call-same)) in
          record { reply = rw k refl; book = h.book }

      pub front-done : {u : Unit {0}} → Took (sent_as v (frame_in bytes)) q b d (Ok u) → (f : Outcome ℕ Refusal) → f ≡ front_of bytes
          → GaveFront bytes q b d f
      unfolding and_then left
      front-done g f is =
          let h = took-read g in
          let k = sym (h.verdict ∙ ap verdict_of (sym call-same)) in
          let (y, done) = accepts _ k in
          let (r, read) = call-read bytes q b y done in
          let front : f ≡ Ok r.taken = is ∙ after-ok _ read in
          record { reply = is ∙ rw k refl; book = h.book ∙ rw front refl }
