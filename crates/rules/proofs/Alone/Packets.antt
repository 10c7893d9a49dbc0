-- A packet one by one: what can stop it, and that a view's 128 messages bound it.
use mathlib.Core.Path.{◌≡◌, refl, subst}
use mathlib.Core.Logic.{◌⊎◌, inl, inr, ⊎_elim}
use mathlib.Core.Bool.{Bool, true, false}
use Rattle.std.specs.Prelude.{Option, None, Some, Ok, Err}
use mathlib.Core.List.{List, [], ◌∷◌, map}
use Prim.Native.Nat.{ℕ, ◌+◌, ◌≤◌, ◌<◌}
use native.Mathlib.Omega.{arith}
use lib.Dec.{ltb}
use borrow.Author.Tests.{ltb-true}
use Rattle.views.specs.declared.View.{View}
use Rattle.views.specs.declared.refusal.Refusal.{Refusal}
use Rattle.std.specs.Prelude.{Result as Outcome}
use Rattle.views.specs.Refusals.{require, and_then}
use Rattle.views.specs.Limits.{max_ordered}
use Rattle.views.specs.Members.{In, top, pop}
use Rattle.views.proofs.SetLaws.{known}
use Rattle.wire.specs.declared.Reading.{Reading}
use Rattle.wire.specs.Widths.{AreBytes}
use Rattle.wire.specs.Format.{content_of}
use Rattle.wire.specs.Reader.{scan_of, read_front}
use Rattle.wire.specs.Packets.{readings_in}
use Rattle.wire.proofs.PacketTrip.{by-readings, drop-bytes}
use Rattle.rules.specs.Data.{Member, MessageOf, client, info, registered, told, BookOf, Result, refused, accepted, need, with_view, after}
use Rattle.rules.specs.Member.{DoneOf, client_is_carrier, delivered}
use Rattle.rules.specs.Alone.{SentOf, Sent, sent_of, book_sound, alone, deliver_alone, DeliveryOf, onward, deliveries_one_by_one, stops}
use Rattle.rules.proofs.Holding.{Holds, gives, need-holds, view-holds, after_holds, holds-from}
use Rattle.rules.proofs.Alone.Readable.{Given, front-given}

abbrev pub Each : {A : Type 0} → (A → Type 0) → List A → Type 0
Each P [] = Unit {0}
Each P (x ∷ l) = P x × Each P l

-- ---- what can stop a packet

-- if it is refused, then by one of these
abbrev pub StoppedBy : {A : Type 0} → Result A → Type 0
StoppedBy x = (r : Refusal) → x ≡ refused r → In r stops

abbrev Stops : {A : Type 0} → Outcome A Refusal → Type 0
Stops v = (r : Refusal) → v ≡ Err r → In r stops

accepted-stops : {A : Type 0} (x : A) → Stops (Ok x)
accepted-stops x r e = cc

require-stops : {A : Type 0} (c : Bool) (x : Refusal) (v : Outcome A Refusal) → In x stops → Stops v → Stops (require c x v)
unfolding require
require-stops true x v i h r e = h r e
require-stops false x v i h r e = let k : x ≡ r = cc in rw (← k) i

then-stops : {A B : Type 0} (v : Outcome A Refusal) (w : Outcome B Refusal) → Stops v → Stops w → Stops (and_then v w)
unfolding and_then
then-stops (Ok u) w h k r e = k r e
then-stops (Err x) w h k r e = h r cc

-- 32 to 37: all of the reader's
front-stops : (s : List ℕ) → Stops (read_front s)
unfolding read_front scan_of content_of
front-stops s =
    let ends = pop (pop top) in
    let kind = pop (pop (pop top)) in
    let section = pop (pop (pop (pop top))) in
    then-stops _ _
    (require-stops _ _ _ ends (require-stops _ _ _ kind (require-stops _ _ _ ends (require-stops _ _ _ section
    (require-stops _ _ _ ends (require-stops _ _ _ section (require-stops _ _ _ ends (accepted-stops _))))))))
    (then-stops _ _
    (require-stops _ _ _ (pop (pop (pop (pop (pop top))))) (require-stops _ _ _ (pop (pop (pop (pop (pop (pop top)))))) (require-stops _ _ _ (pop (pop (pop (pop (pop (pop (pop top)))))))
    (accepted-stops _))))
    (accepted-stops _))

sent-stops : (v : Outcome Reading Refusal) → Stops v → StoppedBy (sent_of v)
sent-stops (Ok x) h r e = cc
sent-stops (Err x) h r e = h r cc

-- what the reader gives in a packet
abbrev pub Fine : Result Sent → Type 0
Fine read = Given read × StoppedBy read

pub front-fine : (s : List ℕ) → AreBytes s → Fine (sent_of (read_front s))
front-fine s y = (front-given s y, sent-stops (read_front s) (front-stops s))

pub each-fine : (s : List ℕ) → AreBytes s → Each Fine (map sent_of (readings_in s))
each-fine =
    by-readings (λ s l. AreBytes s → Each Fine (map sent_of l))
    (λ s e y. tt)
    (λ s d k e y. (subst (λ (v : Outcome Reading Refusal). Fine (sent_of v)) e (front-fine s y), tt))
    (λ s r l k e f y. (subst (λ (v : Outcome Reading Refusal). Fine (sent_of v)) e (front-fine s y), f (drop-bytes r.taken s y)))

module _ {A : Type 0} where
  gives-stops : (x : A) → StoppedBy (accepted x)
  gives-stops x r e = let z : ◌≡◌ {A = ℕ} 0 1 = cc in absurd (omega arith)

  need-stops : (c : Bool) (x : Refusal) (y : Result A) → In x stops → StoppedBy y → StoppedBy (need c x y)
  unfolding need
  need-stops true x y i h r e = h r e
  need-stops false x y i h r e = let k : x ≡ r = cc in rw (← k) i

  -- a condition that is met
  met-stops : (c : Bool) (x : Refusal) (y : Result A) → c ≡ true → StoppedBy y → StoppedBy (need c x y)
  unfolding need
  met-stops true x y m h r e = h r e
  met-stops false x y m h r e = let z : ◌≡◌ {A = ℕ} 0 1 = cc in absurd (omega arith)

  view-stops : (o : Option View) (x : Refusal) (f : View → Result A) → In x stops → ((v : View) → StoppedBy (f v)) → StoppedBy (with_view o x f)
  unfolding with_view
  view-stops None x f i h r e = let k : x ≡ r = cc in rw (← k) i
  view-stops (Some v) x f i h r e = h v r e

  after-stops : {B : Type 0} (y : Result B) (f : B → Result A) → StoppedBy y → ((z : B) → StoppedBy (f z)) → StoppedBy (after y f)
  unfolding after
  after-stops (refused x) f h k r e = let i : x ≡ r = cc in rw (← i) (h x refl)
  after-stops (accepted z) f h k r e = k z r e

-- on a sound book 4 does not come
pub deliver-stops : {M : Type 0} (n : ℕ) (p : Member) (read : Result (SentOf M)) (q : Member) (b : BookOf M) → book_sound n b ≡ true → StoppedBy read
    → StoppedBy (deliver_alone n p read q b)
unfolding deliver_alone alone
deliver-stops n p read q b sound h =
    met-stops _ _ _ sound
    (need-stops _ _ _ top
    (view-stops b.carrier.view _ _ (pop top) (λ v. after-stops read _ h (λ x.
    need-stops _ _ _ (pop (pop (pop (pop (pop (pop (pop (pop top))))))))
    (need-stops _ _ _ (pop (pop (pop (pop (pop (pop (pop (pop (pop top)))))))))
    (need-stops _ _ _ (pop (pop (pop (pop (pop (pop (pop (pop (pop (pop top))))))))))
    (need-stops _ _ _ (pop (pop (pop (pop (pop (pop (pop (pop (pop (pop (pop top)))))))))))
    (need-stops _ _ _ (pop (pop (pop (pop (pop (pop (pop (pop (pop (pop (pop (pop top))))))))))))
    (gives-stops _)))))))))

-- ---- a view's 128 messages

module _ {M : Type 0} where
  one-taken : (q : Member) (m : MessageOf M) (b : BookOf M) → (delivered q m b).carrier.taken ≡ b.carrier.taken + 1
  unfolding delivered
  one-taken q (client x) b = ⊎_elim (λ (t : client_is_carrier b ≡ true). rw t refl) (λ (t : client_is_carrier b ≡ false). rw t refl) (known (client_is_carrier b))
  one-taken q (info x l) b = refl
  one-taken q registered b = refl
  one-taken q (told k) b = refl

  -- one more was taken, of at most 128
  abbrev Took : BookOf M → DoneOf M → Type 0
  Took b d = (b.carrier.taken < max_ordered) × (d.book.carrier.taken ≡ b.carrier.taken + 1)

  deliver-took : (n : ℕ) (p : Member) (read : Result (SentOf M)) (q : Member) (b : BookOf M) → Holds (Took b) (deliver_alone n p read q b)
  unfolding deliver_alone alone
  deliver-took n p read q b =
      need-holds _ _ _ (λ _.
      need-holds _ _ _ (λ _.
      view-holds b.carrier.view _ _ (λ v c.
      after_holds (λ (x : SentOf M). Unit {0}) read _ (holds-from read (λ x e. tt)) (λ x _.
      need-holds _ _ _ (λ _.
      need-holds _ _ _ (λ _.
      need-holds _ _ _ (λ _.
      need-holds (ltb b.carrier.taken max_ordered) _ _ (λ t.
      need-holds _ _ _ (λ _.
      gives (ltb-true _ _ t, one-taken q x.message b))))))))))

  Fewer : BookOf M → DeliveryOf M → Type 0
  Fewer b x = (x.count ≡ 0) ⊎ (x.count + b.carrier.taken ≤ max_ordered)

  few-onward : (b : BookOf M) (others : BookOf M → DeliveryOf M) (r : Result (DoneOf M)) → Holds (Took b) r → ((c : BookOf M) → Fewer c (others c)) → Fewer b (onward b others r)
  unfolding Fewer
  few-onward b others (refused x) h f = inl refl
  few-onward b others (accepted d) (gives (room, took)) f =
      inr (⊎_elim (λ (z : (others d.book).count ≡ 0). omega (arith, room)) (λ (z : (others d.book).count + d.book.carrier.taken ≤ max_ordered). omega (arith, took)) (f d.book))

  -- what is delivered fits behind what was taken before
  pub few-delivered : (n : ℕ) (p : Member) (l : List (Result (SentOf M))) (q : Member) (b : BookOf M)
      → ((deliveries_one_by_one n p l q b).count ≡ 0) ⊎ ((deliveries_one_by_one n p l q b).count + b.carrier.taken ≤ max_ordered)
  unfolding deliveries_one_by_one Fewer
  few-delivered n p [] q b = inl refl
  few-delivered n p (read ∷ l) q b = few-onward b (λ c. deliveries_one_by_one n p l q c) (deliver_alone n p read q b) (deliver-took n p read q b) (λ c. few-delivered n p l q c)
