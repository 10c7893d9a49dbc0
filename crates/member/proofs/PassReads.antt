-- What pass gives out, deliver reads as that message, sent in the carrier view.
use mathlib.Core.Path.{◌≡◌, refl, sym, ap, ◌∙◌}
use mathlib.Core.Logic.{⊎_elim}
use mathlib.Core.Bool.{true, false}
use Rattle.std.specs.Prelude.{None, Some, Ok}
use mathlib.Core.List.{List, [], ◌∷◌}
use Prim.Native.Nat.{ℕ, zero, suc, ◌+◌, ◌^◌, ◌≤◌, ◌<◌}
use native.Mathlib.Omega.{arith}
use lib.ListN.{get_or}
use Rattle.views.specs.declared.View.{View}
use Rattle.views.specs.declared.refusal.Refusal.{Refusal}
use Rattle.views.specs.Limits.{max_views}
use Rattle.views.specs.Lists.{id_of}
use Rattle.views.proofs.SetLaws.{known}
use Rattle.views.proofs.PlaceLaws.{length-places}
use Rattle.wire.specs.Widths.{AreBytes, Fits}
use Rattle.wire.specs.Reader.{view_in, views_in}
use Rattle.wire.specs.Single.{read_one}
use Rattle.wire.specs.Writer.{frame_bytes, frame_verdict}
use Rattle.wire.proofs.TripViews.{get-fits, views-fit}
use Rattle.wire.proofs.TripMessages.{client-number}
use Rattle.wire.proofs.ReaderLaws.{list-views_in}
use Rattle.rules.specs.Data.{Message, Entry, entry, Result, accepted, with_first}
use Rattle.rules.specs.Member.{Passing, passing, outgoes}
use Rattle.rules.specs.Alone.{sent_of, pass_alone, passed_bytes}
use Rattle.rules.proofs.Alone.Written.{written-sent}
use Rattle.slots.specs.Slots.{kind_in, number_in, message_in, entry_in, entries_in}
use Rattle.slots.specs.FrameParts.{framed, frame_at}
use Rattle.slots.proofs.Frames.{EntryOk, frame-carried, frame-views, frame-message}
use Rattle.book_bytes.specs.Places.{carrier_at, outgoing_at}
use Rattle.book_bytes.specs.Records.{flag_in, record_in}
use Rattle.book_bytes.specs.Books.{book_in}
use Rattle.member.specs.Calls.{pass_call}
use Rattle.member.proofs.CallLaws.{need-gave, called-gave}
use Rattle.member.proofs.CallMeans.{view-gave, after-gave}
use Rattle.member.proofs.PassLaws.{first_at, first_frame, first-few}

-- ---- what a pass that was accepted had

first-gave : {A B : Type 0} (l : List B) (r : Refusal) (f : B → List B → Result A) (y : A) → with_first l r f ≡ accepted y
    → (x : B) × (rest : List B) × (l ≡ x ∷ rest) × (f x rest ≡ accepted y)
unfolding with_first
first-gave [] r f y e = let z : ◌≡◌ {A = ℕ} 0 1 = cc in absurd (omega arith)
first-gave (x ∷ l) r f y e = (x, l, refl, e)

-- ---- the book's own first entry and carrier view

entries-some : (b : List ℕ) (s n : ℕ) (e : Entry) (l : List Entry) → entries_in b s n ≡ e ∷ l → (0 < n) × (e ≡ entry_in b s)
unfolding entries_in
entries-some b s zero e l h = let z : ◌≡◌ {A = ℕ} 0 1 = cc in absurd (omega arith)
entries-some b s (suc n) e l h = let k : e ≡ entry_in b s = cc in (omega arith, k)

outgoing-first : (b : List ℕ) (e : Entry) (l : List Entry) → (book_in b).outgoing ≡ e ∷ l → (0 < get_or b outgoing_at 0) × (e ≡ entry_in b first_at)
unfolding book_in
outgoing-first b e l h = entries-some b first_at (get_or b outgoing_at 0) e l h

carrier-view : (b : List ℕ) (v : View) → (book_in b).carrier.view ≡ Some v → view_in b (carrier_at + 1) ≡ v
unfolding book_in record_in
carrier-view b v e =
    ⊎_elim (λ (t : flag_in b carrier_at ≡ true). let k : Some (view_in b (carrier_at + 1)) ≡ Some v = rw t at e in cc)
    (λ (t : flag_in b carrier_at ≡ false). let k : None ≡ Some v = rw t at e in let z : ◌≡◌ {A = ℕ} 0 1 = cc in absurd (omega arith))
    (known (flag_in b carrier_at))

-- ---- the frame of an entry in bytes is within its widths

frame-fits : (b : List ℕ) (at g : ℕ) → AreBytes b → g < 256 ^ 4 → framed b at ≤ max_views → Fits (frame_at b at g)
unfolding frame_at
frame-fits b at g bytes h few = record {
  view = h;
  entry = λ x e. let k = client-number (kind_in b at) (number_in b at) x e in rw k (get-fits b _ 8 bytes);
  each = rw (list-views_in b (at + 11) (framed b at) few) (views-fit b (at + 11) (framed b at) bytes);
  room = length-places (views_in b (at + 11) (framed b at));
}

-- so it is read as the entry's message
sent-at : (b : List ℕ) (at g : ℕ) → EntryOk b at → Fits (frame_at b at g) → frame_verdict (frame_at b at g) ≡ Ok tt
    → sent_of (read_one (frame_bytes (frame_at b at g))) ≡ accepted (record { view = g; message = message_in b at })
unfolding frame_at
sent-at b at g ok fit v = written-sent (frame_at b at g) (message_in b at) fit v (frame-carried b at g ok) (frame-views b at g ok)

-- ---- together

module _ (b : List ℕ) (bytes : AreBytes b) where
  pub passed_reads : (room : ℕ) (x : Passing) → pass_call room b ≡ accepted x → (q : ℕ) (m : Message) → x.first ≡ entry q m
      → sent_of (read_one (passed_bytes x)) ≡ accepted (record { view = id_of x.to; message = m })
  unfolding pass_call pass_alone passing
  passed_reads room x e q m is =
      let (a, r) = called-gave b _ x e in
      let (y, p, g) = after-gave (passing (book_in b)) _ x r in
      let same : accepted y ≡ accepted x = (need-gave _ _ _ _ g).1 in
      let (v, carrier, p1) = view-gave (book_in b).carrier.view _ _ y p in
      let (first, rest, out, p2) = first-gave (book_in b).outgoing _ _ y p1 in
      let (Some-out, entry-is) = outgoing-first b first rest out in
      let made : record { to = v; first = first; book = outgoes rest (book_in b) } ≡ x = cc in
      let to_is : view_in b (carrier_at + 1) ≡ x.to = carrier-view b v carrier ∙ ap (λ (z : Passing). z.to) made in
      let first-is : x.first ≡ entry_in b first_at = ap (λ (z : Passing). z.first) (sym made) ∙ entry-is in
      let message-is : m ≡ message_in b first_at = cc in
      let id = id_of x.to in
      let wide : id < 256 ^ 4 = rw (← to_is) (get-fits b (carrier_at + 1) 4 bytes) in
      let (ok, accepts) = first_frame b a.sound Some-out id in
      let read = sent-at b first_at id ok (frame-fits b first_at id bytes wide (first-few b a.sound Some-out)) accepts in
      rw (first-is, message-is, ← frame-message b first_at id ok) read
