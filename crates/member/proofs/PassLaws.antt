-- Pass: the first outgoing message of a sound book is one that the writer takes, so its bytes are those of the rule and only 39 is left to refuse it.
use mathlib.Core.Path.{◌≡◌, refl, subst, sym, ap, ◌∙◌}
use mathlib.Core.Logic.{⊎_elim}
use mathlib.Core.Bool.{true, false, not}
use Rattle.std.specs.Prelude.{None, Some, Ok, Err}
use Rattle.std.specs.Prelude.{Result as Outcome}
use mathlib.Core.List.{List, [], ◌∷◌}
use Prim.Native.Nat.{ℕ, zero, suc, ◌+◌, ◌≤◌, ◌<◌}
use native.Mathlib.Omega.{arith}
use borrow.Author.Tests.{leb-true, le-leb, not-true}
use lib.Dec.{leb}
use lib.ListN.{length, get_or}
use Rattle.views.specs.declared.View.{View}
use Rattle.views.specs.declared.ViewId.{ViewId}
use Rattle.views.specs.declared.refusal.Refusal.{Refusal}
use Rattle.views.specs.declared.refusal.Refusal.TheVariants.{NoCarrierView, NoneOutgoing, BufferTooShort}
use Rattle.views.specs.Refusals.{require, and_then, left}
use Rattle.views.specs.Limits.{max_views, max_ordered}
use Rattle.views.specs.Sets.{is_empty, is_beyond}
use Rattle.views.specs.Lists.{id_of, is_rising, list_of}
use Rattle.views.proofs.SetLaws.{known, both_true}
use Rattle.views.proofs.Members.{In, top}
use Rattle.views.proofs.VerdictLaws.{then-given, then-met}
use Rattle.wire.specs.declared.Frame.{Frame}
use Rattle.wire.specs.declared.Message.{Message as Carried}
use Rattle.wire.specs.Format.{kind_of, views_allowed, some_empty, told_fits, content_of}
use Rattle.wire.specs.Writer.{number_of, frame_bytes, frame_verdict, write_verdict, frame_from, LiesAt, Wrote}
use Rattle.wire.proofs.ReaderLaws.{list-views_in}
use Rattle.rules.specs.Data.{Book as Ruled, Message, client, info, registered, told, Entry, entry, Result, refused, accepted, need, with_view, with_first, after}
use Rattle.rules.specs.Member.{Passing, passing, outgoes, all}
use Rattle.rules.specs.Sound.{within, count_fits, set_fits, opens_rise}
use Rattle.rules.specs.Alone.{views_of, carried_of, sets_fit, pass_alone, book_sound, passed_bytes}
use Rattle.rules.proofs.TestLaws.{all-at, conditions-say, both-from, within-says}
use Rattle.slots.specs.Slots.{slot_size, kind_in, number_in, message_in, entry_in, entries_in}
use Rattle.slots.specs.FrameParts.{framed, carried_at, frame_at}
use Rattle.slots.proofs.Frames.{EntryOk, number_at, frame-carried, frame-views, frame-message, slot-framed}
use Rattle.slots.proofs.Lists.{slots-first}
use Rattle.events.specs.Replies.{verdict_of}
use Rattle.book_bytes.specs.Places.{carrier_at, outgoing_at}
use Rattle.book_bytes.specs.Records.{seat_in, record_in}
use Rattle.book_bytes.specs.Books.{outgoing_in, book_in, bytes_sound, members_in}
use Rattle.book_steps.specs.Acts.{pass_bytes}
use Rattle.book_steps.proofs.Committed.{sound-layout}
use Rattle.member.specs.Calls.{pass_call, passed_of, pass_buffer, GaveOut}
use Rattle.member.specs.Parts.{admitted, passing_into, SentOut}
use Rattle.member.proofs.CallLaws.{called, called-admitted, called-refused, admit-says}

-- ---- the frame of a slot, by the parts that are loaded of it

pub parts-frame : (b : List ℕ) (at : ℕ) (view : ViewId) (m : Carried) (n : ℕ) → m ≡ carried_at b at → n ≡ framed b at
    → frame_at b at view.0 ≡ frame_from view m b (at + 11) n
unfolding frame_at
parts-frame b at view m n em en = λ i. frame_from view (sym em i) b (at + 11) (sym en i)

pub wrote-slot : (b : List ℕ) (at : ℕ) (view : ViewId) (m : Carried) (n : ℕ) → m ≡ carried_at b at → n ≡ framed b at
    → (out end : List ℕ) (w : Outcome ℕ Refusal) → Wrote (frame_from view m b (at + 11) n) out end w → Wrote (frame_at b at view.0) out end w
wrote-slot b at view m n em en out end w x = subst (λ (f : Frame). Wrote f out end w) (sym (parts-frame b at view m n em en)) x

-- ---- the frame written, then the message gone

module _ (f : Frame) (b out end : List ℕ) where
  pub out-refused : {x : Refusal} → Wrote f out end (Err x) → SentOut f b b out end (Err x)
  unfolding left
  out-refused {x} w =
      let v : write_verdict f (length out) ≡ Err x = then-given _ _ (sym w.reply) in
      record { reply = w.reply; book = rw v refl; buffer = w.buffer }

  pub out-accepted : {n : ℕ} → Wrote f out end (Ok n) → (d : List ℕ) → d ≡ pass_bytes b → SentOut f b d out end (Ok n)
  unfolding left
  out-accepted w d e =
      let v : write_verdict f (length out) ≡ Ok tt = (then-met _ _ (sym w.reply)).0 in
      record { reply = w.reply; book = rw v e; buffer = w.buffer }

-- ---- what the rule gives

passing-none : (b : Ruled) → b.carrier.view ≡ None → passing b ≡ refused NoCarrierView
unfolding passing with_view
passing-none b e = rw e refl

passing-empty : (b : Ruled) (v : View) → b.carrier.view ≡ Some v → b.outgoing ≡ [] → passing b ≡ refused NoneOutgoing
unfolding passing with_view with_first
passing-empty b v e f = rw (e, f) refl

passing-first : (b : Ruled) (v : View) (x : Entry) (l : List Entry) → b.carrier.view ≡ Some v → b.outgoing ≡ x ∷ l
    → passing b ≡ accepted (record { to = v; first = x; book = outgoes l b })
unfolding passing with_view with_first
passing-first b v x l e f = rw (e, f) refl

-- a refusal gives its number and leaves everything
pub out_none : (b : Ruled) (x : Refusal) → passing b ≡ refused x → (new c out : List ℕ)
    → GaveOut (passing_into (length out) b) new c c out out (Err x)
unfolding after left
out_none b x e new c out = record { reply = rw e refl; book = rw e refl; buffer = rw e refl }

-- ---- an entry that the writer takes

none-empty : (n : ℕ) (l : List View) → all (set_fits n) l ≡ true → some_empty l ≡ false
unfolding all some_empty
none-empty n [] h = refl
none-empty n (v ∷ l) h =
    let t = both_true (set_fits n v) (all (set_fits n) l) h in
    let e : is_empty v.set ≡ false = not-true _ (both_true (not (is_empty v.set)) (not (is_beyond v.set n)) t.0).0 in
    rw e (none-empty n l t.1)

message-content : (n q : ℕ) (m : Message) → count_fits (entry q m) ≡ true → sets_fit n (entry q m) ≡ true → opens_rise (entry q m) ≡ true
    → (views_allowed (kind_of (carried_of m)) (length (views_of m)) ≡ true) × (content_of (kind_of (carried_of m)) (views_of m) (number_of (carried_of m)) ≡ Ok tt)
unfolding views_allowed content_of some_empty is_rising told_fits require
message-content n q (client x) c s o = (refl, refl)
message-content n q (info v l) c s o =
    let few : length l + 1 ≤ max_views = leb-true _ _ c in
    (both-from _ _ (le-leb 1 (length (v ∷ l)) (omega arith)) (le-leb (length (v ∷ l)) max_views (omega arith)), rw (none-empty n (v ∷ l) s, o) refl)
message-content n q registered c s o = (refl, refl)
message-content n q (told k) c s o = (refl, rw c refl)

-- a frame that carries the message is accepted
frame-accepted : (f : Frame) (m : Message) → f.message ≡ carried_of m → list_of f.views ≡ views_of m → f.views.count ≡ length (views_of m)
    → views_allowed (kind_of (carried_of m)) (length (views_of m)) ≡ true → content_of (kind_of (carried_of m)) (views_of m) (number_of (carried_of m)) ≡ Ok tt
    → frame_verdict f ≡ Ok tt
unfolding frame_verdict require
frame-accepted f m e l c a w = rw (e, l, c, a) w

-- ---- the first of a queue

entries-first : (b : List ℕ) (s n : ℕ) → 0 < n → (l : List Entry) × (entries_in b s n ≡ entry_in b s ∷ l)
unfolding entries_in
entries-first b s zero h = absurd (omega arith)
entries-first b s (suc n) h = (entries_in b (s + slot_size) n, refl)

told-small : (b : List ℕ) (at q : ℕ) → count_fits (entry q (message_in b at)) ≡ true → kind_in b at ≡ 4 → number_in b at < 256
unfolding message_in
told-small b at q h k =
    let w : within 1 (number_in b at) max_ordered ≡ true = rw k at h in
    omega (arith, (within-says 1 (number_in b at) max_ordered w).1)

frame-count : (b : List ℕ) (at g : ℕ) → framed b at ≤ max_views → (frame_at b at g).views.count ≡ length (list_of (frame_at b at g).views)
unfolding frame_at
frame-count b at g few = sym (ap length (list-views_in b (at + 11) (framed b at) few))

-- ---- the first outgoing message of a sound book

record FirstSays (n : ℕ) (e : Entry) : Type 0 where
  count : count_fits e ≡ true
  sets : sets_fit n e ≡ true
  opens : opens_rise e ≡ true

outgoing-says : (b : List ℕ) → bytes_sound b ≡ true → (e : Entry) → In e (outgoing_in b) → FirstSays (members_in b) e
unfolding bytes_sound book_sound book_in
outgoing-says b h e i =
    let (_, (s, _)) = conditions-say _ h in
    let (_, (_, (_, (c, (_, (_, (_, (t, (_, (o, _)))))))))) = conditions-say _ s in
    record { count = all-at count_fits (outgoing_in b) c e i; sets = all-at (sets_fit (members_in b)) (outgoing_in b) t e i; opens = all-at opens_rise (outgoing_in b) o e i }

abbrev pub first_at : ℕ
first_at = outgoing_at + 1

-- the frame of the first message, written and gone, is the rule's answer
out-as : (f : Frame) (x : Passing) (b d out end : List ℕ) (r : Outcome ℕ Refusal) → frame_verdict f ≡ Ok tt → frame_bytes f ≡ passed_bytes x
    → SentOut f b d out end r → GaveOut (need (leb (length (passed_bytes x)) (length out)) BufferTooShort (accepted x)) (pass_bytes b) b d out end r
unfolding write_verdict and_then require need left
out-as f x b d out end r a e o =
    ⊎_elim (λ (t : leb (length (passed_bytes x)) (length out) ≡ true).
    let v : write_verdict f (length out) ≡ Ok tt = rw (a, e, t) refl in
    record { reply = o.reply ∙ rw (v, t, e) refl; book = o.book ∙ rw (v, t) refl; buffer = o.buffer ∙ rw (v, t, e) refl })
    (λ (t : leb (length (passed_bytes x)) (length out) ≡ false).
    let v : write_verdict f (length out) ≡ Err BufferTooShort = rw (a, e, t) refl in
    record { reply = o.reply ∙ rw (v, t) refl; book = o.book ∙ rw (v, t) refl; buffer = o.buffer ∙ rw (v, t) refl })
    (known (leb (length (passed_bytes x)) (length out)))

module _ (b : List ℕ) (sound : bytes_sound b ≡ true) where
  -- the frame of the first outgoing message, sent in any view, is one that the writer accepts
  pub first_frame : 0 < get_or b outgoing_at 0 → (g : ℕ) → EntryOk b first_at × (frame_verdict (frame_at b first_at g) ≡ Ok tt)
  first_frame h g =
      let (l, first) = entries-first b first_at (get_or b outgoing_at 0) h in
      let says = outgoing-says b sound (entry_in b first_at) (rw first top) in
      let slot = slots-first b first_at (get_or b outgoing_at 0) h (sound-layout b sound).slots in
      let ok : EntryOk b first_at = record { fits = slot; told = told-small b first_at (get_or b first_at 0) says.count } in
      let content = message-content (members_in b) (get_or b first_at 0) (message_in b first_at) says.count says.sets says.opens in (
        ok,
        frame-accepted (frame_at b first_at g) (message_in b first_at) (frame-carried b first_at g ok) (frame-views b first_at g ok)
            (frame-count b first_at g (slot-framed b first_at slot) ∙ ap length (frame-views b first_at g ok)) content.0 content.1,
      )

  pub first-lies : 0 < get_or b outgoing_at 0 → LiesAt (carried_at b first_at) b (first_at + 2)
  first-lies h = number_at b first_at (first_frame h 0).0

  pub first-few : 0 < get_or b outgoing_at 0 → framed b (outgoing_at + 1) ≤ max_views
  first-few h = slot-framed b first_at (slots-first b first_at (get_or b outgoing_at 0) h (sound-layout b sound).slots)

  pub pass-unseated : (out : List ℕ) → seat_in b carrier_at ≡ None
      → GaveOut (passing_into (length out) (book_in b)) (pass_bytes b) b b out out (Err NoCarrierView)
  unfolding book_in record_in
  pass-unseated out e = out_none (book_in b) NoCarrierView (passing-none (book_in b) e) (pass_bytes b) b out

  module _ (v : View) (seated : seat_in b carrier_at ≡ Some v) where
    carrier-is : (book_in b).carrier.view ≡ Some v
    unfolding book_in record_in
    carrier-is = seated

    out-is : (l : List Entry) → entries_in b first_at (get_or b outgoing_at 0) ≡ entry_in b first_at ∷ l → (book_in b).outgoing ≡ entry_in b first_at ∷ l
    unfolding book_in
    out-is l e = e

    pub pass-emptied : (out : List ℕ) → get_or b outgoing_at 0 ≡ 0
        → GaveOut (passing_into (length out) (book_in b)) (pass_bytes b) b b out out (Err NoneOutgoing)
    unfolding book_in entries_in
    pass-emptied out h =
        let none_out : (book_in b).outgoing ≡ [] = ap (entries_in b first_at) h in
        out_none (book_in b) NoneOutgoing (passing-empty (book_in b) v carrier-is none_out) (pass_bytes b) b out

    pub pass-done : 0 < get_or b outgoing_at 0 → (d out end : List ℕ) (r : Outcome ℕ Refusal)
        → SentOut (frame_at b (outgoing_at + 1) v.id.0) b d out end r → GaveOut (passing_into (length out) (book_in b)) (pass_bytes b) b d out end r
    unfolding after
    pass-done h d out end r o =
        let (l, first) = entries-first b first_at (get_or b outgoing_at 0) h in
        let g = id_of v in
        let (ok, frame) = first_frame h g in
        let x : Passing = record { to = v; first = entry_in b first_at; book = outgoes l (book_in b) } in
        let gives : passing (book_in b) ≡ accepted x = passing-first (book_in b) v (entry_in b first_at) l carrier-is (out-is l first) in
        let f = frame_at b first_at g in
        let bytes : frame_bytes f ≡ passed_bytes x = frame-message b first_at g ok in
        rw gives (out-as f x b d out end r frame bytes o)

-- ---- after 4 and 6

module _ (b out : List ℕ) where
  pub pass-refused : {x : Refusal} → Err x ≡ admitted b → GaveOut (pass_call (length out) b) (pass_bytes b) b b out out (Err x)
  unfolding pass_call pass_alone left
  pass-refused {x} e =
      let k : called b (passing_into (length out) (book_in b)) ≡ refused x = called-refused b (passing_into (length out) (book_in b)) x (sym e) in
      record {
        reply = ap passed_of (sym k);
        book = ap (λ (r : Result Passing). left (verdict_of r) (pass_bytes b) b) (sym k);
        buffer = ap (λ (r : Result Passing). pass_buffer r out) (sym k);
      }

  pub pass-given : {u : Unit {0}} → Ok u ≡ admitted b → (d end : List ℕ) (r : Outcome ℕ Refusal)
      → GaveOut (passing_into (length out) (book_in b)) (pass_bytes b) b d out end r → GaveOut (pass_call (length out) b) (pass_bytes b) b d out end r
  unfolding pass_call pass_alone
  pass-given e d end r g =
      let k : called b (passing_into (length out) (book_in b)) ≡ passing_into (length out) (book_in b)
      = called-admitted b (passing_into (length out) (book_in b)) (admit-says b (sym e)) in
      rw k g
