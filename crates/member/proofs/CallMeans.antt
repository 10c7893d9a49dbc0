-- An accepted call leaves bytes that are the rule's book, in the layout, of the same member.
use mathlib.Core.Path.{◌≡◌, refl, ◌∙◌}
use mathlib.Core.Bool.{true}
use Rattle.std.specs.Prelude.{Option, None, Some, Ok}
use mathlib.Core.List.{List}
use Prim.Native.Nat.{ℕ, ◌^◌, ◌≤◌, ◌<◌}
use native.Mathlib.Omega.{arith}
use borrow.Author.Tests.{leb-true, ltb-true}
use lib.Dec.{leb, ltb}
use lib.ListN.{length, get_or}
use Rattle.views.specs.declared.View.{View}
use Rattle.views.specs.declared.refusal.Refusal.{Refusal}
use Rattle.views.specs.Limits.{max_members, max_open, max_ordered}
use Rattle.views.specs.Sets.{one, has}
use Rattle.views.specs.Lists.{id_of}
use Rattle.wire.specs.declared.Reading.{Reading}
use Rattle.wire.specs.Reader.{read_front}
use Rattle.wire.specs.Single.{read_one}
use Rattle.wire.proofs.TripViews.{AreBytes}
use Rattle.rules.specs.Data.{Book as Ruled, Message, client, info, registered, told, entry, ok, Result, refused, accepted, with_view, after}
use Rattle.rules.specs.Member.{Done, Passing, passing, delivered, attempts}
use Rattle.rules.specs.Sound.{count_fits}
use Rattle.rules.specs.Alone.{Sent, sent_of, book_sound, alone, join_alone, pass_alone, deliver_alone, attempt_alone}
use Rattle.rules.proofs.TestLaws.{within-says, conditions-say}
use Rattle.rules.proofs.Alone.Readable.{Carries, Given, sent-met, one-given}
use Rattle.slots.proofs.Stored.{MessageFits, told_of}
use Rattle.book_bytes.specs.Places.{taken_at}
use Rattle.book_bytes.specs.Records.{record_in}
use Rattle.book_bytes.specs.Books.{book_in, bytes_sound, members_in, own_in_book}
use Rattle.book_bytes.proofs.StartBook.{fits_byte}
use Rattle.book_steps.specs.Acts.{join_bytes, pass_bytes, take_bytes, attempt_bytes, register_bytes, send_bytes, hand_bytes, tell_bytes, safe_bytes, collect_bytes}
use Rattle.book_steps.proofs.Means.{Means}
use Rattle.book_steps.proofs.MeansSpeak.{register-means, send-means, tell-means}
use Rattle.book_steps.proofs.MeansMarks.{hand-means, safe-means, collect-means}
use Rattle.book_steps.proofs.MeansJoin.{join-means, attempt-means, pass-means}
use Rattle.book_steps.proofs.MeansTake.{take-means}
use Rattle.member.specs.Calls.{join_call, pass_call, taken_bytes, deliver_call, deliver_bytes, attempt_call, register_call, send_call, hand_call, tell_call, safe_call, collect_call}
use Rattle.member.specs.Parts.{message_call}
use Rattle.member.proofs.CallLaws.{need-gave, called-gave}
use Rattle.member.proofs.ArriveLaws.{carrier-mark, sender-small}

-- ---- what an accepted result met

pub view-gave : {A : Type 0} (o : Option View) (r : Refusal) (f : View → Result A) (y : A) → with_view o r f ≡ accepted y → (v : View) × (o ≡ Some v) × (f v ≡ accepted y)
unfolding with_view
view-gave None r f y e = let z : ◌≡◌ {A = ℕ} 0 1 = cc in absurd (omega arith)
view-gave (Some v) r f y e = (v, refl, e)

pub after-gave : {A B : Type 0} (r : Result A) (f : A → Result B) (y : B) → after r f ≡ accepted y → (x : A) × (r ≡ accepted x) × (f x ≡ accepted y)
unfolding after
after-gave (refused x) f y e = let z : ◌≡◌ {A = ℕ} 0 1 = cc in absurd (omega arith)
after-gave (accepted x) f y e = (x, refl, e)

-- a delivery that was accepted had a message to take
pub delivers-read : (n p : ℕ) (read : Result Sent) (q : ℕ) (b : Ruled) (d : Done) → deliver_alone n p read q b ≡ accepted d → (x : Sent) × (read ≡ accepted x)
unfolding deliver_alone alone
delivers-read n p read q b d e =
    let (_, e1) = need-gave _ _ _ _ e in
    let (_, e2) = need-gave _ _ _ _ e1 in
    let (v, _, e3) = view-gave b.carrier.view _ _ d e2 in
    let (x, is, _) = after-gave read _ d e3 in
    (x, is)

-- and where it is the message at the front of bytes, that was read
pub call-read : (s : List ℕ) (q : ℕ) (b : List ℕ) (d : Done) → message_call (sent_of (read_front s)) q b ≡ accepted d → (r : Reading) × (read_front s ≡ Ok r)
call-read s q b d e =
    let (_, alone) = need-gave _ _ _ _ e in
    let (x, is) = delivers-read (members_in b) (own_in_book b) (sent_of (read_front s)) q (book_in b) d alone in
    let (r, read, _) = sent-met (read_front s) x is in
    (r, read)

-- ---- a message that was read

told-byte : (m : Message) → count_fits (entry 0 m) ≡ true → told_of m < 256
told-byte (client x) h = omega arith
told-byte (info v l) h = omega arith
told-byte registered h = omega arith
told-byte (told k) h = omega (arith, (within-says 1 k max_ordered h).1)

carried-fits : (m : Message) → Carries m → MessageFits m
carried-fits m c = record { number = c.number; few = c.few; ids = c.ids }

taken-means : (b : List ℕ) (q : ℕ) (read : Result Sent) (x : Sent) (B : Ruled) (d : Done) → read ≡ accepted x → record { book = B; answer = ok } ≡ d
    → Means b (take_bytes q x.message b) B → Means b (taken_bytes read q b) d.book
taken-means b q read x B d is given m = rw (is, ← given) m

-- ---- the calls

module _ (b : List ℕ) (bytes : AreBytes b) where
  few-members : bytes_sound b ≡ true → members_in b ≤ max_members
  unfolding bytes_sound book_sound
  few-members h = let (_, (s, _)) = conditions-say _ h in (within-says 1 (members_in b) max_members (conditions-say _ s).0).1

  -- a set that fits is one byte
  pub join-call : (v : View) → id_of v < 256 ^ 4 → (d : Done) → join_call v b ≡ accepted d → Means b (join_bytes v b) d.book
  unfolding join_call join_alone
  join-call v w d e =
      let (a, r) = called-gave b _ d e in
      let (set, j) = need-gave _ _ _ _ r in
      join-means b bytes a.sound v (record { id = w; set = fits_byte _ _ (few-members a.sound) set }) d j

  pub pass-call : (room : ℕ) (x : Passing) → pass_call room b ≡ accepted x → Means b (pass_bytes b) x.book
  unfolding pass_call pass_alone
  pass-call room x e =
      let (a, r) = called-gave b _ x e in
      let (y, p, g) = after-gave (passing (book_in b)) _ x r in
      let same : accepted y ≡ accepted x = (need-gave _ _ _ _ g).1 in
      pass-means b bytes a.sound x (p ∙ same)

  pub attempt-call : (d : Done) → attempt_call b ≡ accepted d → Means b (attempt_bytes b) d.book
  unfolding attempt_call attempt_alone
  attempt-call d e =
      let (a, r) = called-gave b _ d e in
      let (y, p, g) = after-gave (attempts one (members_in b) (own_in_book b) (book_in b)) _ d r in
      let (few, same) = need-gave _ _ _ _ g in
      let k : y ≡ d = cc in
      attempt-means b bytes a.sound one d (p ∙ same) (rw (← k) (leb-true _ _ few))

  pub register-call : (d : Done) → register_call b ≡ accepted d → Means b (register_bytes b) d.book
  unfolding register_call
  register-call d e = let (a, r) = called-gave b _ d e in register-means b bytes a.sound d r

  pub send-call : (x : ℕ) → x < 256 ^ 8 → (d : Done) → send_call x b ≡ accepted d → Means b (send_bytes x b) d.book
  unfolding send_call
  send-call x w d e = let (a, r) = called-gave b _ d e in send-means b bytes a.sound x w d r

  pub hand-call : (d : Done) → hand_call b ≡ accepted d → Means b (hand_bytes b) d.book
  unfolding hand_call
  hand-call d e = let (a, r) = called-gave b _ d e in hand-means b bytes a.sound d r

  pub tell-call : (d : Done) → tell_call b ≡ accepted d → Means b (tell_bytes b) d.book
  unfolding tell_call
  tell-call d e = let (a, r) = called-gave b _ d e in tell-means b bytes a.sound d r

  pub safe-call : (d : Done) → safe_call b ≡ accepted d → Means b (safe_bytes b) d.book
  unfolding safe_call
  safe-call d e = let (a, r) = called-gave b _ d e in safe-means b bytes a.sound d r

  pub collect-call : (d : Done) → collect_call b ≡ accepted d → Means b (collect_bytes b) d.book
  unfolding collect_call
  collect-call d e = let (a, r) = called-gave b _ d e in collect-means b bytes a.sound d r

  taken_is : (book_in b).carrier.taken ≡ get_or b taken_at 0
  unfolding book_in record_in
  taken_is = refl

  -- what was read is what is taken
  pub message-call : (read : Result Sent) → Given read → (q : ℕ) (d : Done) → message_call read q b ≡ accepted d → Means b (taken_bytes read q b) d.book
  unfolding deliver_alone
  message-call read g q d e =
      let (a, r) = called-gave b _ d e in
      let (v, carrier, r1) = view-gave (book_in b).carrier.view _ _ d r in
      let (x, is, r2) = after-gave read _ d r1 in
      let (_, r3) = need-gave _ _ _ _ r2 in
      let (_, r4) = need-gave _ _ _ _ r3 in
      let (sender, r5) = need-gave (has v.set q) _ _ _ r4 in
      let (room, r6) = need-gave (ltb (book_in b).carrier.taken max_ordered) _ _ _ r5 in
      let roomy : (book_in b).carrier.taken < max_ordered = ltb-true _ _ room in
      let (few, r7) = need-gave (leb (length (delivered q x.message (book_in b)).held.opens) max_open) _ _ _ r6 in
      let given : record { book = delivered q x.message (book_in b); answer = ok } ≡ d = cc in
      let f = g.fits x is in
      let means : Means b (take_bytes q x.message b) (delivered q x.message (book_in b))
      = take-means b bytes a.sound q x.message (sender-small b v q a.sound carrier sender) (carried-fits x.message f) f.sets
      (told-byte x.message (g.readable x is).count) (carrier-mark b v carrier) (rw taken_is at roomy) (leb-true _ _ few) in
      taken-means b q read x (delivered q x.message (book_in b)) d is given means

  pub deliver-call : (m : List ℕ) (q : ℕ) → AreBytes m → (d : Done) → deliver_call m q b ≡ accepted d → Means b (deliver_bytes m q b) d.book
  unfolding deliver_call deliver_bytes
  deliver-call m q w d e = message-call (sent_of (read_one m)) (one-given m w) q d e
