-- A packet on bytes: its messages one by one, each from what those before it left.
use mathlib.Core.Path.{◌≡◌, refl, sym, ap, ◌∙◌}
use mathlib.Core.Logic.{⊎_elim}
use mathlib.Core.Bool.{Bool, true, false, not, true≢false}
use borrow.Author.Tests.{not-true}
use mathlib.Core.List.{List, [], ◌∷◌, map}
use Prim.Native.Nat.{ℕ, suc, ◌+◌, ◌≤◌, ◌<◌}
use native.Mathlib.Numerals.{add-one}
use native.Mathlib.Omega.{arith}
use lib.ListN.{length, take, drop, length-drop}
use lib.Seq.{drop-drop}
use Rattle.views.specs.declared.refusal.Refusal.{Refusal}
use Rattle.views.specs.declared.refusal.Refusal.TheVariants.{RecordsUnsound}
use Rattle.views.specs.Refusals.{Verdict, and_then, left}
use Rattle.std.specs.Prelude.{Ok, Err}
use Rattle.views.specs.Members.{In}
use Rattle.views.proofs.SetLaws.{known}
use Rattle.views.proofs.VerdictLaws.{never, after-ok, then-met}
use Rattle.wire.specs.Widths.{AreBytes}
use Rattle.wire.specs.Reader.{frame_in, read_front, front_of}
use Rattle.wire.proofs.FrontLaws.{read-from}
use Rattle.wire.proofs.PacketTrip.{front-takes, drop-bytes, readings-none, readings-some, readings-more}
use Rattle.rules.specs.Data.{Book as Ruled, Result, refused, accepted, need}
use Rattle.rules.specs.Member.{Done}
use Rattle.rules.specs.Alone.{Sent, sent_of, book_sound, deliver_alone, Delivery, deliveries_one_by_one, packet_alone, stops}
use Rattle.rules.proofs.TestLaws.{◌and◌, conditions-say, conditions-from}
use Rattle.rules.specs.Sound.{conditions}
use Rattle.rules.proofs.Alone.Taken.{deliver-sound}
use Rattle.rules.proofs.Alone.Readable.{Given, front-given}
use Rattle.rules.proofs.Alone.Packets.{Each, Fine, each-fine, deliver-stops}
use Rattle.events.specs.Replies.{verdict_of}
use Rattle.events.proofs.ReplyLaws.{accepts}
use Rattle.book_bytes.specs.Books.{book_in, layout_fits, bytes_sound, members_in, own_in_book}
use Rattle.book_bytes.proofs.LayoutLaws.{layout-from}
use Rattle.book_steps.proofs.Committed.{sound-layout}
use Rattle.book_steps.proofs.Means.{Means}
use Rattle.member.specs.Calls.{taken_bytes, messages_in, packet_call, take_each, count_of, packet_bytes, delivered_of, GaveEach}
use Rattle.member.specs.Parts.{message_call, GaveFront}
use Rattle.member.specs.Promises.{Apart}
use Rattle.member.proofs.CallMeans.{delivers-read, call-read, message-call}

-- ---- one message

-- what the messages l give on the bytes b, and what they leave
abbrev pub gather : List (Result Sent) → ℕ → List ℕ → Apart
gather l q b =
    let x = deliveries_one_by_one (members_in b) (own_in_book b) l q (book_in b) in
    record { count = x.count; stopped = x.stopped; book = take_each (take x.count l) q b }

abbrev pub plus : ℕ → Apart → Apart
plus n a = record { count = n + a.count; stopped = a.stopped; book = a.book }

-- on a sound book a message gets what deliver gives it
sound-message : (read : Result Sent) (q : ℕ) (b : List ℕ) → bytes_sound b ≡ true → message_call read q b ≡ deliver_alone (members_in b) (own_in_book b) read q (book_in b)
unfolding bytes_sound need
sound-message read q b h = let (l, _) = conditions-say _ h in rw l

pub gather-refused : (read : Result Sent) (l : List (Result Sent)) (q : ℕ) (b : List ℕ) → bytes_sound b ≡ true → (r : Refusal) → message_call read q b ≡ refused r
    → gather (read ∷ l) q b ≡ record { count = 0; stopped = Err r; book = b }
unfolding deliveries_one_by_one take_each
gather-refused read l q b h r e = let k = sym (sound-message read q b h) ∙ e in rw k refl

-- a message that is taken
module _ (read : Result Sent) (given : Given read) (q : ℕ) (b : List ℕ) (bytes : AreBytes b) (sound : bytes_sound b ≡ true) (d : Done) (e : message_call read q b ≡ accepted d) where
  abbrev new : List ℕ
  new = taken_bytes read q b

  alone-e : deliver_alone (members_in b) (own_in_book b) read q (book_in b) ≡ accepted d
  alone-e = sym (sound-message read q b sound) ∙ e

  pub taken-means : Means b new d.book
  taken-means = message-call b bytes read given q d e

  pub taken-sound : bytes_sound new ≡ true
  unfolding bytes_sound
  taken-sound =
      let m = taken-means in
      let (x, is) = delivers-read (members_in b) (own_in_book b) read q (book_in b) d alone-e in
      let (_, (s, _)) = conditions-say _ sound in
      conditions-from _ (
      layout-from new m.layout
      and rw (m.members, m.book) (deliver-sound (members_in b) (own_in_book b) x q (book_in b) d s (given.readable x is) (rw is at alone-e))
      and tt)

  pub gather-taken : (l : List (Result Sent)) → gather (read ∷ l) q b ≡ plus 1 (gather l q new)
  unfolding deliveries_one_by_one take_each
  gather-taken l =
      let m = taken-means in
      let x = deliveries_one_by_one (members_in b) (own_in_book b) l q d.book in
      let first : gather (read ∷ l) q b ≡ record { count = x.count + 1; stopped = x.stopped; book = take_each (take (x.count + 1) (read ∷ l)) q b } = rw alone-e refl in
      let next : x.count + 1 ≡ suc x.count = add-one x.count in
      let turn : x.count + 1 ≡ 1 + x.count = omega arith in
      first ∙ rw (m.members, m.self, m.book) (λ i. record { count = turn i; stopped = x.stopped; book = take_each (take (next i) (read ∷ l)) q b })

-- ---- a message at the front that stops the packet was refused, x being what it got

call-stopped : (s : List ℕ) (q : ℕ) (b : List ℕ) (r : Refusal) (x : Result Done) → message_call (sent_of (read_front s)) q b ≡ x
    → and_then (verdict_of x) (front_of s) ≡ Err r → x ≡ refused r
unfolding and_then
call-stopped s q b r (refused z) e h = let k : z ≡ r = cc in ap (λ (w : Refusal). refused w) k
call-stopped s q b r (accepted d) e h =
    let (k, read) = call-read s q b d e in
    absurd (never r (sym h ∙ after-ok _ read))

sound-book : (b : List ℕ) → bytes_sound b ≡ true → book_sound (members_in b) (book_in b) ≡ true
unfolding bytes_sound
sound-book b h = let (_, (s, _)) = conditions-say _ h in s

-- ---- all messages

-- what messages leave is the rules' book, sound as it was, and what stops them is one of their own refusals
pub record Gathered (l : List (Result Sent)) (q : ℕ) (b : List ℕ) : Type 0 where
  pub means : Means b (gather l q b).book (deliveries_one_by_one (members_in b) (own_in_book b) l q (book_in b)).book
  pub sound : bytes_sound (gather l q b).book ≡ true
  pub stopped : (r : Refusal) → (gather l q b).stopped ≡ Err r → In r stops

means-self : (b : List ℕ) → AreBytes b → bytes_sound b ≡ true → Means b b (book_in b)
means-self b y s = record { book = refl; layout = sound-layout b s; bytes = y; members = refl; self = refl }

means-through : {b c d : List ℕ} {B C : Ruled} → Means b c B → Means c d C → Means b d C
means-through m k = record { book = k.book; layout = k.layout; bytes = k.bytes; members = k.members ∙ m.members; self = k.self ∙ m.self }

-- by what the first gets, x
gathered-on : (read : Result Sent) → Fine read → (l : List (Result Sent)) (q : ℕ) (b : List ℕ) → AreBytes b → bytes_sound b ≡ true
    → ((c : List ℕ) → AreBytes c → bytes_sound c ≡ true → Gathered l q c) → (x : Result Done) → message_call read q b ≡ x → Gathered (read ∷ l) q b
unfolding deliveries_one_by_one take_each
gathered-on read (given, stop) l q b y s others (refused r) e =
    let k = sym (sound-message read q b s) ∙ e in
    record {
      means = rw k (means-self b y s);
      sound = rw k s;
      stopped = λ z h.
          let j : Err r ≡ Err z = rw k at h in
          let i : r ≡ z = cc in
          rw (← i) (deliver-stops (members_in b) (own_in_book b) read q (book_in b) (sound-book b s) stop r k);
    }
gathered-on read (given, stop) l q b y s others (accepted d) e =
    let m = taken-means read given q b y s d e in
    let g = others (taken_bytes read q b) m.bytes (taken-sound read given q b y s d e) in
    let here : gather (read ∷ l) q b ≡ plus 1 (gather l q (taken_bytes read q b)) = gather-taken read given q b y s d e l in
    let book : (deliveries_one_by_one (members_in b) (own_in_book b) (read ∷ l) q (book_in b)).book ≡ (deliveries_one_by_one (members_in b) (own_in_book b) l q d.book).book
    = rw (alone-e read given q b y s d e) refl in
    let rest : Means (taken_bytes read q b) (gather l q (taken_bytes read q b)).book (deliveries_one_by_one (members_in b) (own_in_book b) l q d.book).book
    = rw (← m.members, ← m.self, ← m.book) g.means in
    record {
      means = rw (ap (λ (a : Apart). a.book) here, book) (means-through m rest);
      sound = rw (ap (λ (a : Apart). a.book) here) g.sound;
      stopped = λ z h. g.stopped z (ap (λ (a : Apart). a.stopped) (sym here) ∙ h);
    }

pub gathered : (l : List (Result Sent)) → Each Fine l → (q : ℕ) (b : List ℕ) → AreBytes b → bytes_sound b ≡ true → Gathered l q b
unfolding deliveries_one_by_one take_each
gathered [] f q b y s = record { means = means-self b y s; sound = s; stopped = λ r e. absurd (never r (sym e)) }
gathered (read ∷ l) (fine, f) q b y s = gathered-on read fine l q b y s (λ c. gathered l f q c) (message_call read q b) refl

-- ---- the call

-- 4 is passed: what it gives and leaves is what its messages do
pub packet-sound : (s : List ℕ) (q : ℕ) (b : List ℕ) → bytes_sound b ≡ true
    → packet_call s q b ≡ accepted (deliveries_one_by_one (members_in b) (own_in_book b) (messages_in s) q (book_in b))
unfolding bytes_sound packet_call packet_alone need
packet-sound s q b h = let (l, (k, _)) = conditions-say _ h in rw (l, k)

pub packet-left : (s : List ℕ) (q : ℕ) (b : List ℕ) → bytes_sound b ≡ true → packet_bytes s q b ≡ (gather (messages_in s) q b).book
unfolding packet_bytes
packet-left s q b h = ap (λ (x : Result Delivery). take_each (take (count_of x) (messages_in s)) q b) (packet-sound s q b h)

packet-unsound : (s : List ℕ) (q : ℕ) (b : List ℕ) → bytes_sound b ≡ false → packet_call s q b ≡ refused RecordsUnsound
unfolding bytes_sound conditions packet_call packet_alone need
packet-unsound s q b h =
    ⊎_elim (λ (e : layout_fits b ≡ true).
    ⊎_elim (λ (f : book_sound (members_in b) (book_in b) ≡ true). let z : true ≡ false = rw (e, f) at h in absurd (true≢false z))
    (λ (f : book_sound (members_in b) (book_in b) ≡ false). rw (e, f))
    (known (book_sound (members_in b) (book_in b))))
    (λ (e : layout_fits b ≡ false). rw e)
    (known (layout_fits b))

-- an accepted packet had a sound book, and gives what its messages give
pub packet-gives : (s : List ℕ) (q : ℕ) (b : List ℕ) (x : Delivery) → packet_call s q b ≡ accepted x
    → (bytes_sound b ≡ true) × (x ≡ deliveries_one_by_one (members_in b) (own_in_book b) (messages_in s) q (book_in b))
packet-gives s q b x e =
    ⊎_elim (λ (h : bytes_sound b ≡ true).
    let k : accepted x ≡ accepted (deliveries_one_by_one (members_in b) (own_in_book b) (messages_in s) q (book_in b)) = sym e ∙ packet-sound s q b h in (h, cc))
    (λ (h : bytes_sound b ≡ false).
    let k : accepted x ≡ refused RecordsUnsound = sym e ∙ packet-unsound s q b h in let z : ◌≡◌ {A = ℕ} 0 1 = cc in absurd (omega arith))
    (known (bytes_sound b))

-- and it leaves the rules' book
pub packet-call : (s : List ℕ) (q : ℕ) (b : List ℕ) → AreBytes s → AreBytes b → (x : Delivery) → packet_call s q b ≡ accepted x → Means b (packet_bytes s q b) x.book
packet-call s q b w y x e =
    let (h, is) = packet-gives s q b x e in
    rw (is, packet-left s q b h) (gathered (messages_in s) (each-fine s w) q b y h).means

-- what it gives, by what its messages gave
pub packet-gave : (s : List ℕ) (q : ℕ) (b d : List ℕ) (n : ℕ) (v : Verdict) → bytes_sound b ≡ true → gather (messages_in s) q b ≡ record { count = n; stopped = v; book = d }
    → GaveEach (packet_call s q b) (packet_bytes s q b) b d (Ok (record { count = n; stopped = v }))
unfolding left
packet-gave s q b d n v h e =
    let k = packet-sound s q b h in
    record {
      reply = (λ i. Ok (record { count = (sym e i).count; stopped = (sym e i).stopped })) ∙ ap delivered_of (sym k);
      book = ap (λ (a : Apart). a.book) (sym e) ∙ sym (packet-left s q b h) ∙ ap (λ (x : Result Delivery). left (verdict_of x) (packet_bytes s q b) b) (sym k);
    }

pub packet-refused : (s : List ℕ) (q : ℕ) (b : List ℕ) (t : Bool) → t ≡ bytes_sound b → not t ≡ true
    → GaveEach (packet_call s q b) (packet_bytes s q b) b b (Err RecordsUnsound)
unfolding left
packet-refused s q b t e h =
    let k : packet_call s q b ≡ refused RecordsUnsound = packet-unsound s q b (sym e ∙ not-true t h) in
    record { reply = ap delivered_of (sym k); book = ap (λ (x : Result Delivery). left (verdict_of x) (packet_bytes s q b) b) (sym k) }

-- ---- the loop

-- at bytes of the packet s are done, which were n messages, and b is left of b₀
pub record Underway (b₀ s : List ℕ) (q : ℕ) (b : List ℕ) (at n : ℕ) : Type 0 where
  pub bytes : AreBytes b
  pub sound : bytes_sound b ≡ true
  pub within : at ≤ length s
  pub few : n ≤ at
  pub so_far : gather (messages_in s) q b₀ ≡ plus n (gather (messages_in (drop at s)) q b)

pub underway-begins : (b s : List ℕ) (q : ℕ) → AreBytes b → bytes_sound b ≡ true → Underway b s q b 0 0
underway-begins b s q y h =
    let a = gather (messages_in s) q b in
    let none : a.count ≡ 0 + a.count = omega arith in
    record {
      bytes = y;
      sound = h;
      within = omega arith;
      few = omega arith;
      so_far = λ i. record { count = none i; stopped = a.stopped; book = a.book };
    }

pub underway-ends : (b₀ s : List ℕ) (q : ℕ) (b : List ℕ) (at n : ℕ) → bytes_sound b₀ ≡ true → Underway b₀ s q b at n → length s ≤ at
    → GaveEach (packet_call s q b₀) (packet_bytes s q b₀) b₀ b (Ok (record { count = n; stopped = Ok tt }))
unfolding deliveries_one_by_one take_each
underway-ends b₀ s q b at n h u e =
    let none : messages_in (drop at s) ≡ [] = ap (map sent_of) (readings-none (drop at s) (length-drop at s ∙ omega arith)) in
    let last : gather (messages_in (drop at s)) q b ≡ record { count = 0; stopped = Ok tt; book = b } = rw none refl in
    packet-gave s q b₀ b n (Ok tt) h (u.so_far ∙ ap (plus n) last ∙ (λ i. record { count = no_more i; stopped = Ok tt; book = b }))
  where
    no_more : n + 0 ≡ n
    no_more = omega arith

module _ (b₀ s : List ℕ) (q : ℕ) (b : List ℕ) (at n : ℕ) (y : AreBytes s) (u : Underway b₀ s q b at n) (more : at < length s) (d : List ℕ) where
  abbrev rest : List ℕ
  rest = drop at s

  some_left : 0 < length rest
  some_left = omega (arith, length-drop at s)

  pub underway-stops : bytes_sound b₀ ≡ true → (r : Refusal) → GaveFront rest q b d (Err r)
      → GaveEach (packet_call s q b₀) (packet_bytes s q b₀) b₀ d (Ok (record { count = n; stopped = Err r }))
  unfolding left
  underway-stops h r gave =
      let (l, some) = readings-some rest some_left in
      let read : messages_in rest ≡ sent_of (read_front rest) ∷ map sent_of l = ap (map sent_of) some in
      let call : message_call (sent_of (read_front rest)) q b ≡ refused r = call-stopped rest q b r _ refl (sym gave.reply) in
      let last : gather (messages_in rest) q b ≡ record { count = 0; stopped = Err r; book = b }
      = ap (λ (k : List (Result Sent)). gather k q b) read ∙ gather-refused (sent_of (read_front rest)) (map sent_of l) q b u.sound r call in
      let same : d ≡ b = gave.book in
      let total : n + 0 ≡ n = omega arith in
      packet-gave s q b₀ d n (Err r) h (u.so_far ∙ ap (plus n) last ∙ (λ i. record { count = total i; stopped = Err r; book = sym same i }))

  -- one that took k bytes
  module _ (k : ℕ) (gave : GaveFront rest q b d (Ok k)) where
    abbrev sent : Result Sent
    sent = sent_of (read_front rest)

    taken : (x : Done) × (message_call sent q b ≡ accepted x)
    taken = accepts _ (then-met _ _ (sym gave.reply)).0

    -- the reader had accepted it
    front : read_front rest ≡ Ok (record { taken = k; frame = frame_in rest })
    front = read-from rest k (then-met (verdict_of (message_call sent q b)) _ (sym gave.reply)).1

    pub underway-takes : (7 ≤ k) × (at + k ≤ length s)
    underway-takes = let (low, high) = front-takes rest front in (low, omega (arith, length-drop at s, high))

    pub underway-goes : Underway b₀ s q d (at + k) (n + 1)
    unfolding left
    underway-goes =
        let given = front-given rest (drop-bytes at s y) in
        let (x, call) = taken in
        let new : d ≡ taken_bytes sent q b = gave.book in
        let m = taken-means sent given q b u.bytes u.sound x call in
        let (low, high) = underway-takes in
        let behind : drop k rest ≡ drop (at + k) s = drop-drop k at s in
        let read : messages_in rest ≡ sent ∷ messages_in (drop (at + k) s)
        = ap (map sent_of) (readings-more rest some_left front) ∙ (λ i. sent_of (sym front i) ∷ messages_in (behind i)) in
        let one : gather (messages_in rest) q b ≡ plus 1 (gather (messages_in (drop (at + k) s)) q (taken_bytes sent q b))
        = ap (λ (z : List (Result Sent)). gather z q b) read ∙ gather-taken sent given q b u.bytes u.sound x call (messages_in (drop (at + k) s)) in
        let after = gather (messages_in (drop (at + k) s)) q (taken_bytes sent q b) in
        let total : n + (1 + after.count) ≡ n + 1 + after.count = omega arith in
        record {
          bytes = rw new m.bytes;
          sound = rw new (taken-sound sent given q b u.bytes u.sound x call);
          within = omega (arith, high);
          few = omega (arith, low, u.few);
          so_far = rw new (u.so_far ∙ ap (plus n) one ∙ (λ i. record { count = total i; stopped = after.stopped; book = after.book }));
        }
