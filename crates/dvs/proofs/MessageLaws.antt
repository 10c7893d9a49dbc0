-- From what the member's pass, a packet and the message's record gave to what the calls give here.
use mathlib.Core.Path.{◌≡◌, refl, ap, ◌∙◌}
use mathlib.Core.List.{List}
use Prim.Native.Nat.{ℕ}
use mathlib.Core.Bool.{true, false}
use lib.ListN.{length, get_or}
use Rattle.std.specs.Prelude.{Ok, Err}
use Rattle.std.specs.Prelude.{Result as Given}
use Rattle.views.specs.declared.refusal.Refusal.{Refusal}
use Rattle.views.specs.declared.refusal.Refusal.TheVariants.{RecordsUnsound, UnknownKind}
use Rattle.views.specs.Refusals.{Verdict, verdict_given, code_of, require, left, after}
use Rattle.wire.specs.Format.{is_known}
use Rattle.wire.specs.declared.Reading.{Reading}
use Rattle.wire.specs.Reader.{read_front, front_of}
use Rattle.wire.specs.Single.{read_one}
use Rattle.wire.specs.Writer.{frame_bytes, write_verdict, Wrote}
use Rattle.rules.specs.Data.{Result, refused, accepted}
use Rattle.rules.specs.Member.{Passing}
use Rattle.rules.specs.Alone.{Delivery}
use Rattle.book_steps.specs.Acts.{pass_bytes}
use Rattle.events.specs.declared.Delivered.{Delivered}
use Rattle.member.specs.Calls.{GaveOut, pass_call, passed_of, pass_buffer, packet_call, packet_bytes, delivered_of, GaveEach}
use Rattle.c_answers.specs.Answers.{given_bytes, length_size, length_bytes, delivery_size, delivery_bytes}
use Rattle.c_answers.proofs.AnswerLaws.{sized-met, sized-unmet, let-number, let-bytes}
use Rattle.wire.specs.Records.{record_size, reading_bytes, frame_of}
use Rattle.events.specs.Replies.{verdict_of}
use Rattle.dvs.specs.MessageCalls.{Passes, Delivers, Reads, reading_front, ReadsFront, writing, Writes}

-- ---- pass

passed-left : (result : Result Passing) (new old : List ℕ) → left (verdict_of result) new old ≡ left (passed_of result) new old
unfolding left
passed-left (refused r) new old = refl
passed-left (accepted x) new old = refl

passed-buffer : (result : Result Passing) (o : List ℕ) → pass_buffer result o ≡ left (passed_of result) (pass_buffer result o) o
unfolding left
passed-buffer (refused r) o = refl
passed-buffer (accepted x) o = refl

pub passes-unsized : (b o l : List ℕ) (x : ℕ) → (length l ≡ length_size → ⊥) → x ≡ 4 → Passes b b o o l l x
unfolding left
passes-unsized b o l x h k =
    let v = sized-unmet l length_size (passed_of (pass_call (length o) b)) h in
    record { number = rw v k; book = rw v; buffer = rw v; size = rw v }

pub passes-call : (b b' o o' l l' : List ℕ) (r : Given ℕ Refusal) (x : ℕ) → length l ≡ length_size
    → GaveOut (pass_call (length o) b) (pass_bytes b) b b' o o' r
    → (x ≡ code_of r) × (l' ≡ given_bytes length_bytes r l) → Passes b b' o o' l l' x
passes-call b b' o o' l l' r x n h k =
    let result = pass_call (length o) b in
    let v = sized-met l length_size (passed_of result) n in
    let number : x ≡ code_of (passed_of result) = k.0 ∙ ap code_of h.reply in
    let size : l' ≡ given_bytes length_bytes (passed_of result) l = k.1 ∙ ap (λ (y : Given ℕ Refusal). given_bytes length_bytes y l) h.reply in
    record { number = rw v number; book = rw v (h.book ∙ passed-left result _ b); buffer = rw v (h.buffer ∙ passed-buffer result o); size = rw v size }

-- ---- a packet

delivered-left : (result : Result Delivery) (new old : List ℕ) → left (verdict_of result) new old ≡ left (delivered_of result) new old
unfolding left
delivered-left (refused r) new old = refl
delivered-left (accepted x) new old = refl

pub delivers-unsized : (s : List ℕ) (q : ℕ) (b e : List ℕ) (x : ℕ) → (length e ≡ delivery_size → ⊥) → x ≡ 4 → Delivers s q b b e e x
unfolding left
delivers-unsized s q b e x h k =
    let v = sized-unmet e delivery_size (delivered_of (packet_call s q b)) h in
    record { number = rw v k; book = rw v; delivery = rw v }

pub delivers-call : (s : List ℕ) (q : ℕ) (b b' e e' : List ℕ) (r : Given Delivered Refusal) (x : ℕ) → length e ≡ delivery_size
    → GaveEach (packet_call s q b) (packet_bytes s q b) b b' r
    → (x ≡ code_of r) × (e' ≡ given_bytes delivery_bytes r e) → Delivers s q b b' e e' x
delivers-call s q b b' e e' r x n h k =
    let result = packet_call s q b in
    let v = sized-met e delivery_size (delivered_of result) n in
    let number : x ≡ code_of (delivered_of result) = k.0 ∙ ap code_of h.reply in
    let delivery : e' ≡ given_bytes delivery_bytes (delivered_of result) e
    = k.1 ∙ ap (λ (y : Given Delivered Refusal). given_bytes delivery_bytes y e) h.reply in
    record { number = rw v number; book = rw v (h.book ∙ delivered-left result _ b); delivery = rw v delivery }

-- ---- read and write

pub reads-unsized : (s m : List ℕ) (x : ℕ) → (length m ≡ record_size → ⊥) → x ≡ 4 → Reads s m m x
reads-unsized s m x h k =
    let v = sized-unmet m record_size (read_one s) h in
    record { number = rw v k; message = rw v }

given-number : {A : Type 0} (r : Given A Refusal) → code_of (verdict_given r) ≡ code_of r
given-number (Ok x) = refl
given-number (Err e) = refl

pub reads-call : (s m m' : List ℕ) (v : Verdict) (x : ℕ) → length m ≡ record_size
    → (v ≡ verdict_given (read_one s)) × (m' ≡ reading_bytes (read_one s) m) → x ≡ code_of v → Reads s m m' x
reads-call s m m' v x n h k =
    let e = sized-met m record_size (read_one s) n in
    let number : x ≡ code_of (read_one s) = k ∙ ap code_of h.0 ∙ given-number (read_one s) in
    record { number = rw e number; message = rw e h.1 }

-- how many bytes were taken, by the reading
taken-number : (r : Given Reading Refusal) → code_of (after r (λ y. Ok y.taken)) ≡ code_of r
unfolding after
taken-number (Ok y) = refl
taken-number (Err e) = refl

taken-bytes : (r : Given Reading Refusal) (l : List ℕ)
    → given_bytes length_bytes (after r (λ y. Ok y.taken)) l ≡ given_bytes (λ (y : Reading). length_bytes y.taken) r l
unfolding after
taken-bytes (Ok y) l = refl
taken-bytes (Err e) l = refl

module _ (s m l : List ℕ) where
  front-refused : (r : Refusal) (x : ℕ) → reading_front s m l ≡ Err r → x ≡ code_of {A = Reading} (Err r) → ReadsFront s m m l l x
  front-refused r x v k = record { number = rw v k; message = rw v; size = rw v }

  pub front-unsized : (x : ℕ) → (length m ≡ record_size → ⊥) → x ≡ 4 → ReadsFront s m m l l x
  front-unsized x h k = front-refused RecordsUnsound x (sized-unmet m record_size _ h) k

  module _ (whole : length m ≡ record_size) where
    pub front-unmeasured : (x : ℕ) → (length l ≡ length_size → ⊥) → x ≡ 4 → ReadsFront s m m l l x
    front-unmeasured x h k = front-refused RecordsUnsound x (sized-met m record_size _ whole ∙ sized-unmet l length_size _ h) k

    pub front-call : (m' l' : List ℕ) (f : Given ℕ Refusal) (x : ℕ) → length l ≡ length_size
        → (f ≡ front_of s) × (m' ≡ reading_bytes (read_front s) m)
        → (x ≡ code_of f) × (l' ≡ given_bytes length_bytes f l) → ReadsFront s m m' l l' x
    front-call m' l' f x room h k =
        let v : reading_front s m l ≡ read_front s = sized-met m record_size _ whole ∙ sized-met l length_size _ room in
        let number : x ≡ code_of (read_front s) = k.0 ∙ ap code_of h.0 ∙ taken-number (read_front s) in
        let size : l' ≡ given_bytes (λ (y : Reading). length_bytes y.taken) (read_front s) l
        = k.1 ∙ ap (λ (y : Given ℕ Refusal). given_bytes length_bytes y l) h.0 ∙ taken-bytes (read_front s) l in
        record { number = rw v number; message = rw v h.1; size = rw v size }

module _ (m o l : List ℕ) where
  writes-refused : (r : Refusal) (x : ℕ) → writing m o l ≡ Err r → x ≡ code_of {A = Unit {0}} (Err r) → Writes m o o l l x
  unfolding left
  writes-refused r x v k = record { number = rw v k; buffer = rw v; size = rw v }

  pub writes-unsized : (x : ℕ) → (length m ≡ record_size → ⊥) → x ≡ 4 → Writes m o o l l x
  writes-unsized x h k = writes-refused RecordsUnsound x (sized-unmet m record_size _ h) k

  module _ (whole : length m ≡ record_size) where
    pub writes-unmeasured : (x : ℕ) → (length l ≡ length_size → ⊥) → x ≡ 4 → Writes m o o l l x
    writes-unmeasured x h k = writes-refused RecordsUnsound x (sized-met m record_size _ whole ∙ sized-unmet l length_size _ h) k

    module _ (room : length l ≡ length_size) where
      pub writes-unknown : (x : ℕ) → is_known (get_or m 0 0) ≡ false → x ≡ 33 → Writes m o o l l x
      unfolding require
      writes-unknown x h k = writes-refused UnknownKind x (sized-met m record_size _ whole ∙ sized-met l length_size _ room ∙ rw h) k

      pub writes-call : (o' l' : List ℕ) (r : Given ℕ Refusal) (x : ℕ) → is_known (get_or m 0 0) ≡ true → Wrote (frame_of m) o o' r
          → (x ≡ code_of r) × (l' ≡ given_bytes length_bytes r l) → Writes m o o' l l' x
      unfolding require
      writes-call o' l' r x h w k =
          let v : writing m o l ≡ write_verdict (frame_of m) (length o) = sized-met m record_size _ whole ∙ sized-met l length_size _ room ∙ rw h in
          let n = length (frame_bytes (frame_of m)) in
          let number : x ≡ code_of (write_verdict (frame_of m) (length o)) = k.0 ∙ ap code_of w.reply ∙ let-number length_bytes n l _ in
          let size : l' ≡ left (write_verdict (frame_of m) (length o)) (length_bytes n) l
          = k.1 ∙ ap (λ (y : Given ℕ Refusal). given_bytes length_bytes y l) w.reply ∙ let-bytes length_bytes n l _ in
          record { number = rw v number; buffer = rw v w.buffer; size = rw v size }
