-- Demand 2 of a host's messages, by the contracts of dvs_read, dvs_read_front and dvs_write: what is read is written again, and what is written is read again.
use mathlib.Core.Path.{◌≡◌, refl, sym, ap, ◌∙◌}
use mathlib.Core.Logic.{⊎_elim}
use mathlib.Core.Bool.{true, false}
use mathlib.Core.List.{List, ◌++◌}
use Prim.Native.Nat.{ℕ, ◌≤◌}
use native.Mathlib.Omega.{arith}
use borrow.Author.Tests.{eq-eqb, eqb-true, le-leb, eqb-false, ltb-true, ltb-false}
use lib.Dec.{eqb, ltb}
use lib.ListN.{length, get_or, take, drop, length-take, get_or-eq_default}
use lib.Seq.{take_at, get_or-take, length-take-le}
use Rattle.views.specs.Refusals.{number_of, code_of, require, and_then, left}
use Rattle.std.specs.Prelude.{Result, Ok, Err}
use Rattle.views.specs.declared.refusal.Refusal.{Refusal}
use Rattle.views.proofs.Numbers.{never-0}
use Rattle.views.proofs.SetLaws.{known}
use Rattle.wire.specs.Widths.{AreBytes}
use Rattle.wire.specs.Format.{is_known}
use Rattle.wire.specs.declared.Reading.{Reading}
use Rattle.wire.specs.Reader.{read_front}
use Rattle.wire.specs.Single.{read_one}
use Rattle.wire.specs.Writer.{frame_bytes, frame_verdict, write_verdict, overwritten}
use Rattle.wire.specs.Records.{record_size, record_kind, record_bytes, reading_bytes, frame_of}
use Rattle.wire.specs.Promises.{canonical, as_written}
use Rattle.views.proofs.VerdictLaws.{need-accepted, then-met}
use Rattle.wire.proofs.RoundTrip.{written-reads, written-reads-back}
use Rattle.wire.proofs.PacketTrip.{front-takes, piece-accepted}
use Rattle.wire.proofs.RecordTrip.{record-fits, read-record-is-written, read-places}
use Rattle.wire.proofs.RecordLaws.{length-record}
use Rattle.c_answers.specs.Answers.{length_size, length_bytes, sized}
use Rattle.dvs.specs.MessageCalls.{reading, Reads, reading_front, ReadsFront, writing, Writes}
use Rattle.dvs.specs.Promises.{Demand2}

-- ---- 0 is accepted

none-is-0 : {A : Type 0} (v : Result A Refusal) → 0 ≡ code_of v → (x : A) × (v ≡ Ok x)
none-is-0 (Ok x) e = (x, refl)
none-is-0 (Err r) e = absurd (eqb-false (number_of r) 0 (never-0 r) (sym e))

sized-says : {A : Type 0} {x : A} (range : List ℕ) (n : ℕ) (v : Result A Refusal) → sized range n v ≡ Ok x → (length range ≡ n) × (v ≡ Ok x)
unfolding sized
sized-says range n v e = let (s, t) = need-accepted (eqb (length range) n) _ v e in (eqb-true _ _ s, t)

-- ---- read, then written

read-then-written : (s m m' o o' l l' : List ℕ) (x : ℕ) → AreBytes s → Reads s m m' 0 → length s ≤ length o → length l ≡ length_size → Writes m' o o' l l' x
    → (x ≡ 0) × (o' ≡ overwritten s o) × (l' ≡ length_bytes (length s))
unfolding left sized write_verdict and_then require
read-then-written s m m' o o' l l' x bytes r room size w =
    let (g, ok) = none-is-0 (reading s m) r.number in
    let read : read_one s ≡ Ok g = (sized-says m record_size (read_one s) ok).1 in
    let is : m' ≡ record_bytes g.frame = r.message ∙ ap (λ (y : Result Reading Refusal). reading_bytes y m) ok in
    let again = read-record-is-written s g bytes read in
    let long : length m' ≡ record_size = ap length is ∙ length-record g.frame (read-places s bytes read) in
    let kind : is_known (get_or m' record_kind 0) ≡ true = rw is again.kind in
    let verdict : frame_verdict (frame_of m') ≡ Ok tt = rw is again.verdict in
    let same : frame_bytes (frame_of m') ≡ s = rw is again.bytes in
    let v : writing m' o l ≡ Ok tt
    = rw (eq-eqb _ _ long, eq-eqb _ _ size, kind, verdict, same, le-leb (length s) (length o) room) refl in
    (w.number ∙ rw v refl, w.buffer ∙ rw (v, same) refl, w.size ∙ rw (v, same) refl)

-- ---- written, then read

written-then-read : (m o o' l l' k k' : List ℕ) (x : ℕ) → AreBytes m → record_bytes (canonical (frame_of m)) ≡ m → Writes m o o' l l' 0 → length k ≡ record_size
    → Reads (take (length (frame_bytes (frame_of m))) o') k k' x → (x ≡ 0) × (k' ≡ m)
unfolding left sized write_verdict require
written-then-read m o o' l l' k k' x bytes plain w size r =
    let f = frame_of m in
    let (_, ok) = none-is-0 (writing m o l) w.number in
    let (_, v1) = sized-says m record_size _ ok in
    let (_, v2) = sized-says l length_size _ v1 in
    let (_, v3) = need-accepted (is_known (get_or m record_kind 0)) _ (write_verdict f (length o)) v2 in
    let (v4, _) = then-met (frame_verdict f) _ v3 in
    let buffer : o' ≡ frame_bytes f ++ drop (length (frame_bytes f)) o = w.buffer ∙ rw ok in
    let front : take (length (frame_bytes f)) o' ≡ frame_bytes f = ap (take (length (frame_bytes f))) buffer ∙ take_at (frame_bytes f) _ (length (frame_bytes f)) refl in
    let read = written-reads f (record-fits m bytes) v4 in
    let v : reading (take (length (frame_bytes f)) o') k ≡ Ok (as_written f) = rw (front, eq-eqb _ _ size, read) refl in
    (r.number ∙ rw v refl, r.message ∙ rw v plain)

-- ---- the same at the front of bytes

taken-bytes : (n : ℕ) (s : List ℕ) → AreBytes s → AreBytes (take n s)
taken-bytes n s y j =
    ⊎_elim (λ (h : ltb j n ≡ true). rw (get_or-take n s j 0 (ltb-true j n h)) (y j))
    (λ (h : ltb j n ≡ false).
    rw (get_or-eq_default (take n s) 0 {n = j} (omega (arith, length-take n s, ltb-false j n h))) (omega arith))
    (known (ltb j n))

front-then-written : (s m m' j j' o o' l l' : List ℕ) (x : ℕ) (g : Reading) → AreBytes s → ReadsFront s m m' j j' 0
    → read_front s ≡ Ok g → g.taken ≤ length o → length l ≡ length_size
    → Writes m' o o' l l' x → (x ≡ 0) × (o' ≡ overwritten (take g.taken s) o) × (l' ≡ j')
unfolding left sized require
front-then-written s m m' j j' o o' l l' x g bytes r e room size w =
    let (_, given) = none-is-0 (reading_front s m j) r.number in
    let (whole, v1) = sized-says m record_size _ given in
    let (measured, _) = sized-says j length_size (read_front s) v1 in
    let ok : reading_front s m j ≡ Ok g = rw (eq-eqb _ _ whole, eq-eqb _ _ measured) e in
    let piece = take g.taken s in
    let fits : length piece ≡ g.taken = length-take-le g.taken s (front-takes s e).1 in
    let same : reading piece m ≡ Ok g = rw (eq-eqb _ _ whole) (piece-accepted s bytes e) in
    let read : Reads piece m m' 0 = record { number = rw same refl; message = r.message ∙ rw (ok, same) refl } in
    let (zero, buffer, long) = read-then-written piece m m' o o' l l' x (taken-bytes g.taken s bytes) read (omega arith) size w in
    let took : j' ≡ length_bytes g.taken = r.size ∙ rw ok refl in
    (zero, buffer, long ∙ ap length_bytes fits ∙ sym took)

written-then-front : (m o o' l l' k k' j j' : List ℕ) (x : ℕ) → AreBytes m → record_bytes (canonical (frame_of m)) ≡ m → Writes m o o' l l' 0 → length k ≡ record_size
    → length j ≡ length_size → ReadsFront o' k k' j j' x → (x ≡ 0) × (k' ≡ m) × (j' ≡ l')
unfolding left sized write_verdict require
written-then-front m o o' l l' k k' j j' x bytes plain w size room r =
    let f = frame_of m in
    let (_, ok) = none-is-0 (writing m o l) w.number in
    let (_, v1) = sized-says m record_size _ ok in
    let (_, v2) = sized-says l length_size _ v1 in
    let (_, v3) = need-accepted (is_known (get_or m record_kind 0)) _ (write_verdict f (length o)) v2 in
    let (v4, _) = then-met (frame_verdict f) _ v3 in
    let buffer : o' ≡ frame_bytes f ++ drop (length (frame_bytes f)) o = w.buffer ∙ rw ok in
    let read : read_front o' ≡ Ok (as_written f) = ap read_front buffer ∙ written-reads-back f (record-fits m bytes) v4 (drop (length (frame_bytes f)) o) in
    let v : reading_front o' k j ≡ Ok (as_written f) = rw (eq-eqb _ _ size, eq-eqb _ _ room, read) refl in
    let took : j' ≡ length_bytes (length (frame_bytes f)) = r.size ∙ rw v refl in
    let wrote : l' ≡ length_bytes (length (frame_bytes f)) = w.size ∙ rw ok refl in
    (r.number ∙ rw v refl, r.message ∙ rw v plain, took ∙ sym wrote)

pub demand2-messages : Demand2
demand2-messages = record {
  read-then-written = read-then-written;
  written-then-read = written-then-read;
  front-then-written = front-then-written;
  written-then-front = written-then-front;
}
