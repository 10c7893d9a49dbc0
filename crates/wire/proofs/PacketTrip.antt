-- Packets: what is written is read, message for message, and what is read is written; and the bytes of each message by themselves.
use mathlib.Core.Path.{◌≡◌, refl, sym, ap, ap₂, ◌∙◌}
use mathlib.Core.Logic.{◌⊎◌, inl, inr, ⊎_elim}
use mathlib.Core.List.{List, [], ◌∷◌, ◌++◌, map, flatten, append-nil}
use Prim.Native.Nat.{ℕ, zero, suc, ◌+◌, ◌<◌, ◌≤◌}
use native.Mathlib.Omega.{arith}
use borrow.Author.Tests.{eq-eqb, ne_eqb}
use lib.ListN.{length, take, drop, length-append, length-drop, take-append-drop}
use lib.Seq.{drop-append_seam, take_at, get_or-drop}
use Rattle.views.specs.declared.refusal.Refusal.{Refusal}
use Rattle.std.specs.Prelude.{Result, Ok, Err}
use Rattle.views.specs.Lists.{list_of}
use Rattle.wire.specs.declared.Frame.{Frame}
use Rattle.wire.specs.declared.Reading.{Reading}
use Rattle.wire.specs.Widths.{AreBytes}
use Rattle.wire.specs.Reader.{read_front}
use Rattle.wire.specs.Single.{read_one}
use Rattle.wire.specs.Writer.{frame_bytes}
use Rattle.wire.specs.Packets.{packet_of, following, readings_by, readings_in, piece_of, rest_of, cut_by, pieces_in}
use Rattle.wire.specs.Promises.{as_written, AllWritable, Packets}
use Rattle.wire.proofs.WriterLaws.{length-bytes}
use Rattle.wire.proofs.ReaderLaws.{read-refused}
use Rattle.wire.proofs.TripRead.{scanned, front-met, front-is}
use Rattle.wire.proofs.RoundTrip.{written-reads-back, written-reads, read-is-written}

-- ---- how many bytes a message takes

pub front-takes : {r : Reading} (s : List ℕ) → read_front s ≡ Ok r → (7 ≤ r.taken) × (r.taken ≤ length s)
front-takes s e =
    let (scan, _) = front-met s e in
    omega (arith, (scanned s scan).size, ap (λ (x : Reading). x.taken) (front-is s e))

frame-long : (f : Frame) → 7 ≤ length (frame_bytes f)
frame-long f = omega (arith, length-bytes f.view.0 f.message (list_of f.views))

-- bytes behind others are bytes
pub drop-bytes : (n : ℕ) (s : List ℕ) → AreBytes s → AreBytes (drop n s)
drop-bytes n s y j = rw (get_or-drop n s j 0) (y (n + j))

nothing : (s : List ℕ) → length s ≡ 0 → s ≡ []
nothing [] e = refl
nothing (x ∷ s) e = absurd (omega arith)

-- ---- the readings of bytes: none, one that is refused, or one behind which the others come

none_or_some : (n : ℕ) → (n ≡ 0) ⊎ (0 < n)
none_or_some zero = inl refl
none_or_some (suc n) = inr (omega arith)

by-more : (n : ℕ) (s : List ℕ) → 0 < length s → readings_by (suc n) s ≡ read_front s ∷ following (read_front s) (λ r. readings_by n (drop r.taken s))
unfolding readings_by
by-more n s h = rw (ne_eqb (length s) 0 (λ e. omega arith))

by_end : (n : ℕ) (s : List ℕ) → length s ≡ 0 → readings_by n s ≡ []
unfolding readings_by
by_end zero s h = refl
by_end (suc n) s h = rw (eq-eqb (length s) 0 h)

module _ (P : List ℕ → List (Result Reading Refusal) → Type 0)
    (end : (s : List ℕ) → length s ≡ 0 → P s [])
    (stop : (s : List ℕ) (d : Refusal) → 0 < length s → read_front s ≡ Err d → P s (Err d ∷ []))
    (more : (s : List ℕ) (r : Reading) (l : List (Result Reading Refusal)) → 0 < length s → read_front s ≡ Ok r → P (drop r.taken s) l
    → P s (Ok r ∷ l)) where
  -- by the first of them, v
  next : (n : ℕ) (s : List ℕ) → 0 < length s → (v : Result Reading Refusal) → read_front s ≡ v
      → ((r : Reading) → read_front s ≡ Ok r → P (drop r.taken s) (readings_by n (drop r.taken s)))
      → P s (v ∷ following v (λ r. readings_by n (drop r.taken s)))
  unfolding following
  next n s h (Ok r) e f = more s r _ h e (f r e)
  next n s h (Err d) e f = stop s d h e

  by : (n : ℕ) (s : List ℕ) → length s ≤ n → P s (readings_by n s)
  by zero s h = rw (by_end zero s (omega arith)) (end s (omega arith))
  by (suc n) s h =
      ⊎_elim (λ (e : length s ≡ 0). rw (by_end (suc n) s e) (end s e))
      (λ (k : 0 < length s).
      rw (by-more n s k)
      (next n s k (read_front s) refl
      (λ r e. by n (drop r.taken s) (omega (arith, length-drop r.taken s, front-takes s e)))))
      (none_or_some (length s))

  -- what holds with none, stops with a refusal and goes on behind a message holds of every packet
  pub by-readings : (s : List ℕ) → P s (readings_in s)
  by-readings s = by (length s) s (omega arith)

-- as many as there are bytes are enough
some_more : (n : ℕ) (s : List ℕ) → 0 < length s → length s ≤ n
    → (m : ℕ) × (n ≡ suc m) × (readings_by n s ≡ read_front s ∷ following (read_front s) (λ r. readings_by m (drop r.taken s)))
some_more zero s k h = absurd (omega arith)
some_more (suc m) s k h = (m, refl, by-more m s k)

enough : (s : List ℕ) (n : ℕ) → length s ≤ n → readings_by n s ≡ readings_in s
unfolding following
enough =
    by-readings (λ s l. (n : ℕ) → length s ≤ n → readings_by n s ≡ l)
    (λ s e n h. by_end n s e)
    (λ s d k e n h. let (m, _, g) = some_more n s k h in g ∙ rw e)
    (λ s r l k e f n h.
    let (m, i, g) = some_more n s k h in
    g ∙ rw e (ap (λ (x : List (Result Reading Refusal)). Ok r ∷ x) (f m (omega (arith, i, length-drop r.taken s, front-takes s e)))))

pub readings-none : (s : List ℕ) → length s ≡ 0 → readings_in s ≡ []
readings-none s h = by_end (length s) s h

pub readings-some : (s : List ℕ) → 0 < length s → (l : List (Result Reading Refusal)) × (readings_in s ≡ read_front s ∷ l)
readings-some s k = let (m, _, g) = some_more (length s) s k (omega arith) in (_, g)

pub readings-more : {r : Reading} (s : List ℕ) → 0 < length s → read_front s ≡ Ok r → readings_in s ≡ Ok r ∷ readings_in (drop r.taken s)
unfolding following
readings-more {r} s k e =
    let (m, i, g) = some_more (length s) s k (omega arith) in
    g ∙ rw e (ap (λ (x : List (Result Reading Refusal)). Ok r ∷ x) (enough (drop r.taken s) m (omega (arith, i, length-drop r.taken s, front-takes s e))))

-- ---- what was written

pub packet-reads-back : (l : List Frame) → AllWritable l → readings_in (packet_of l) ≡ map (λ (f : Frame). Ok (as_written f)) l
unfolding flatten AllWritable
packet-reads-back [] a = readings-none [] refl
packet-reads-back (f ∷ l) (w, a) =
    let rest = packet_of l in
    let s = frame_bytes f ++ rest in
    let size = length-append (frame_bytes f) rest in
    readings-more s (omega (arith, frame-long f)) (written-reads-back f w.fits w.verdict rest)
    ∙ rw (drop-append_seam (frame_bytes f) rest) (ap (λ (r : List (Result Reading Refusal)). Ok (as_written f) ∷ r) (packet-reads-back l a))

-- its pieces are the messages
cut-written : (l : List Frame) → cut_by (map (λ (f : Frame). Ok (as_written f)) l) (packet_of l) ≡ map frame_bytes l
unfolding flatten cut_by piece_of rest_of
cut-written [] = refl
cut-written (f ∷ l) =
    rw (take_at (frame_bytes f) (packet_of l) (length (frame_bytes f)) refl, drop-append_seam (frame_bytes f) (packet_of l), cut-written l) refl

pieces-written : (l : List Frame) → AllWritable l → pieces_in (packet_of l) ≡ map frame_bytes l
pieces-written l a = ap (λ (r : List (Result Reading Refusal)). cut_by r (packet_of l)) (packet-reads-back l a) ∙ cut-written l

-- ---- what was read

-- readings of which none is refused, l: none, a refusal, or one after which the others come
written-none : (s : List ℕ) (l : List Reading) → length s ≡ 0 → ◌≡◌ {A = List (Result Reading Refusal)} [] (map (λ (r : Reading). Ok r) l)
    → packet_of (map (λ (r : Reading). r.frame) l) ≡ s
unfolding flatten
written-none s [] e a = sym (nothing s e)
written-none s (r ∷ l) e a = cc

written-stop : (d : Refusal) (l : List Reading) → Err d ∷ [] ≡ map (λ (r : Reading). Ok r) l → ⊥
written-stop d [] a = cc
written-stop d (r ∷ l) a = cc

written-more : (s : List ℕ) (r : Reading) (m : List (Result Reading Refusal)) (l : List Reading) → AreBytes s → read_front s ≡ Ok r
    → ((k : List Reading) → m ≡ map (λ (x : Reading). Ok x) k → packet_of (map (λ (x : Reading). x.frame) k) ≡ drop r.taken s)
    → Ok r ∷ m ≡ map (λ (x : Reading). Ok x) l → packet_of (map (λ (x : Reading). x.frame) l) ≡ s
unfolding flatten
written-more s r m [] y e f a = cc
written-more s r m (x ∷ l) y e f a =
    let first : x ≡ r = cc in
    let others : m ≡ map (λ (z : Reading). Ok z) l = cc in
    rw first (ap₂ (λ (p q : List ℕ). p ++ q) (sym (read-is-written s r y e).bytes) (f l others) ∙ take-append-drop r.taken s)

packet-is-written : (s : List ℕ) (l : List Reading) → AreBytes s → readings_in s ≡ map (λ (r : Reading). Ok r) l
    → packet_of (map (λ (r : Reading). r.frame) l) ≡ s
packet-is-written =
    by-readings (λ s m. (l : List Reading) → AreBytes s → m ≡ map (λ (r : Reading). Ok r) l → packet_of (map (λ (r : Reading). r.frame) l) ≡ s)
    (λ s e l y a. written-none s l e a)
    (λ s d k e l y a. absurd (written-stop d l a))
    (λ s r m k e f l y a. written-more s r m l y e (λ z. f z (drop-bytes r.taken s y)) a)

-- each piece by itself: what lies behind a message makes no difference to it
pub piece-accepted : {r : Reading} (s : List ℕ) → AreBytes s → read_front s ≡ Ok r → read_one (take r.taken s) ≡ Ok r
piece-accepted {r} s y e =
    let w = read-is-written s r y e in
    let f = r.frame in
    let parts : frame_bytes f ++ drop r.taken s ≡ s = ap (λ (x : List ℕ). x ++ drop r.taken s) (sym w.bytes) ∙ take-append-drop r.taken s in
    ap read_one w.bytes ∙ written-reads f w.fits w.verdict
    ∙ sym (ap read_front (sym parts) ∙ written-reads-back f w.fits w.verdict (drop r.taken s)) ∙ e

pub pieces-read : (s : List ℕ) → AreBytes s → map read_one (pieces_in s) ≡ readings_in s
unfolding cut_by piece_of rest_of
pieces-read =
    by-readings (λ s l. AreBytes s → map read_one (cut_by l s) ≡ l)
    (λ s e y. refl)
    (λ s d k e y. ap (λ (x : Result Reading Refusal). x ∷ []) (read-refused s d e))
    (λ s r l k e f y. ap₂ (λ (x : Result Reading Refusal) (z : List (Result Reading Refusal)). x ∷ z) (piece-accepted s y e) (f (drop-bytes r.taken s y)))

pieces-together : (s : List ℕ) → flatten (pieces_in s) ≡ s
unfolding flatten cut_by piece_of rest_of
pieces-together =
    by-readings (λ s l. flatten (cut_by l s) ≡ s)
    (λ s e. sym (nothing s e))
    (λ s d k e. append-nil s)
    (λ s r l k e f. rw f (take-append-drop r.taken s))

-- ---- all of it

pub packets : Packets
packets = record {
  packet-reads-back = packet-reads-back;
  packet-is-written = packet-is-written;
  pieces-written = pieces-written;
  pieces-together = pieces-together;
  pieces-read = pieces-read;
}
