-- The writer and the reader are inverse to each other: what is written reads back as the frame, what is read is what was written,
-- no two frames share their bytes, and no message is longer than the longest.
use mathlib.Core.Path.{◌≡◌, sym, ap, ◌∙◌}
use mathlib.Core.List.{List, [], ◌++◌, append-nil}
use Prim.Native.Nat.{ℕ, ◌+◌, ◌*◌, ◌^◌, ◌≤◌}
use native.Mathlib.Omega.{arith}
use lib.ListN.{length, drop, length-take}
use lib.Seq.{length-take-le, take_all}
use borrow.Author.Tests.{leb-true}
use Rattle.views.specs.declared.View.{View}
use Rattle.views.specs.declared.refusal.Refusal.TheVariants.{SectionCount}
use Rattle.std.specs.Prelude.{Ok}
use Rattle.views.specs.Limits.{max_views, longest}
use Rattle.views.specs.Lists.{list_of}
use Rattle.wire.specs.declared.Message.{Message}
use Rattle.wire.specs.declared.Message.TheVariants.{Info}
use Rattle.wire.specs.declared.Frame.{Frame}
use Rattle.wire.specs.declared.Reading.{Reading}
use Rattle.wire.specs.Format.{kind_of, numbers_of, bytes_of, views_allowed, content_of}
use Rattle.wire.specs.Reader.{view_count, numbers_place, number_count, views_in, number_in, whole_of, frame_in, read_front}
use Rattle.wire.specs.Single.{read_one}
use Rattle.wire.specs.Writer.{number_of, frame_bytes, frame_verdict, overwritten}
pub use Rattle.wire.specs.Widths.{Fits}
pub use Rattle.wire.specs.Promises.{canonical, as_written, WrittenAs}
use Rattle.wire.proofs.TripViews.{AreBytes, get-fits, views-fit}
use Rattle.wire.proofs.TripWritten.{Holds, bytes-hold, held_reads}
use Rattle.wire.proofs.TripRead.{Scanned, scanned, front-met, front-is, message-read, list_read, bytes-again, verdict-again}
use Rattle.wire.proofs.TripMessages.{told-met, number_fits, sections-short}
use Rattle.views.proofs.VerdictLaws.{need-accepted, after-met}
use Rattle.views.proofs.PlaceLaws.{length-places, list-placed}
use Rattle.wire.proofs.FormatLaws.{views-few}
use Rattle.wire.proofs.ReaderLaws.{read_all}
use Rattle.wire.proofs.WriterLaws.{length-bytes}

-- ---- what is written is read

pub written-reads-back : (f : Frame) → Fits f → frame_verdict f ≡ Ok tt → (rest : List ℕ)
    → read_front (frame_bytes f ++ rest) ≡ Ok (as_written f)
unfolding frame_verdict
written-reads-back f fit v rest =
    let m = f.message in
    let l = list_of f.views in
    let met = need-accepted (views_allowed (kind_of m) f.views.count) SectionCount (content_of (kind_of m) l (number_of m)) v in
    let allowed = met.0 in
    let content = met.1 in
    let n : length l ≡ f.views.count =
    length-take-le f.views.count f.views.at (omega (arith, views-few (kind_of m) f.views.count allowed, fit.room))
    in
    let holds : Holds (frame_bytes f ++ rest) f.view.0 m l =
    bytes-hold f.view.0 m l rest fit.view fit.each (number_fits m fit.entry (told-met (kind_of m) l (number_of m) content))
    in
    let taken : length (frame_bytes f) ≡ 6 + 5 * length l + 1 + 8 * length (numbers_of m) = omega (arith, length-bytes f.view.0 m l) in
    rw taken (held_reads (frame_bytes f ++ rest) f.view.0 m l holds (rw n allowed) content)

-- and nothing is left over
pub written-reads : (f : Frame) → Fits f → frame_verdict f ≡ Ok tt → read_one (frame_bytes f) ≡ Ok (as_written f)
written-reads f fit v =
    let front : read_front (frame_bytes f) ≡ Ok (as_written f) = rw append-nil at (written-reads-back f fit v []) in
    read_all (frame_bytes f) (as_written f) front (omega arith)

-- so what a write leaves in a buffer reads back, whatever lies behind it
pub buffer-reads-back : (f : Frame) → Fits f → frame_verdict f ≡ Ok tt → (b : List ℕ) → read_front (overwritten (frame_bytes f) b) ≡ Ok (as_written f)
buffer-reads-back f fit v b = written-reads-back f fit v (drop (length (frame_bytes f)) b)

-- ---- what is read is written

frame-fits : (b : List ℕ) → AreBytes b → Scanned b → whole_of b ≡ Ok tt → Fits (frame_in b)
unfolding number_in
frame-fits b y s w =
    let a = message-read b y s w in
    record {
      view = get-fits b 1 4 y;
      entry = λ x e.
          let one : number_count b ≡ 1 = sym a.count-again ∙ ap (λ (m : Message). length (numbers_of m)) e in
          let carried : number_in b ≡ x = sym a.number-again ∙ ap number_of e in
          let width : 256 ^ (8 * number_count b) ≡ 256 ^ 8 = ap (λ (k : ℕ). 256 ^ (8 * k)) one in
          omega (arith, get-fits b (numbers_place b + 1) (8 * number_count b) y);
      each = rw (list_read b y s w) (views-fit b 6 (view_count b) y);
      room = length-places (views_in b 6 (view_count b));
    }

pub read-is-written : (b : List ℕ) (r : Reading) → AreBytes b → read_front b ≡ Ok r → WrittenAs b r
read-is-written b r y e =
    let (scan, w) = front-met b e in
    let s = scanned b scan in
    rw (front-is b e) (record { bytes = bytes-again b y s w; verdict = verdict-again b y s w; fits = frame-fits b y s w })

-- bytes read as one message are read as at the front, and none are left over
pub read-takes-all : {r : Reading} (b : List ℕ) → read_one b ≡ Ok r → (read_front b ≡ Ok r) × (length b ≤ r.taken)
unfolding read_one
read-takes-all {r} b e =
    let (x, front, rest) = after-met (read_front b) _ e in
    let (met, given) = need-accepted _ _ _ rest in
    let same : x ≡ r = cc in
    (rw same at front, rw same at (leb-true (length b) x.taken met))

pub read-whole-is-written : (b : List ℕ) (r : Reading) → AreBytes b → read_one b ≡ Ok r → b ≡ frame_bytes r.frame
read-whole-is-written b r y e =
    let (front, all) = read-takes-all b e in
    sym (take_all r.taken b all) ∙ (read-is-written b r y front).bytes

-- ---- what follows

-- no two frames share their bytes: what lies in unused places is not written
pub no-two-share : (f g : Frame) → Fits f → Fits g → frame_verdict f ≡ Ok tt → frame_verdict g ≡ Ok tt → frame_bytes f ≡ frame_bytes g
    → canonical f ≡ canonical g
no-two-share f g ff fg vf vg e =
    let read : Ok (as_written f) ≡ Ok (as_written g) = sym (written-reads f ff vf) ∙ ap read_one e ∙ written-reads g fg vg in
    let same : as_written f ≡ as_written g = cc in
    ap (λ (r : Reading). r.frame) same

-- and what lies there makes no difference to the bytes
pub canonical-same-bytes : (f : Frame) → Fits f → frame_bytes (canonical f) ≡ frame_bytes f
canonical-same-bytes f fit =
    let l = list_of f.views in
    let n : length l ≤ max_views = omega (arith, length-take f.views.count f.views.at, fit.room) in
    ap (λ (k : List View). bytes_of f.view.0 f.message k) (list-placed l n)

pub longest-is-longest : (f : Frame) → frame_verdict f ≡ Ok tt → length (frame_bytes f) ≤ longest
unfolding frame_verdict
longest-is-longest f v =
    let m = f.message in
    let l = list_of f.views in
    let met = need-accepted (views_allowed (kind_of m) f.views.count) SectionCount (content_of (kind_of m) l (number_of m)) v in
    omega (
      arith,
      length-bytes f.view.0 m l,
      length-take f.views.count f.views.at,
      sections-short m f.views.count met.0,
    )

-- and an info of all 32 views is as long
pub longest-is-reached : (g : ℕ) (l : List View) → length l ≡ max_views → length (bytes_of g Info l) ≡ longest
longest-is-reached g l n = omega (arith, length-bytes g Info l)
