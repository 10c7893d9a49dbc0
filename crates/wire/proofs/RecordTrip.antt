-- Records and frames: the frame of a record's bytes is the frame they were stored from, and the record of a message, written and read again, is that record.
use mathlib.Core.Path.{◌≡◌, refl, sym, ap, ◌∙◌}
use mathlib.Core.Bool.{Bool, true, false, cond}
use mathlib.Core.List.{List, [], ◌∷◌, ◌++◌, append_assoc, append-nil}
use Prim.Native.Nat.{ℕ, zero, suc, ◌^◌, ◌<◌}
use native.Mathlib.Omega.{arith}
use lib.Dec.{eqb, ltb}
use lib.ListN.{length, get_or, take, replicate, length-append, length-take}
use Rattle.numbers.specs.Number.{get, digits}
use Rattle.numbers.proofs.NumberLaws.{length_digits, get-digits}
use Rattle.views.specs.declared.View.{View}
use Rattle.views.specs.declared.refusal.Refusal.{Refusal}
use Rattle.std.specs.Prelude.{Result, Ok}
use Rattle.views.specs.Limits.{max_views}
use Rattle.views.specs.Lists.{no_view, list_of, places}
use Rattle.views.proofs.PlaceLaws.{length-places}
use Rattle.wire.specs.declared.Message.{Message}
use Rattle.wire.specs.declared.Message.TheVariants.{Client, Info, Registered, Told}
use Rattle.wire.specs.declared.Frame.{Frame}
use Rattle.wire.specs.declared.Reading.{Reading}
use Rattle.wire.specs.Format.{told_kind, kind_of, views_bytes, told_fits, views_allowed, content_of}
use Rattle.wire.specs.Reader.{views_in}
use Rattle.wire.specs.Single.{read_one}
use Rattle.wire.specs.Writer.{number_of, frame_bytes, frame_verdict}
use Rattle.views.proofs.VerdictLaws.{need-accepted}
use Rattle.wire.proofs.TripViews.{ViewFits, EachFits, AreBytes, get-fits, views-fit, views-back}
use Rattle.wire.proofs.ReaderLaws.{length-views_in}
use Rattle.wire.proofs.TripMessages.{told-met, number_fits, message-back, client-number, kind-known}
use Rattle.wire.proofs.RoundTrip.{Fits, canonical, as_written, canonical-same-bytes, written-reads, read-is-written, read-takes-all, read-whole-is-written}
use Rattle.wire.specs.Records.{record_kind, record_identifier, record_number, record_count, record_views, head_bytes, record_bytes, reading_bytes, counted, frame_of}
use Rattle.wire.specs.Promises.{RecordOf}
use Rattle.wire.proofs.RecordLaws.{length-head, counted-kept}

-- ---- the places of views

none-fits : ViewFits no_view
none-fits = record { id = omega arith; set = omega arith }

zeros-fit : (n : ℕ) → EachFits (replicate n no_view)
zeros-fit zero j = none-fits
zeros-fit (suc n) zero = none-fits
zeros-fit (suc n) (suc j) = zeros-fit n j

append-fit : (l m : List View) → EachFits l → EachFits m → EachFits (l ++ m)
append-fit [] m h k j = k j
append-fit (v ∷ l) m h k zero = h 0
append-fit (v ∷ l) m h k (suc j) = append-fit l m (λ i. h (suc i)) k j

pub take-fit : (n : ℕ) (l : List View) → EachFits l → EachFits (take n l)
take-fit zero l h j = none-fits
take-fit (suc n) [] h j = none-fits
take-fit (suc n) (v ∷ l) h zero = h 0
take-fit (suc n) (v ∷ l) h (suc j) = take-fit n l (λ i. h (suc i)) j

places-fit : (l : List View) → EachFits l → EachFits (places l)
unfolding places
places-fit l h = take-fit max_views (l ++ replicate max_views no_view) (append-fit l (replicate max_views no_view) h (zeros-fit max_views))

-- ---- the number

number_bound : (m : Message) → ((x : ℕ) → m ≡ Client x → x < 256 ^ 8) → told_fits (kind_of m) (number_of m) ≡ true → number_of m < 256 ^ 8
number_bound (Client x) h t = h x refl
number_bound Info h t = omega arith
number_bound Registered h t = omega arith
number_bound (Told k) h t = number_fits (Told k) h t

-- ---- a record's bytes

regroup : (k : ℕ) (a b c v : List ℕ) → ((k ∷ a) ++ (b ++ c)) ++ v ≡ (k ∷ a) ++ (b ++ (c ++ v))
regroup k a b c v = simp append_assoc

pub frame_back : (f : Frame) → f.view.0 < 256 ^ 4 → number_of f.message < 256 ^ 8 → told_fits (kind_of f.message) (number_of f.message) ≡ true
    → f.views.count < 256 ^ 1 → length f.views.at ≡ max_views → EachFits f.views.at → frame_of (record_bytes f) ≡ f
unfolding frame_of record_bytes head_bytes
frame_back f hg hx told hn z each =
    let kind = kind_of f.message in
    let g = f.view.0 in
    let x = number_of f.message in
    let n = f.views.count in
    let at = f.views.at in
    let a = digits 4 g in
    let b = digits 8 x in
    let d = digits 1 n in
    let v = views_bytes at in
    let r = ((kind ∷ a) ++ (b ++ d)) ++ v in
    let re : r ≡ (kind ∷ a) ++ (b ++ (d ++ v)) = regroup kind a b d v in
    let la : length (kind ∷ a) ≡ 5 = omega (arith, length_digits 4 g) in
    let lb : length ((kind ∷ a) ++ b) ≡ 13 = length-append (kind ∷ a) b ∙ omega (arith, length_digits 8 x) in
    let view : get r 1 4 ≡ g = ap (λ (l : List ℕ). get l 1 4) re ∙ get-digits (kind ∷ []) 4 g (b ++ (d ++ v)) hg in
    let number : get r 5 8 ≡ x = ap (λ (l : List ℕ). get l 5 8) re ∙ (rw la at (get-digits (kind ∷ a) 8 x (d ++ v) hx)) in
    let count : get r 13 1 ≡ n =
    ap (λ (l : List ℕ). get l 13 1) (re ∙ sym (append_assoc (kind ∷ a) b (d ++ v))) ∙ (rw lb at (get-digits ((kind ∷ a) ++ b) 1 n v hn))
    in
    let list : views_in r 14 max_views ≡ at =
    rw (append-nil v, length-head kind g x n, z) at (views-back (head_bytes kind g x n) at [] each)
    in
    rw (view, number, counted-kept kind x told, message-back f.message told, count, list)

-- ---- written and read

-- the record of a message that can be written, with 0 in the places it does not use, is its frame again
record-back : (f : Frame) → Fits f → frame_verdict f ≡ Ok tt → frame_of (record_bytes (canonical f)) ≡ canonical f
unfolding frame_verdict
record-back f fit v =
    let m = f.message in
    let l = list_of f.views in
    let content = (need-accepted (views_allowed (kind_of m) f.views.count) _ (content_of (kind_of m) l (number_of m)) v).1 in
    let told = told-met (kind_of m) l (number_of m) content in
    let few : length l < 256 ^ 1 = omega (arith, length-take f.views.count f.views.at, fit.room) in
    frame_back (canonical f) fit.view (number_bound m fit.entry told) told few (length-places l) (places-fit l fit.each)

-- and is what reading gives of what writing it gives
pub written-record-returns : (f : Frame) (old : List ℕ) → Fits f → frame_verdict f ≡ Ok tt
    → reading_bytes (read_one (frame_bytes (frame_of (record_bytes (canonical f))))) old ≡ record_bytes (canonical f)
written-record-returns f old fit v =
    ap (λ (y : Frame). reading_bytes (read_one (frame_bytes y)) old) (record-back f fit v)
    ∙ ap (λ (y : List ℕ). reading_bytes (read_one y) old) (canonical-same-bytes f fit)
    ∙ ap (λ (y : Result Reading Refusal). reading_bytes y old) (written-reads f fit v)

-- ---- read and written

kind-in : (f : Frame) → get_or (record_bytes f) record_kind 0 ≡ kind_of f.message
unfolding record_bytes head_bytes
kind-in f = refl

-- the record that reading gives is written as the bytes that were read
pub read-record-is-written : (b : List ℕ) (r : Reading) → AreBytes b → read_one b ≡ Ok r → RecordOf (record_bytes r.frame) b
read-record-is-written b r y e =
    let f = r.frame in
    let written = read-is-written b r y (read-takes-all b e).0 in
    let bytes : b ≡ frame_bytes f = read-whole-is-written b r y e in
    -- what was read has the zero view in its unused places
    let again : Ok r ≡ Ok (as_written f) = sym e ∙ ap read_one bytes ∙ written-reads f written.fits written.verdict in
    let same : r ≡ as_written f = cc in
    let plain : f ≡ canonical f = ap (λ (x : Reading). x.frame) same in
    let back : frame_of (record_bytes f) ≡ f = ap (λ (z : Frame). frame_of (record_bytes z)) plain ∙ record-back f written.fits written.verdict ∙ sym plain in
    record {
      kind = rw (kind-in f) (kind-known f.message);
      verdict = ap frame_verdict back ∙ written.verdict;
      bytes = ap (λ (z : Frame). frame_bytes z) back ∙ sym bytes;
    }

-- ---- any record

counted-few : (t u : Bool) (x : ℕ) → x < 256 ^ 8 → cond t (cond u x 0) x < 256 ^ 8
counted-few true true x h = h
counted-few true false x h = omega arith
counted-few false u x h = h

-- the frame that a record's bytes are is within its widths
pub record-fits : (m : List ℕ) → AreBytes m → Fits (frame_of m)
unfolding frame_of counted
record-fits m y = record {
  view = get-fits m record_identifier 4 y;
  entry = λ x e.
      let k = client-number (get_or m record_kind 0) _ x e in
      rw k (counted-few (eqb (get_or m record_kind 0) told_kind) (ltb (get m record_number 8) 256) (get m record_number 8) (get-fits m record_number 8 y));
  each = take-fit (get m record_count 1) (views_in m record_views max_views) (views-fit m record_views max_views y);
  room = length-views_in m record_views max_views;
}

-- what was read has its 32 places
pub read-places : {r : Reading} (b : List ℕ) → AreBytes b → read_one b ≡ Ok r → length r.frame.views.at ≡ max_views
read-places {r} b y e = (read-is-written b r y (read-takes-all b e).0).fits.room
