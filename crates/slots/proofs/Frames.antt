-- The message in a slot as it is loaded, and its frame, are its entry's message: the same wire message, the same views, and so the same bytes.
use mathlib.Core.Path.{◌≡◌, refl, ap₂, ◌∙◌}
use mathlib.Core.Bool.{Bool, true, false, cond}
use mathlib.Core.List.{List, [], ◌∷◌}
use Prim.Native.Nat.{ℕ, ◌+◌, ◌%◌, ◌≤◌, ◌<◌, min}
use native.Mathlib.Omega.{arith}
use lib.Dec.{eqb}
use lib.ListN.{length}
use Rattle.views.specs.declared.View.{View}
use Rattle.views.specs.Limits.{max_views}
use Rattle.views.specs.Lists.{list_of}
use Rattle.wire.specs.declared.Message.{Message as Carried}
use Rattle.wire.specs.declared.Message.TheVariants.{Info}
use Rattle.wire.specs.Format.{is_known, bytes_of}
use Rattle.wire.specs.Reader.{views_in, message_of}
use Rattle.wire.specs.Writer.{frame_bytes, LiesAt}
use Rattle.wire.proofs.ReaderLaws.{list-views_in, length-views_in}
use Rattle.wire.proofs.TripMessages.{both_first, both-second, Kind, kind-of-known, number-lies}
use Rattle.rules.specs.Sound.{within}
use Rattle.rules.specs.Alone.{views_of, carried_of, message_bytes, info_of}
use Rattle.rules.proofs.TestLaws.{within-says}
use Rattle.slots.specs.Slots.{kind_in, number_in, count_in, info_in, message_by, message_in, fits_kind, slot_fits}
use Rattle.slots.specs.FrameParts.{framed, carried_at, frame_at}

-- the slot at a place can be sent as it stands: it fits, and a told's number is a byte, as the frame's is
pub record EntryOk (b : List ℕ) (at : ℕ) : Type 0 where
  pub fits : slot_fits b at ≡ true
  pub told : kind_in b at ≡ 4 → number_in b at < 256

-- ---- the message of a kind, over plain numbers and lists

info-carried : (l : List View) → Info ≡ carried_of (info_of l)
info-carried [] = refl
info-carried (v ∷ l) = refl

info-views : (l : List View) → 1 ≤ length l → l ≡ views_of (info_of {M = ℕ} l)
info-views [] h = absurd (omega arith)
info-views (v ∷ l) h = refl

held_carried : (k x : ℕ) (l : List View) → Kind k → (k ≡ 4 → x < 256) → message_of k x ≡ carried_of (message_by k x l x)
unfolding message_of
held_carried k x l Kind.client t = refl
held_carried k x l Kind.info t = info-carried l
held_carried k x l Kind.registered t = refl
held_carried k x l Kind.told t = let h = t refl in let e : x % 256 ≡ x = omega arith in rw e

-- ---- what a kind and a count that fit say

pub kind_fits : (k n : ℕ) → fits_kind k n ≡ true → Kind k
kind_fits k n e = kind-of-known k (both_first (is_known k) _ e)

-- an info's count is that of some views, and of no more than places
pub info-counted : (k n : ℕ) → fits_kind k n ≡ true → k ≡ 2 → (1 ≤ n) × (n ≤ max_views)
info-counted k n e i =
    let f : fits_kind 2 n ≡ true = rw i at e in
    within-says 1 n max_views (both-second (is_known 2) _ f)

few-if : (t : Bool) (n : ℕ) → cond t (within 1 n max_views) true ≡ true → cond t n 0 ≤ max_views
few-if true n e = (within-says 1 n max_views e).1
few-if false n e = omega arith

pub few-framed : (k n : ℕ) → fits_kind k n ≡ true → cond (eqb k 2) n 0 ≤ max_views
few-framed k n e = few-if (eqb k 2) n (both-second (is_known k) _ e)

-- n views of an info, none of any other kind
views-of : (b : List ℕ) (at k x j n : ℕ) → Kind k → fits_kind k n ≡ true
    → views_in b at (cond (eqb k 2) n 0) ≡ views_of (message_by k x (views_in b at (min n max_views)) j)
unfolding views_in
views-of b at k x j n Kind.client f = refl
views-of b at k x j n Kind.info f =
    let t = info-counted 2 n f refl in
    let e : min n max_views ≡ n = omega (arith, t.1) in
    rw e (info-views (views_in b at n) (omega (arith, t.0, length-views_in b at n)))
views-of b at k x j n Kind.registered f = refl
views-of b at k x j n Kind.told f = refl

pub held-views : (b : List ℕ) (at k x j n : ℕ) → fits_kind k n ≡ true
    → views_in b at (cond (eqb k 2) n 0) ≡ views_of (message_by k x (views_in b at (min n max_views)) j)
held-views b at k x j n f = views-of b at k x j n (kind_fits k n f) f

-- ---- and of a slot

pub slot-kind : (b : List ℕ) (at : ℕ) → slot_fits b at ≡ true → Kind (kind_in b at)
unfolding slot_fits
slot-kind b at e = kind_fits (kind_in b at) (count_in b at) e

pub slot-count : (b : List ℕ) (at : ℕ) → slot_fits b at ≡ true → kind_in b at ≡ 2 → (1 ≤ count_in b at) × (count_in b at ≤ max_views)
unfolding slot_fits
slot-count b at e i = info-counted (kind_in b at) (count_in b at) e i

pub slot-framed : (b : List ℕ) (at : ℕ) → slot_fits b at ≡ true → framed b at ≤ max_views
unfolding slot_fits
slot-framed b at e = few-framed (kind_in b at) (count_in b at) e

-- ---- the message as it is loaded

module _ (b : List ℕ) (at : ℕ) (ok : EntryOk b at) where
  kind : Kind (kind_in b at)
  kind = slot-kind b at ok.fits

  carried-at : carried_at b at ≡ carried_of (message_in b at)
  unfolding message_in
  carried-at = held_carried (kind_in b at) (number_in b at) (info_in b at) kind ok.told

  views-at : views_in b (at + 11) (framed b at) ≡ views_of (message_in b at)
  unfolding message_in info_in slot_fits
  views-at = held-views b (at + 11) (kind_in b at) (number_in b at) (number_in b at) (count_in b at) ok.fits

  -- its number, where it lies
  pub number_at : LiesAt (carried_at b at) b (at + 2)
  number_at = number-lies b (at + 2) (kind_in b at) kind ok.told

-- ---- the frame

module _ (b : List ℕ) (at g : ℕ) (ok : EntryOk b at) where
  pub frame-carried : (frame_at b at g).message ≡ carried_of (message_in b at)
  unfolding frame_at
  frame-carried = carried-at b at ok

  pub frame-views : list_of (frame_at b at g).views ≡ views_of (message_in b at)
  unfolding frame_at
  frame-views =
      list-views_in b (at + 11) (framed b at) (slot-framed b at ok.fits) ∙ views-at b at ok

  pub frame-message : frame_bytes (frame_at b at g) ≡ message_bytes g (message_in b at)
  unfolding frame_at
  frame-message = ap₂ (λ (m : Carried) (l : List View). bytes_of g m l) frame-carried frame-views
