-- The verdict on a message that nothing is built for: what each test makes of it, and what it makes of the reading.
use mathlib.Core.Path.{◌≡◌, refl, sym, ap, ◌∙◌}
use mathlib.Core.Bool.{true, false}
use mathlib.Core.List.{List}
use Prim.Native.Nat.{ℕ, ◌+◌, ◌<◌, ◌≤◌}
use native.Mathlib.Omega.{arith}
use borrow.Author.Tests.{eqb-true, eq-eqb, ne_eqb}
use lib.Dec.{leb}
use lib.ListN.{length}
use Rattle.numbers.specs.Number.{get}
use Rattle.views.specs.declared.View.{View}
use Rattle.views.specs.declared.refusal.Refusal.{Refusal}
use Rattle.views.specs.declared.refusal.Refusal.TheVariants.{EmptySet, NotRising, ToldOutOfRange, BytesLeftOver}
use Rattle.std.specs.Prelude.{Ok, Err}
use Rattle.views.specs.Refusals.{require, verdict_given}
use Rattle.views.specs.Limits.{max_ordered}
use Rattle.views.specs.Sets.{both}
use Rattle.views.specs.Lists.{is_rising}
use Rattle.wire.specs.declared.Reading.{Reading}
use Rattle.wire.specs.Format.{some_empty, told_fits, content_of, views_allowed, numbers_allowed}
use Rattle.wire.specs.Reader.{kind_in, view_count, numbers_place, number_count, end_of, number_in, frame_in, scan_of, whole_of, read_front, front_of}
use Rattle.wire.specs.Single.{read_one}
use Rattle.views.proofs.VerdictLaws.{after-ok, after-err, after-met, after-refused, given-met}
use Rattle.wire.proofs.ReaderLaws.{a-number, front-unshaped, front-refused, front_read, read-refused, read-over, read_all}
use Rattle.wire.proofs.TripRead.{scanned, front-met, front-is}
use Rattle.wire.proofs.RoundTrip.{read-takes-all}

-- ---- 35 to 37, of a kind with the views l and the number x

module _ (kind : ℕ) (l : List View) (x : ℕ) where
  pub content-empty : some_empty l ≡ true → content_of kind l x ≡ Err EmptySet
  unfolding content_of require
  content-empty e = rw e

  pub content-falling : some_empty l ≡ false → is_rising l ≡ false → content_of kind l x ≡ Err NotRising
  unfolding content_of require
  content-falling e f = rw (e, f)

  pub content-told : some_empty l ≡ false → is_rising l ≡ true → told_fits kind x ≡ false → content_of kind l x ≡ Err ToldOutOfRange
  unfolding content_of require
  content-told e f t = rw (e, f, t)

  pub content-fine : some_empty l ≡ false → is_rising l ≡ true → told_fits kind x ≡ true → content_of kind l x ≡ Ok tt
  unfolding content_of require
  content-fine e f t = rw (e, f, t)

-- only a told's number is asked
pub told-asked : (kind x : ℕ) → kind ≡ 4 → told_fits kind x ≡ both (leb 1 x) (leb x max_ordered)
unfolding told_fits
told-asked kind x e = rw (eq-eqb kind 4 e)

pub other_fits : (kind x : ℕ) → (kind ≡ 4 → ⊥) → told_fits kind x ≡ true
unfolding told_fits
other_fits kind x h = rw (ne_eqb kind 4 h)

module _ (b : List ℕ) where
  -- a told carries no views and one number, which stands at 7
  module _ (scan : scan_of b ≡ Ok tt) (told : kind_in b ≡ 4) where
    pub no-views : view_count b ≡ 0
    unfolding views_allowed
    no-views = let t = (scanned b scan).views in eqb-true _ _ (rw told at t)

    pub one_number : number_count b ≡ 1
    unfolding numbers_allowed
    one_number = let t = (scanned b scan).numbers in eqb-true _ _ (rw told at t)

    pub told_here : told_fits (kind_in b) (number_in b) ≡ both (leb 1 (get b 7 8)) (leb (get b 7 8) max_ordered)
    told_here =
        let place : numbers_place b + 1 ≡ 7 = omega (arith, no-views) in
        told-asked (kind_in b) (number_in b) told ∙ rw (a-number b one_number, place)

  -- ---- the message at the front

  pub front-shape : (r : Refusal) → scan_of b ≡ Err r → front_of b ≡ Err r
  front-shape r s = after-err _ (front-unshaped b r s)

  pub front-content : scan_of b ≡ Ok tt → (r : Refusal) → whole_of b ≡ Err r → front_of b ≡ Err r
  front-content s r w = after-err _ (front-refused b r s w)

  pub front-whole : scan_of b ≡ Ok tt → whole_of b ≡ Ok tt → front_of b ≡ Ok (end_of b)
  front-whole s w = after-ok _ (front_read b _ _ _ s w refl refl refl)

  -- what was refused at the front
  module _ (r : Refusal) (e : front_of b ≡ Err r) where
    pub refused-front : read_front b ≡ Err r
    refused-front = after-refused (read_front b) _ e

    -- and of the bytes as one message
    pub says-refused : read_one b ≡ Err r
    says-refused = read-refused b r refused-front

  -- what was accepted there, of n bytes
  module _ (n : ℕ) (e : front_of b ≡ Ok n) where
    took : (x : Reading) × (read_front b ≡ Ok x) × (x.taken ≡ n)
    took = let (x, r, t) = after-met (read_front b) _ e in (x, r, cc)

    pub scan-front : scan_of b ≡ Ok tt
    scan-front = let (x, r, _) = took in (front-met b r).0

    pub read-from : read_front b ≡ Ok (record { taken = n; frame = frame_in b })
    read-from =
        let (x, r, t) = took in
        let i : x ≡ record { taken = end_of b; frame = frame_in b } = front-is b r in
        let k : end_of b ≡ n = sym (ap (λ (y : Reading). y.taken) i) ∙ t in
        r ∙ rw (i, k)

    -- and of the bytes as one message
    pub says-over : n < length b → read_one b ≡ Err BytesLeftOver
    says-over h = read-over b _ read-from h

    pub says_all : length b ≤ n → read_one b ≡ Ok (record { taken = n; frame = frame_in b })
    says_all h = read_all b _ read-from h

  -- bytes that are one message are read as at the front
  pub at_front : verdict_given (read_one b) ≡ Ok tt → (r : Reading) × (read_one b ≡ Ok r) × (read_front b ≡ Ok r)
  at_front v = let (r, e) = given-met (read_one b) v in (r, e, (read-takes-all b e).0)
