-- A record of a known kind, asked and written where it lies: its frame's verdict, and the frame whose views are those that lie in it.
use mathlib.Core.Path.{◌≡◌, refl, sym, ap, subst, ◌∙◌}
use mathlib.Core.Logic.{⊎_elim}
use mathlib.Core.Bool.{true, false}
use mathlib.Core.List.{List}
use Prim.Native.Nat.{ℕ, ◌+◌, ◌%◌, ◌≤◌}
use native.Mathlib.Nat.{add-zero}
use native.Mathlib.Omega.{arith}
use borrow.Author.Tests.{lt-leb, le-leb, ltb-true, ltb-false}
use lib.Dec.{ltb}
use lib.ListN.{get_or, take}
use Rattle.numbers.specs.Number.{get}
use Rattle.views.specs.declared.View.{View}
use Rattle.views.specs.declared.ViewId.{ViewId}
use Rattle.views.specs.declared.refusal.Refusal.TheVariants.{SectionCount}
use Rattle.views.specs.declared.refusal.Refusal.{Refusal}
use Rattle.std.specs.Prelude.{Result, Ok, Err}
use Rattle.views.specs.Limits.{max_views}
use Rattle.views.specs.Refusals.{require}
use Rattle.views.specs.Lists.{list_of}
use Rattle.views.proofs.SetLaws.{known}
use Rattle.wire.specs.declared.Message.{Message}
use Rattle.wire.specs.declared.Frame.{Frame}
use Rattle.wire.specs.Format.{kind_of, is_known, views_allowed, told_fits, content_of}
use Rattle.wire.specs.Reader.{views_in, message_of}
use Rattle.wire.specs.Writer.{number_of, frame_bytes, frame_verdict, frame_from, LiesAt, write_verdict, Wrote}
use Rattle.wire.specs.Records.{counted, frame_of}
use Rattle.views.proofs.VerdictLaws.{need-accepted}
use Rattle.wire.proofs.FormatLaws.{views-few}
use Rattle.wire.proofs.ReaderLaws.{length-views_in, views_in-take, list-views_in}
use Rattle.wire.proofs.TripMessages.{Kind, kind-of-known, told-met, told-byte, number-lies}
use Rattle.wire.proofs.RecordLaws.{counted-large, counted-small, counted-kept}

-- ---- a message by its kind's number

kind-back : (k y : ℕ) → Kind k → kind_of (message_of k y) ≡ k
unfolding message_of
kind-back k y Kind.client = refl
kind-back k y Kind.info = refl
kind-back k y Kind.registered = refl
kind-back k y Kind.told = refl

-- a told's count too large for a byte is as much out of range as the 0 that stands for it
told-large : (x : ℕ) → 256 ≤ x → told_fits 4 0 ≡ told_fits 4 x
unfolding told_fits
told-large x h = rw (le-leb 1 x (omega arith), lt-leb x 128 (omega arith))

told-counted : (x y : ℕ) → y ≡ counted 4 x → told_fits 4 (y % 256) ≡ told_fits 4 x
told-counted x y e =
    ⊎_elim
    (λ (t : ltb x 256 ≡ true).
    let h = ltb-true x 256 t in
    let same : y ≡ x = e ∙ sym (counted-small 4 x refl h) in
    ap (told_fits 4) (omega (arith, same, h)))
    (λ (t : ltb x 256 ≡ false).
    let h = ltb-false x 256 t in
    let none : y ≡ 0 = e ∙ sym (counted-large 4 x refl h) in
    ap (λ (z : ℕ). told_fits 4 (z % 256)) none ∙ told-large x h)
    (known (ltb x 256))

number-back : (k x : ℕ) → Kind k → told_fits k (number_of (message_of k (counted k x))) ≡ told_fits k x
unfolding message_of counted told_fits
number-back k x Kind.client = refl
number-back k x Kind.info = refl
number-back k x Kind.registered = refl
number-back k x Kind.told = told-counted x (counted 4 x) refl

-- the number is asked by its range alone
content-same : (k : ℕ) (l : List View) (x y : ℕ) → told_fits k x ≡ told_fits k y → content_of k l x ≡ content_of k l y
unfolding content_of
content-same k l x y e = rw e

-- one byte as a number
one_byte : (b : List ℕ) (at : ℕ) → get b at 1 ≡ get_or b at 0
unfolding get
one_byte b at = let same : get_or b (at + 0) 0 ≡ get_or b at 0 = ap (λ (i : ℕ). get_or b i 0) (add-zero at) in omega (arith, same)

-- two frames that differ in unused places alone are written alike
same-verdict : (f g : Frame) → f.message ≡ g.message → f.views.count ≡ g.views.count → list_of f.views ≡ list_of g.views
    → frame_verdict f ≡ frame_verdict g
unfolding frame_verdict
same-verdict f g m n l = rw (l, m, n)

wrote-same : (f g : Frame) (a b : List ℕ) (w : Result ℕ Refusal) → frame_verdict f ≡ frame_verdict g → frame_bytes f ≡ frame_bytes g
    → Wrote f a b w → Wrote g a b w
unfolding write_verdict
wrote-same f g a b w v y h = record { reply = h.reply ∙ rw (v, y); buffer = h.buffer ∙ rw (v, y) }

module _ (r : List ℕ) (k : is_known (get_or r 0 0) ≡ true) where
  abbrev kind : ℕ
  kind = get_or r 0 0

  abbrev count : ℕ
  count = get_or r 13 0

  abbrev number : ℕ
  number = get r 5 8

  -- ---- 34 to 37

  pub record-crowded : views_allowed kind count ≡ false → frame_verdict (frame_of r) ≡ Err SectionCount
  unfolding frame_verdict frame_of require
  record-crowded v = rw (kind-back kind (counted kind number) (kind-of-known kind k), one_byte r 13, v)

  pub record-content : views_allowed kind count ≡ true → frame_verdict (frame_of r) ≡ content_of kind (views_in r 14 count) number
  unfolding frame_verdict frame_of require
  record-content v =
      let few = views-few kind count v in
      rw (kind-back kind (counted kind number) (kind-of-known kind k), one_byte r 13, v, views_in-take r 14 count max_views few)
      (content-same kind (views_in r 14 count) _ number (number-back kind number (kind-of-known kind k)))

  -- ---- written

  module _ (v : frame_verdict (frame_of r) ≡ Ok tt) where
    allowed : views_allowed kind count ≡ true
    unfolding frame_verdict frame_of
    allowed = rw (kind-back kind (counted kind number) (kind-of-known kind k), one_byte r 13) at (need-accepted _ _ _ v).0

    pub record-few : count ≤ max_views
    record-few = views-few kind count allowed

    fits : told_fits kind number ≡ true
    fits = told-met kind (views_in r 14 count) number (sym (record-content allowed) ∙ v)

    whole : counted kind number ≡ number
    whole = counted-kept kind number fits

    listed : list_of (frame_of r).views ≡ views_in r 14 count
    unfolding frame_of
    listed = ap (λ (n : ℕ). take n (views_in r 14 max_views)) (one_byte r 13) ∙ views_in-take r 14 count max_views record-few

    -- the number, where it lies
    pub from-lies : (m : Message) → m ≡ message_of kind number → LiesAt m r 5
    from-lies m em = subst (λ (z : Message). LiesAt z r 5) (sym em) (number-lies r 5 kind (kind-of-known kind k) (told-byte kind number fits))

    -- the frame as the code has it
    module _ (view : ViewId) (m : Message) (n : ℕ) (ev : view ≡ record { 0 = get r 1 4 }) (em : m ≡ message_of kind number) (en : n ≡ count) where
      carried : (frame_of r).message ≡ m
      unfolding frame_of
      carried = ap (message_of kind) whole ∙ sym em

      laid : list_of (frame_of r).views ≡ list_of (frame_from view m r 14 n).views
      laid = listed ∙ ap (views_in r 14) (sym en) ∙ sym (list-views_in r 14 n (omega (arith, record-few)))

      same : frame_verdict (frame_of r) ≡ frame_verdict (frame_from view m r 14 n)
      unfolding frame_of
      same = same-verdict (frame_of r) (frame_from view m r 14 n) carried (one_byte r 13 ∙ sym en ∙ sym (length-views_in r 14 n)) laid

      pub from-accepted : frame_verdict (frame_from view m r 14 n) ≡ Ok tt
      from-accepted = sym same ∙ v

      pub from-wrote : (a b : List ℕ) (w : Result ℕ Refusal) → Wrote (frame_from view m r 14 n) a b w → Wrote (frame_of r) a b w
      unfolding frame_of
      from-wrote a b w h =
          wrote-same (frame_from view m r 14 n) (frame_of r) a b w (sym same) (rw (ev, carried, laid)) h
