-- The reader: what a shape that was accepted says of the bytes, and views read one at a time.
use mathlib.Core.Path.{◌≡◌, refl, sym, ap, ◌∙◌}
use mathlib.Core.List.{List, [], ◌∷◌, ◌++◌}
use Prim.Native.Nat.{ℕ, zero, suc, ◌+◌, ◌*◌, ◌<◌, ◌≤◌}
use native.Mathlib.Nat.{add-zero}
use native.Mathlib.Omega.{arith}
use borrow.Author.Tests.{leb-true, le-leb, lt-leb}
use lib.ListN.{length, get_or, set, take}
use Rattle.numbers.specs.Number.{get}
use Rattle.views.specs.declared.View.{View}
use Rattle.views.specs.declared.list.Views.{Views}
use Rattle.views.specs.declared.refusal.Refusal.{Refusal}
use Rattle.views.specs.declared.refusal.Refusal.TheVariants.{BytesLeftOver}
use Rattle.std.specs.Prelude.{Ok, Err}
use Rattle.views.specs.Limits.{max_views}
use Rattle.views.specs.Lists.{no_view, list_of, places, placed}
use Rattle.wire.specs.declared.Message.{Message}
use Rattle.wire.specs.declared.Reading.{Reading}
use Rattle.wire.specs.Reader.{kind_in, view_in, views_in, view_count, numbers_place, number_count, end_of, number_in, message_of, scan_of, whole_of, read_front}
use Rattle.wire.specs.Single.{read_one}
use Rattle.views.proofs.VerdictLaws.{need-met, need-unmet, need-accepted, then-accepted, then-refused, after-ok, after-err}
use Rattle.views.proofs.PlaceLaws.{places-snoc, list-placed}
use Rattle.wire.proofs.FormatLaws.{views-few, numbers-few}

-- ---- views one at a time

pub length-views_in : (b : List ℕ) (at n : ℕ) → length (views_in b at n) ≡ n
unfolding views_in
length-views_in b at zero = refl
length-views_in b at (suc n) = ap suc (length-views_in b (at + 5) n)

pub views_in-snoc : (b : List ℕ) (at n : ℕ) → views_in b at (n + 1) ≡ views_in b at n ++ view_in b (at + 5 * n) ∷ []
unfolding views_in
views_in-snoc b at zero = rw (add-zero at)
views_in-snoc b at (suc n) =
    let e : suc n + 1 ≡ suc (n + 1) = omega arith in
    let f : at + 5 * suc n ≡ at + 5 + 5 * n = omega arith in
    rw (e, f) (ap (λ (l : List View). view_in b at ∷ l) (views_in-snoc b (at + 5) n))

pub views_in-take : (b : List ℕ) (at n m : ℕ) → n ≤ m → take n (views_in b at m) ≡ views_in b at n
unfolding views_in
views_in-take b at zero m h = refl
views_in-take b at (suc n) zero h = absurd (omega arith)
views_in-take b at (suc n) (suc m) h = ap (λ (l : List View). view_in b at ∷ l) (views_in-take b (at + 5) n m (omega arith))

pub views-at : (b : List ℕ) (at n i : ℕ) → i < n → get_or (views_in b at n) i no_view ≡ view_in b (at + 5 * i)
unfolding views_in
views-at b at zero i h = absurd (omega arith)
views-at b at (suc n) zero h = rw (add-zero at)
views-at b at (suc n) (suc i) h =
    let f : at + 5 * suc i ≡ at + 5 + 5 * i = omega arith in
    rw f (views-at b (at + 5) n i (omega arith))

pub load-turn : (b : List ℕ) (at i : ℕ) → i < max_views
    → set (places (views_in b at i)) i (view_in b (at + 5 * i)) ≡ places (views_in b at (i + 1))
load-turn b at i h =
    let l = views_in b at i in
    let n : length l ≡ i = length-views_in b at i in
    rw (views_in-snoc b at i)
    (ap (λ (k : ℕ). set (places l) k (view_in b (at + 5 * i))) (sym n) ∙ places-snoc l (view_in b (at + 5 * i)) (omega arith))

-- the views read are read back from their places
pub list-views_in : (b : List ℕ) (at n : ℕ) → n ≤ max_views → list_of (placed (views_in b at n)) ≡ views_in b at n
list-views_in b at n h = list-placed (views_in b at n) (omega (arith, length-views_in b at n))

-- ---- a shape that was accepted

pub record Shaped (b : List ℕ) : Type 0 where
  pub front : 6 ≤ length b
  pub few : view_count b ≤ max_views
  pub behind : numbers_place b + 1 ≤ length b
  pub one : number_count b ≤ 1
  pub whole : end_of b ≤ length b

pub shaped : (b : List ℕ) → scan_of b ≡ Ok tt → Shaped b
unfolding scan_of
shaped b e =
    let s1 = (need-accepted _ _ _ e).1 in
    let s2 = (need-accepted _ _ _ s1).1 in
    let s3 = need-accepted _ _ _ s2 in
    let s4 = need-accepted _ _ _ s3.1 in
    let s5 = need-accepted _ _ _ s4.1 in
    let s6 = need-accepted _ _ _ s5.1 in
    let s7 = need-accepted _ _ _ s6.1 in
    record {
      front = leb-true _ _ s3.0;
      few = views-few _ _ s4.0;
      behind = leb-true _ _ s5.0;
      one = numbers-few _ _ s6.0;
      whole = leb-true _ _ s7.0;
    }

-- ---- the number that a message carries

-- no number is 0
pub no_number : (b : List ℕ) → number_count b ≡ 0 → number_in b ≡ 0
unfolding number_in get
no_number b e = rw e

pub a-number : (b : List ℕ) → number_count b ≡ 1 → number_in b ≡ get b (numbers_place b + 1) 8
unfolding number_in
a-number b e = rw e

-- ---- the message at the front

pub front-unshaped : (b : List ℕ) (r : Refusal) → scan_of b ≡ Err r → read_front b ≡ Err r
unfolding read_front
front-unshaped b r s = then-refused r _ s

pub front-refused : (b : List ℕ) (r : Refusal) → scan_of b ≡ Ok tt → whole_of b ≡ Err r → read_front b ≡ Err r
unfolding read_front
front-refused b r s w = then-accepted _ s ∙ then-refused r _ w

pub front_read : (b : List ℕ) (g : ℕ) (m : Message) (l : Views) → scan_of b ≡ Ok tt → whole_of b ≡ Ok tt
    → g ≡ get b 1 4 → m ≡ message_of (kind_in b) (number_in b) → l ≡ placed (views_in b 6 (view_count b))
    → read_front b ≡ Ok (record { taken = end_of b; frame = record { view = record { 0 = g }; message = m; views = l } })
unfolding read_front
front_read b g m l s w p q r = rw (p, q, r) (then-accepted _ s ∙ then-accepted _ w)

-- ---- the bytes as one message: x is what stands at the front

pub read-refused : (b : List ℕ) (r : Refusal) → read_front b ≡ Err r → read_one b ≡ Err r
unfolding read_one
read-refused b r v = after-err _ v

pub read-over : (b : List ℕ) (x : Reading) → read_front b ≡ Ok x → x.taken < length b → read_one b ≡ Err BytesLeftOver
unfolding read_one
read-over b x v h = after-ok _ v ∙ need-unmet _ _ (lt-leb _ _ h)

pub read_all : (b : List ℕ) (x : Reading) → read_front b ≡ Ok x → length b ≤ x.taken → read_one b ≡ Ok x
unfolding read_one
read_all b x v h = after-ok _ v ∙ need-met _ _ (le-leb _ _ h)
