-- An outgoing entry, by the tests that the code asks of its slot.
use mathlib.Core.Path.{◌≡◌, refl}
use mathlib.Core.Bool.{true, false}
use mathlib.Core.List.{List, [], ◌∷◌}
use Prim.Native.Nat.{ℕ, ◌+◌, ◌<◌, ◌≤◌, min}
use native.Mathlib.Omega.{arith}
use borrow.Author.Tests.{eq-eqb, ne_eqb, le-leb, lt-ltb, le-ltb}
use lib.Dec.{leb}
use lib.ListN.{length, get_or}
use Rattle.views.specs.declared.View.{View}
use Rattle.views.specs.Limits.{max_views, max_ordered}
use Rattle.views.specs.Sets.{both}
use Rattle.views.specs.Lists.{is_rising}
use Rattle.wire.specs.Format.{told_fits}
use Rattle.wire.specs.Reader.{views_in}
use Rattle.wire.proofs.ReaderLaws.{length-views_in}
use Rattle.wire.proofs.TripMessages.{Kind}
use Rattle.rules.specs.Data.{Message, entry}
use Rattle.rules.specs.Member.{all}
use Rattle.rules.specs.Sound.{conditions, set_fits}
use Rattle.rules.specs.Alone.{info_of}
use Rattle.slots.specs.Slots.{kind_in, number_in, count_in, info_in, message_in, entry_in, slot_fits, message_by}
use Rattle.slots.proofs.Frames.{slot-kind, slot-count}
use Rattle.book_sound.specs.EntryParts.{entry_sound}
use Rattle.rules.proofs.Truth.{both-unit, stopped}

-- ---- over plain numbers and lists

-- from no member
pub foreign : (n q : ℕ) (m : Message) → n ≤ q → entry_sound n (entry q m) ≡ false
unfolding entry_sound
foreign n q m h = stopped _ 3 (le-ltb q n h)

info-tests : (n q : ℕ) (l : List View) → q < n → 1 ≤ length l → length l ≤ max_views
    → both (all (set_fits n) l) (is_rising l) ≡ entry_sound n (entry q (info_of l))
unfolding entry_sound conditions is_rising
info-tests n q [] h m k = absurd (omega arith)
info-tests n q (v ∷ l) h m k =
    let f : length l + 1 ≤ max_views = omega arith in
    rw (le-leb (length l + 1) max_views f, lt-ltb q n h, both-unit)

short-tests : (n q k x : ℕ) (l : List View) → q < n → Kind k → (k ≡ 2 → ⊥) → told_fits k x ≡ entry_sound n (entry q (message_by k x l x))
unfolding entry_sound conditions told_fits all
short-tests n q k x l h Kind.client i = rw (lt-ltb q n h)
short-tests n q k x l h Kind.info i = absurd (i refl)
short-tests n q k x l h Kind.registered i = rw (lt-ltb q n h)
short-tests n q k x l h Kind.told i = rw (lt-ltb q n h, both-unit)

-- ---- the slot at a place

held-info : (k x : ℕ) (l : List View) → k ≡ 2 → info_of l ≡ message_by k x l x
held-info k x l i = rw i

module _ (b : List ℕ) (at n : ℕ) (fits : slot_fits b at ≡ true) where
  pub info-count : kind_in b at ≡ 2 → (1 ≤ count_in b at) × (count_in b at ≤ max_views)
  info-count i = slot-count b at fits i

  pub entry-foreign : n ≤ get_or b at 0 → entry_sound n (entry_in b at) ≡ false
  entry-foreign h = foreign n (get_or b at 0) (message_in b at) h

  pub entry-short : get_or b at 0 < n → (kind_in b at ≡ 2 → ⊥) → told_fits (kind_in b at) (number_in b at) ≡ entry_sound n (entry_in b at)
  unfolding message_in
  entry-short h i = short-tests n (get_or b at 0) (kind_in b at) (number_in b at) (info_in b at) h (slot-kind b at fits) i

  -- a told's number, with the kind known
  pub entry-told : get_or b at 0 < n → kind_in b at ≡ 4 → both (leb 1 (number_in b at)) (leb (number_in b at) max_ordered) ≡ entry_sound n (entry_in b at)
  unfolding told_fits
  entry-told f i =
      let no-info : kind_in b at ≡ 2 → ⊥ = λ e. omega arith in
      rw (eq-eqb (kind_in b at) 4 i) at (entry-short f no-info)

  -- only a told's number is asked
  pub entry_other : get_or b at 0 < n → (kind_in b at ≡ 2 → ⊥) → (kind_in b at ≡ 4 → ⊥) → true ≡ entry_sound n (entry_in b at)
  unfolding told_fits
  entry_other f i o = rw (ne_eqb (kind_in b at) 4 o) at (entry-short f i)

  pub entry-info : get_or b at 0 < n → kind_in b at ≡ 2
      → both (all (set_fits n) (views_in b (at + 11) (count_in b at))) (is_rising (views_in b (at + 11) (count_in b at))) ≡ entry_sound n (entry_in b at)
  unfolding message_in info_in
  entry-info h i =
      let t = info-count i in
      let c = count_in b at in
      let m : min c max_views ≡ c = omega (arith, t.1) in
      let w = views_in b (at + 11) c in
      let z : length w ≡ c = length-views_in b (at + 11) c in
      rw (m, ← held-info (kind_in b at) (number_in b at) w i) (info-tests n (get_or b at 0) w h (omega (arith, t.0)) (omega (arith, t.1)))
