-- What is asked of a view's order, by its columns: of each entry its head, and of the infos their views.
use mathlib.Core.Path.{◌≡◌, refl, sym, ap, ap₂, ◌∙◌}
use mathlib.Core.Logic.{◌⊎◌, ⊎_elim}
use mathlib.Core.Bool.{Bool, true, false, cond}
use mathlib.Core.List.{List, [], ◌∷◌}
use Prim.Native.Nat.{ℕ, zero, suc, ◌+◌, ◌≤◌, max}
use native.Mathlib.Numerals.{add-one}
use native.Mathlib.Omega.{arith}
use borrow.Author.Tests.{ne_eqb}
use lib.Dec.{eqb, ltb, leb}
use lib.ListN.{get_or}
use Rattle.views.specs.declared.View.{View}
use Rattle.views.specs.Limits.{max_views, max_ordered}
use Rattle.views.specs.Sets.{both}
use Rattle.views.proofs.SetLaws.{known}
use Rattle.wire.specs.Format.{is_known, info_kind, views_allowed}
use Rattle.wire.specs.Reader.{view_in, views_in}
use Rattle.rules.specs.Member.{every, all}
use Rattle.rules.specs.Sound.{conditions, set_fits, listed, info_listed}
use Rattle.rules.proofs.TestLaws.{within-says}
use Rattle.rules.proofs.Truth.{both-unit, both-assoc, three}
use Rattle.slots.specs.Slots.{fits_kind}
use Rattle.slots.specs.Columns.{order_sender, order_kind, order_count, order_views, order_info, order_message, order_entry, order_fits}
use Rattle.slots.proofs.Columns.{firsts-all}
use Rattle.book_sound.specs.EntryParts.{entry_sound}
use Rattle.group_sound.specs.Parts.{views_known, order_sound}
use Rattle.group_sound.specs.OrderParts.{head_fits, heads_fit, infos_within, infos_known}
use Rattle.group_sound.proofs.ListedLaws.{known-single}
use Rattle.group_sound.proofs.Walks.{together}
use Rattle.group_sound.proofs.Infos.{entry-asked}

-- ---- tests of the first numbers

paired : (a b x y : Bool) → both (both a b) (both x y) ≡ both (both a x) (both b y)
paired false b x y = refl
paired true false false y = refl
paired true false true y = refl
paired true true x y = refl

every-both : (n : ℕ) (f g : ℕ → Bool) → every n (λ k. both (f k) (g k)) ≡ both (every n f) (every n g)
unfolding every
every-both zero f g = refl
every-both (suc n) f g = ap (λ (t : Bool). both t (both (f n) (g n))) (every-both n f g) ∙ paired (every n f) (every n g) (f n) (g n)

every-three : (n : ℕ) (f g h : ℕ → Bool) → both (every n f) (both (every n g) (every n h)) ≡ every n (λ k. conditions (f k ∷ g k ∷ h k ∷ []))
unfolding every
every-three zero f g h = refl
every-three (suc n) f g h =
    sym (together (every n f) (every n g) (every n h) (f n) (g n) (h n)) ∙ ap₂ both (every-three n f g h) (sym (three (f n) (g n) (h n)))

pub every_more : (f : ℕ → Bool) (k : ℕ) → every (k + 1) f ≡ both (every k f) (f k)
unfolding every
every_more f k = rw (add-one k)

-- ---- tests as numbers: 0 where they are met, else 1

abbrev pub fault_of : Bool → ℕ
fault_of t = cond t 0 1

pub faultless : (t : Bool) (v : ℕ) → v ≡ fault_of t → eqb v 0 ≡ t
faultless true v e = rw e
faultless false v e = rw e

-- a test that is asked last
pub last-unmet : (u t : Bool) (v : ℕ) → u ≡ false → v ≡ 1 → v ≡ fault_of (both u t)
last-unmet u t v h e = rw (h, e)

pub last-met : (u t : Bool) (v x : ℕ) → x ≡ fault_of t → u ≡ true → v ≡ x → v ≡ fault_of (both u t)
last-met u t v x f h e = rw (h, e) f

-- the worse of two
pub worse : (a t : Bool) (w x : ℕ) → w ≡ fault_of a → x ≡ fault_of t → max w x ≡ fault_of (both a t)
worse true true w x e f = omega arith
worse true false w x e f = omega arith
worse false true w x e f = omega arith
worse false false w x e f = omega arith

-- the head of an entry, by the tests in the order in which they are asked

swapped : (a b : Bool) → both a b ≡ both b a
swapped true true = refl
swapped true false = refl
swapped false true = refl
swapped false false = refl

asked-last : (a b l h t : Bool) → both h (both l (both b (both a t))) ≡ conditions (t ∷ both a b ∷ both l h ∷ [])
asked-last a b l h t =
    both-assoc h l _ ∙ ap₂ both (swapped h l) (both-assoc b a t ∙ swapped (both b a) t ∙ ap (both t) (swapped b a))
    ∙ swapped (both l h) (both t (both a b)) ∙ sym (both-assoc t (both a b) (both l h)) ∙ sym (three t (both a b) (both l h))

module _ (n s kind k told : ℕ) where
  pub head-asked : ((kind ≡ 4) × (told ≡ k)) ⊎ ((kind ≡ 4 → ⊥) × (told ≡ 1))
      → both (leb told 128) (both (leb 1 told) (both (leb kind 4) (both (leb 1 kind) (ltb s n)))) ≡ head_fits n s kind k
  unfolding head_fits is_known
  head-asked h = asked-last (leb 1 kind) (leb kind 4) (leb 1 told) (leb told 128) (ltb s n)
      ∙ ⊎_elim (λ (z : (kind ≡ 4) × (told ≡ k)). rw (z.0, z.1)) (λ (z : (kind ≡ 4 → ⊥) × (told ≡ 1)). rw (ne_eqb kind 4 z.0, z.1)) h

-- ---- the order

pub info-within : (n : ℕ) → views_allowed 2 n ≡ true → (1 ≤ n) × (n ≤ max_views)
unfolding views_allowed
info-within n h = within-says 1 n max_views h

module _ (q : List ℕ) (c : ℕ) where
  abbrev count : ℕ
  count = get_or q c 0

  -- one entry more
  infos-more : (k : ℕ) → infos_within q c (k + 1) ≡ cond (eqb (get_or q (order_kind c k) 0) info_kind) (k + 1) (infos_within q c k)
  unfolding infos_within
  infos-more k = rw (add-one k)

  pub infos-info : (k : ℕ) → get_or q (order_kind c k) 0 ≡ 2 → infos_within q c (k + 1) ≡ k + 1
  infos-info k e = rw (infos-more k, e)

  pub infos-other : (k : ℕ) → (get_or q (order_kind c k) 0 ≡ 2 → ⊥) → infos_within q c (k + 1) ≡ infos_within q c k
  infos-other k i = rw (infos-more k, ne_eqb _ _ i)

  pub infos-few : (k : ℕ) → infos_within q c k ≤ k
  unfolding infos_within
  infos-few zero = omega arith
  infos-few (suc k) =
      ⊎_elim (λ (e : eqb (get_or q (order_kind c k) 0) info_kind ≡ true). rw e (omega arith))
      (λ (e : eqb (get_or q (order_kind c k) 0) info_kind ≡ false). rw e (omega (arith, infos-few k)))
      (known (eqb (get_or q (order_kind c k) 0) info_kind))

  module _ (views : List View) where
    -- an entry's views, as they are asked
    module _ (k : ℕ) where
      infos-at : infos_known views q c k ≡ cond (eqb (get_or q (order_kind c k) 0) 2)
          (both (views_allowed 2 (get_or q (order_count c k) 0)) (views_known views (views_in q (order_views c k) (get_or q (order_count c k) 0)))) true
      unfolding infos_known views_allowed
      infos-at = refl

      pub info-crowded : get_or q (order_kind c k) 0 ≡ 2 → views_allowed 2 (get_or q (order_count c k) 0) ≡ false → infos_known views q c k ≡ false
      info-crowded e h = rw (infos-at, e, h)

      pub info-asked : get_or q (order_kind c k) 0 ≡ 2 → views_allowed 2 (get_or q (order_count c k) 0) ≡ true
          → views_known views (views_in q (order_views c k) (get_or q (order_count c k) 0)) ≡ infos_known views q c k
      info-asked e h = rw (infos-at, e, h)

      -- one view alone is known where it is listed
      pub info-single : get_or q (order_kind c k) 0 ≡ 2 → get_or q (order_count c k) 0 ≡ 1 → listed views (view_in q (order_views c k)) ≡ infos_known views q c k
      unfolding views_in views_allowed
      info-single e h = rw (infos-at, e, h) (known-single views (view_in q (order_views c k)))

      pub no-info : (get_or q (order_kind c k) 0 ≡ 2 → ⊥) → infos_known views q c k ≡ true
      no-info e = rw (infos-at, ne_eqb _ _ e)

    -- no entry behind the last info is one
    none-behind : (k : ℕ) → eqb (get_or q (order_kind c k) 0) info_kind ≡ false → infos_known views q c k ≡ true
    unfolding infos_known
    none-behind k e = rw e

    infos-end : (k : ℕ) → every k (infos_known views q c) ≡ every (infos_within q c k) (infos_known views q c)
    unfolding every infos_within
    infos-end zero = refl
    infos-end (suc k) =
        ⊎_elim (λ (e : eqb (get_or q (order_kind c k) 0) info_kind ≡ true). rw e)
        (λ (e : eqb (get_or q (order_kind c k) 0) info_kind ≡ false). rw (e, none-behind k e) (both-unit _ ∙ infos-end k))
        (known (eqb (get_or q (order_kind c k) 0) info_kind))

    module _ (n : ℕ) (sets : all (set_fits n) views ≡ true) where
      column-asked : (k : ℕ)
          → conditions (fits_kind (get_or q (order_kind c k) 0) (get_or q (order_count c k) 0) ∷ entry_sound n (order_entry q c k) ∷ info_listed views (order_entry q c k) ∷ [])
          ≡ both (heads_fit n q c k) (infos_known views q c k)
      unfolding order_message order_info infos_known
      column-asked k =
          entry-asked q (order_views c k) (get_or q (order_count c k) 0) _ (get_or q (order_count c k) 0) views n sets
          (get_or q (order_sender c k) 0) (get_or q (order_kind c k) 0)

      pub order-asked : order_sound views n q c ≡ both (leb count max_ordered)
          (both (every count (heads_fit n q c)) (every (infos_within q c count) (infos_known views q c)))
      unfolding order_sound order_fits
      order-asked =
          let kinds : ℕ → Bool = λ k. fits_kind (get_or q (order_kind c k) 0) (get_or q (order_count c k) 0) in
          let sound : ℕ → Bool = λ k. entry_sound n (order_entry q c k) in
          let carried : ℕ → Bool = λ k. info_listed views (order_entry q c k) in
          three _ _ _
          ∙ ap₂ (λ (x y : Bool). both (both (leb count max_ordered) (every count kinds)) (both x y))
          (firsts-all (entry_sound n) (order_entry q c) count) (firsts-all (info_listed views) (order_entry q c) count)
          ∙ sym (both-assoc (leb count max_ordered) (every count kinds) (both (every count sound) (every count carried)))
          ∙ ap (both (leb count max_ordered)) (every-three count kinds sound carried
          ∙ ap (every count) (λ i k. column-asked k i)
          ∙ every-both count (heads_fit n q c) (infos_known views q c)
          ∙ ap (both (every count (heads_fit n q c))) (infos-end count))
