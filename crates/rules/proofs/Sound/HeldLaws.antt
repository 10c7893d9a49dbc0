-- What a member holds stays sound: known views, the open ones rising above the settled one and at most 31, whatever it learns, opens or collects.
-- Of the views made in a group there are never too many; a member by itself has to count them.
use mathlib.Core.Path.{◌≡◌, refl}
use mathlib.Core.Logic.{⊎_elim}
use mathlib.Core.Bool.{true, false}
use mathlib.Core.List.{List, ◌∷◌}
use Prim.Native.Nat.{◌≤◌, min}
use native.Mathlib.Omega.{arith}
use lib.Dec.{ltb}
use lib.ListN.{length}
use borrow.Author.Tests.{ltb-true}
use Rattle.views.specs.declared.View.{View}
use Rattle.std.specs.Prelude.{Option, Some, None}
use Rattle.views.specs.Limits.{max_views, max_open}
use Rattle.views.specs.Lists.{id_of, is_rising, rises_above, find_of, insert_of, union_of, above_of}
use Rattle.views.proofs.SetLaws.{known}
use Rattle.views.proofs.Members.{In, top, pop, in-cons}
use Rattle.views.proofs.ListLaws.{rises-less, find-in, above_in, above-rises, length_above, union-in, union-rises, insert-in, insert-rises}
use Rattle.rules.specs.Data.{Held}
use Rattle.rules.specs.Member.{own_or, settled_by, learned, opened}
use Rattle.rules.proofs.Sound.{InfoSound, Listed}
use Rattle.rules.proofs.Sound.ListsWithin.{above-fewer}

-- what is held, however many views are open
pub record HeldWell (Known : View → Type 0) (h : Held) : Type 0 where
  pub rises : rises_above (id_of h.settled) h.opens ≡ true
  pub known : (w : View) → In w (h.settled ∷ h.opens) → Known w

pub record HeldSound (Known : View → Type 0) (h : Held) : Type 0 where
  pub short : length h.opens ≤ max_open
  pub rises : rises_above (id_of h.settled) h.opens ≡ true
  pub known : (w : View) → In w (h.settled ∷ h.opens) → Known w

module _ (Known : View → Type 0) where
  pub held-sound : (h : Held) → HeldWell Known h → length h.opens ≤ max_open → HeldSound Known h
  held-sound h w l = record { short = l; rises = w.rises; known = w.known }

  held-well : (v : View) (l : List View) → Known v → ((w : View) → In w l → Known w) → rises_above (id_of v) l ≡ true → HeldWell Known (record { settled = v; opens = l })
  held-well v l i f r = record { rises = r; known = λ w j. ⊎_elim (λ (e : w ≡ v). rw e i) (λ (k : In w l). f w k) (in-cons j) }

  own-known : (x : View) (l : List View) (o : Option View) → find_of (id_of x) l ≡ o → Known x → ((w : View) → In w l → Known w) → Known (own_or x o)
  own-known x l (Some v) e i f = f v (find-in (id_of x) l v e).0
  own-known x l None e i f = i

  settled-known : (x : View) (h : Held) → Known x → HeldSound Known h → Known (settled_by x h)
  unfolding settled_by
  settled-known x h i s =
      ⊎_elim
      (λ (e : ltb (id_of h.settled) (id_of x) ≡ true). rw e (own-known x h.opens (find_of (id_of x) h.opens) refl i (λ w j. s.known w (pop j))))
      (λ (e : ltb (id_of h.settled) (id_of x) ≡ false). rw e (s.known h.settled top))
      (known (ltb (id_of h.settled) (id_of x)))

  pub learned-well : (x : View) (l : List View) (h : Held) → InfoSound Known x l → HeldSound Known h → HeldWell Known (learned x l h)
  unfolding learned
  learned-well x l h i s =
      let g = min (id_of h.settled) (id_of x) in
      held-well (settled_by x h) (above_of (id_of (settled_by x h)) (union_of h.opens l))
      (settled-known x h (i.known x top) s)
      (λ w j. ⊎_elim (λ (k : In w h.opens). s.known w (pop k)) (λ (k : In w l). i.known w (pop k)) (union-in w h.opens l (above_in _ _ w j).0))
      (above-rises _ g _ (union-rises g h.opens l (rises-less g _ h.opens (omega arith) s.rises) (rises-less g _ l (omega arith) i.rises)))

  pub opened-well : (v : View) (h : Held) → Known v → HeldSound Known h → HeldWell Known (opened v h)
  unfolding opened
  opened-well v h i s =
      ⊎_elim
      (λ (e : ltb (id_of h.settled) (id_of v) ≡ true).
      rw e (held-well h.settled (insert_of v h.opens) (s.known h.settled top)
      (λ w j. ⊎_elim (λ (k : w ≡ v). rw k i) (λ (k : In w h.opens). s.known w (pop k)) (insert-in v h.opens w j))
      (insert-rises _ v h.opens s.rises (ltb-true _ _ e))))
      (λ (e : ltb (id_of h.settled) (id_of v) ≡ false). rw e (record { rises = s.rises; known = s.known }))
      (known (ltb (id_of h.settled) (id_of v)))

  pub collected-sound : (v : View) (h : Held) → Known v → HeldSound Known h → HeldSound Known (record { settled = v; opens = above_of (id_of v) h.opens })
  collected-sound v h i s =
      held-sound _ (held-well v (above_of (id_of v) h.opens) i (λ w j. s.known w (pop (above_in _ _ w j).0)) (above-rises _ _ h.opens s.rises))
      (omega (arith, length_above (id_of v) h.opens, s.short))

-- ---- in a group

-- the views made: rising, and no more than there can be
pub record Made (views : List View) : Type 0 where
  pub rising : is_rising views ≡ true
  pub short : length views ≤ max_views

module _ (views : List View) (m : Made views) where
  -- held views are views made, so there are at most 31 open ones
  made-short : (h : Held) → HeldWell (Listed views) h → length h.opens ≤ max_open
  made-short h w = omega (arith, above-fewer views h.settled h.opens m.rising w.rises w.known, m.short)

  pub learned-short : (x : View) (l : List View) (h : Held) → InfoSound (Listed views) x l → HeldSound (Listed views) h → length (learned x l h).opens ≤ max_open
  learned-short x l h i s = made-short (learned x l h) (learned-well (Listed views) x l h i s)

  pub opened-short : (v : View) (h : Held) → In v views → HeldSound (Listed views) h → length (opened v h).opens ≤ max_open
  opened-short v h i s = made-short (opened v h) (opened-well (Listed views) v h i s)
