-- What is peculiar to the member by itself does not show in a group: of sound records no two views share an identifier, there is always room for what is
-- learned or attempted and for what is taken, and every view of a queued info fits the members.
use mathlib.Core.Path.{◌≡◌, refl, sym, ap}
use mathlib.Core.Logic.{◌≢◌, ◌⊎◌, ⊎_elim}
use mathlib.Core.Bool.{true, false, cond}
use Rattle.std.specs.Prelude.{Some, Option, None}
use mathlib.Core.List.{List, [], ◌∷◌}
use Prim.Native.Nat.{◌+◌, ◌≤◌, ◌<◌}
use native.Mathlib.Omega.{arith}
use lib.Dec.{eqb, ltb}
use lib.ListN.{length, drop}
use borrow.Author.Tests.{lt-ltb, eqb-true}
use Rattle.views.specs.declared.View.{View}
use Rattle.views.specs.Limits.{max_open, max_ordered}
use Rattle.views.specs.Sets.{is_empty, is_beyond}
use Rattle.views.specs.Lists.{id_of, is_rising, find_of, insert_of, union_of}
use Rattle.views.proofs.SetLaws.{known}
use Rattle.views.proofs.Members.{In, top, pop}
use Rattle.views.proofs.ListLaws.{rising-unique, find-in, above-keep, union_left, union_right, insert-in, insert-there}
use Rattle.rules.specs.Data.{Member, info, EntryOf, entry, Held, GroupOf}
use Rattle.rules.specs.Member.{own_or, settled_by, learned, opened}
use Rattle.rules.proofs.Sound.{EntrySound, info-sound, Listed, Sound}
use Rattle.rules.proofs.Sound.ListsWithin.{Within}
use Rattle.rules.proofs.Sound.HeldLaws.{HeldSound, learned-short, opened-short}
use Rattle.rules.proofs.Sound.QueueLaws.{next-in, next-below}
use Rattle.rules.proofs.Sound.Kept.{made}

-- ---- over what is held of a rising list of views

module _ (views : List View) (r : is_rising views ≡ true) where
  own_same : (x : View) (l : List View) (o : Option View) → find_of (id_of x) l ≡ o → In x views → Within l views → own_or x o ≡ x
  own_same x l (Some v) e i w = let f = find-in (id_of x) l v e in rising-unique views r v x (w v f.0) i f.1
  own_same x l None e i w = refl

  settled-own : (x : View) (h : Held) → In x views → HeldSound (Listed views) h → settled_by x h ≡ cond (ltb (id_of h.settled) (id_of x)) x h.settled
  unfolding settled_by
  settled-own x h i s =
      ap (λ (v : View). cond (ltb (id_of h.settled) (id_of x)) v h.settled) (own_same x h.opens (find_of (id_of x) h.opens) refl i (λ w j. s.known w (pop j)))

  -- the union has the views of both lists
  union-both : (k l : List View) → Within k views → Within l views → (w : View) → In w k ⊎ In w l → In w (union_of k l)
  union-both k l a b w d =
      ⊎_elim (λ (i : In w k). union_left w k l i)
      (λ (i : In w l).
      ⊎_elim (λ (j : In w (union_of k l)). j)
      (λ (t : (v : View) × In v k × (id_of v ≡ id_of w)). rw (← (rising-unique views r t.0 w (a t.0 t.1) (b w i) t.2)) (union_left t.0 k l t.1))
      (union_right w k l i))
      d

  insert-own : (v : View) (l : List View) → In v views → Within l views → In v (insert_of v l)
  insert-own v l i w =
      let t = insert-there v l in
      let e : t.0 ≡ v = ⊎_elim (λ (e : t.0 ≡ v). e) (λ (j : In t.0 l). rising-unique views r t.0 v (w t.0 j) i t.2) (insert-in v l t.0 t.1) in
      rw e at t.1

-- an identifier that is not open is one view more
insert-longer : (v : View) (l : List View) → ((w : View) → In w l → id_of w ≢ id_of v) → length (insert_of v l) ≡ length l + 1
unfolding insert_of
insert-longer v [] n = refl
insert-longer v (y ∷ l) n =
    ⊎_elim
    (λ (t : ltb (id_of y) (id_of v) ≡ true). rw t (omega (arith, insert-longer v l (λ w i. n w (pop i)))))
    (λ (t : ltb (id_of y) (id_of v) ≡ false).
    ⊎_elim (λ (u : eqb (id_of v) (id_of y) ≡ true). absurd (n y top (sym (eqb-true _ _ u)))) (λ (u : eqb (id_of v) (id_of y) ≡ false). rw (t, u) (omega arith))
    (known (eqb (id_of v) (id_of y))))
    (known (ltb (id_of y) (id_of v)))

module _ {M : Type 0} where
  -- ---- in a group, of the member p

  module _ (s : GroupOf M) (h : Sound s) (p : Member) (i : p < s.members) where
    held_of : HeldSound (Listed s.views) (s.books p).held
    held_of = let b = h.book p i in record { short = b.opens-short; rises = b.opens-rise; known = b.held-known }

    -- the next message of the carrier view's order is sound, and fewer than 128 were taken before it: 16 would not be given
    pub next-sound : (v : View) (e : EntryOf M) (rest : List (EntryOf M)) → (s.books p).carrier.view ≡ Some v
        → drop (s.books p).carrier.taken (s.order (id_of v)) ≡ e ∷ rest → EntrySound s e × ((s.books p).carrier.taken < max_ordered)
    next-sound v e rest c d =
        let o = h.ordered v ((h.book p i).carrier-known v c) in (
          o.entries e (next-in (s.books p).carrier.taken (s.order (id_of v)) e rest d),
          omega (arith, next-below (s.books p).carrier.taken (s.order (id_of v)) e rest d, o.short),
        )

    -- an info settles its own view or none: the set that a member has open is that view's
    pub info-settles : (q : Member) (x : View) (l : List View) → EntrySound s (entry q (info x l))
        → settled_by x (s.books p).held ≡ cond (ltb (id_of (s.books p).held.settled) (id_of x)) x (s.books p).held.settled
    info-settles q x l e = settled-own s.views h.rising x (s.books p).held ((info-sound e).known x top) held_of

    -- the views of both lists that are above the settled one are open afterwards, each with its own set
    pub info-opens : (q : Member) (x : View) (l : List View) → EntrySound s (entry q (info x l)) → (w : View) → In w (s.books p).held.opens ⊎ In w l
        → id_of (settled_by x (s.books p).held) < id_of w → In w (learned x l (s.books p).held).opens
    unfolding learned
    info-opens q x l e w d a =
        above-keep _ _ w
        (union-both s.views h.rising (s.books p).held.opens l (λ v j. held_of.known v (pop j)) (λ v j. (info-sound e).known v (pop j)) w d)
        a

    -- after an info at most 31 are open: 43 would not be given
    pub info-short : (q : Member) (x : View) (l : List View) → EntrySound s (entry q (info x l)) → length (learned x l (s.books p).held).opens ≤ max_open
    info-short q x l e = learned-short s.views (made s h) x l (s.books p).held (info-sound e) held_of

    -- a carrier view above the settled one is open after the attempt, with its own set
    pub attempt-opens : (v : View) → (s.books p).carrier.view ≡ Some v → id_of (s.books p).held.settled < id_of v
        → ((opened v (s.books p).held).opens ≡ insert_of v (s.books p).held.opens) × In v (opened v (s.books p).held).opens
    unfolding opened
    attempt-opens v c l =
        let b = h.book p i in
        let j = insert-own s.views h.rising v (s.books p).held.opens (b.carrier-known v c) (λ w k. held_of.known w (pop k)) in
        rw (lt-ltb _ _ l) (refl, j)

    -- and where it was not open before, it is one more
    pub attempt-inserts : (v : View) → id_of (s.books p).held.settled < id_of v → ((w : View) → In w (s.books p).held.opens → id_of w ≢ id_of v)
        → length (opened v (s.books p).held).opens ≡ length (s.books p).held.opens + 1
    unfolding opened
    attempt-inserts v l n = rw (lt-ltb _ _ l) (insert-longer v (s.books p).held.opens n)

    -- after an attempt at most 31 are open: 43 would not be given
    pub attempt-short : (v : View) → (s.books p).carrier.view ≡ Some v → length (opened v (s.books p).held).opens ≤ max_open
    attempt-short v c = opened-short s.views (made s h) v (s.books p).held ((h.book p i).carrier-known v c) held_of

  -- every view of a queued info has members, all of them the group's: 7 would not be given
  pub info-fits : (s : GroupOf M) → Sound s → (q : Member) (x : View) (l : List View) → EntrySound s (entry q (info x l))
      → (w : View) → In w (x ∷ l) → (is_empty w.set ≡ false) × (is_beyond w.set s.members ≡ false)
  info-fits s h q x l e w i = h.fits w ((info-sound e).known w i)
