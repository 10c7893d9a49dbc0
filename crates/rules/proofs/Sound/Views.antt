-- A fresh group is kept, and so is one in which a view is made: what was sound of fewer views is sound of more, and the new view's queues are empty.
use mathlib.Core.Path.{◌≡◌, refl}
use mathlib.Core.Logic.{⊎_elim}
use mathlib.Core.Bool.{true, false, not}
use mathlib.Core.List.{List, [], ◌∷◌, ◌++◌}
use Prim.Native.Nat.{ℕ, ◌+◌, ◌≤◌, ◌<◌}
use native.Mathlib.Omega.{arith}
use lib.Dec.{ltb}
use lib.ListN.{length}
use borrow.Author.Tests.{ltb-true, not-true}
use Rattle.views.specs.declared.View.{View}
use Rattle.views.specs.Limits.{max_members, max_views}
use Rattle.views.specs.Sets.{is_empty, is_beyond, fits}
use Rattle.views.specs.Lists.{id_of, is_rising, rises_above}
use Rattle.views.proofs.SetLaws.{both_true}
use Rattle.views.proofs.Members.{In, top, in-nil, in-cons, in_left}
use Rattle.rules.specs.Data.{Identifier, Member, EntryOf, GroupOf, accepted}
use Rattle.rules.specs.Member.{all}
use Rattle.rules.specs.Sound.{within}
use Rattle.rules.specs.Group.{first_view, fresh, started, start, creates}
use Rattle.rules.proofs.Sound.{EntryFacts, client_entry, info_entry, registered_entry, told_entry, QueueFacts, Listed, in_group, all-at, within-says}
use Rattle.rules.proofs.Holding.{Holds, gives, given, need-holds}
use Rattle.rules.proofs.Sound.ListsWithin.{Within, rising_snoc}
use Rattle.rules.proofs.Sound.QueueLaws.{in-snoc, length-snoc}
use Rattle.rules.proofs.Sound.BookParts.{BookKept, sound-of}
use Rattle.rules.proofs.Sound.Members.{fresh_kept}
use Rattle.rules.proofs.Sound.Kept.{Kept, KeepsGroup, book-kept, book-moves}

fits-say : (n S : ℕ) → fits n S ≡ true → (is_empty S ≡ false) × (is_beyond S n ≡ false)
fits-say n S h = let t = both_true (not (is_empty S)) (not (is_beyond S n)) h in (not-true _ t.0, not-true _ t.1)

module _ {M : Type 0} where
  -- ---- more views

  entry-moves : {n : ℕ} {k l : List View} {e : EntryOf M} → Within k l → EntryFacts n (Listed k) e → EntryFacts n (Listed l) e
  entry-moves w (client_entry h) = client_entry h
  entry-moves w (info_entry h i) = info_entry h (record { short = i.short; rises = i.rises; known = λ v j. w v (i.known v j) })
  entry-moves w (registered_entry h) = registered_entry h
  entry-moves w (told_entry h i j) = told_entry h i j

  queue-moves : (n : ℕ) (k l : List View) (limit : ℕ) (q : List (EntryOf M)) → Within k l → QueueFacts n (Listed k) limit q → QueueFacts n (Listed l) limit q
  queue-moves n k l limit q w h = record { short = h.short; entries = λ e i. entry-moves w (h.entries e i) }

  queue-empty : (n : ℕ) (l : List View) (limit : ℕ) (q : List (EntryOf M)) → q ≡ [] → QueueFacts n (Listed l) limit q
  queue-empty n l limit q e = rw e (record { short = omega arith; entries = λ x i. absurd (in-nil i) })

  -- ---- create

  -- the group with one view more
  abbrev makes : GroupOf M → View → GroupOf M
  makes s v = record { members = s.members; room = s.room; views = s.views ++ (v ∷ []); books = s.books; waiting = s.waiting; order = s.order }

  makes_kept : (s : GroupOf M) (v : View) → Kept s → (is_empty v.set ≡ false) × (is_beyond v.set s.members ≡ false)
      → ((w : View) → In w s.views → id_of w < id_of v) → length s.views < s.room → Kept (makes s v)
  makes_kept s v h f a r =
      let k = h.sound in
      let more : Within s.views (s.views ++ (v ∷ [])) = λ w i. in_left (v ∷ []) i in
      let long : length (s.views ++ (v ∷ [])) ≡ length s.views + 1 = length-snoc s.views v in
      let new = h.unmade (id_of v) (λ w i e. omega (arith, a w i)) in
      record {
        sound = record {
          members-low = k.members-low;
          members-high = k.members-high;
          room-low = k.room-low;
          room-high = k.room-high;
          made-low = omega arith;
          made-high = omega arith;
          rising = rising_snoc s.views v k.rising a;
          fits = λ w i. ⊎_elim (λ (j : In w s.views). k.fits w j) (λ (e : w ≡ v). rw e f) (in-snoc s.views v w i);
          book = λ p i. book-moves s (makes s v) (s.books p) refl more (λ g. omega arith) (book-kept s h p i);
          outgoing = λ p i. queue-moves _ _ _ _ _ more (k.outgoing p i);
          waiting = λ p i w j.
              ⊎_elim (λ (o : In w s.views). queue-moves _ _ _ _ _ more (k.waiting p i w o)) (λ (e : w ≡ v). rw e (queue-empty _ _ _ _ (new.0 p))) (in-snoc s.views v w j);
          ordered = λ w j.
              ⊎_elim (λ (o : In w s.views). queue-moves _ _ _ _ _ more (k.ordered w o)) (λ (e : w ≡ v). rw e (queue-empty _ _ _ _ new.1)) (in-snoc s.views v w j);
        };
        below = h.below;
        unmade = λ g n. h.unmade g (λ w i. n w (more w i));
      }

  pub creates-keep : (s : GroupOf M) (g : Identifier) (S : ℕ) → Kept s → KeepsGroup (creates s g S)
  unfolding creates
  creates-keep s g S h =
      need-holds (fits s.members S) _ _ (λ f.
      need-holds (all (λ v. ltb (id_of v) g) s.views) _ _ (λ a.
      need-holds (ltb (length s.views) s.room) _ _ (λ r.
      gives (makes_kept s (record { id = record { 0 = g }; set = S }) h (fits-say s.members S f)
      (λ w i. ltb-true (id_of w) g (all-at (λ v. ltb (id_of v) g) s.views a w i)) (ltb-true _ _ r)))))

  -- ---- start

  started-kept : (n S room : ℕ) → (1 ≤ n) × (n ≤ max_members) → (is_empty S ≡ false) × (is_beyond S n ≡ false) → (1 ≤ room) × (room ≤ max_views) → Kept (started {M = M} n S room)
  unfolding started is_rising rises_above
  started-kept n S room m f r =
      let fresh : (p : Member) → BookKept (in_group (started {M = M} n S room)) (fresh {M = M} S p) = λ p. fresh_kept (in_group (started {M = M} n S room)) S p top in
      record {
        sound = record {
          members-low = m.0;
          members-high = m.1;
          room-low = r.0;
          room-high = r.1;
          made-low = omega arith;
          made-high = omega arith;
          rising = refl;
          fits = λ v i. ⊎_elim (λ (e : v ≡ first_view S). rw e f) (λ (j : In v []). absurd (in-nil j)) (in-cons i);
          book = λ p i. sound-of _ _ (fresh p);
          outgoing = λ p i. (fresh p).outgoing;
          waiting = λ p i v j. queue-empty _ _ _ _ refl;
          ordered = λ v j. queue-empty _ _ _ _ refl;
        };
        below = λ p i. (fresh p).below;
        unmade = λ g n. (λ p. refl, refl);
      }

  pub kept-start : (n S room : ℕ) (s : GroupOf M) → start n S room ≡ accepted s → Kept s
  unfolding start
  kept-start n S room s e =
      let h : Holds Kept (start n S room)
      = need-holds (within 1 n max_members) _ _ (λ m.
      need-holds (fits n S) _ _ (λ f.
      need-holds (within 1 room max_views) _ _ (λ r.
      gives (started-kept n S room (within-says 1 n max_members m) (fits-say n S f) (within-says 1 room max_views r))))) in
      given (rw e at h)
