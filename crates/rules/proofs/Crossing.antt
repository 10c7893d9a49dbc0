-- The marks say what the events say: a view made is marked exactly if it is the first, or an event says that it was attempted.
use mathlib.Core.Path.{◌≡◌, refl, sym}
use mathlib.Core.Logic.{◌⊎◌, inl, inr}
use mathlib.Core.Bool.{Bool, true}
use mathlib.Core.List.{List, [], ◌∷◌}
use Prim.Native.Nat.{ℕ, ◌≤◌}
use native.Mathlib.Omega.{arith}
use lib.Dec.{ltb}
use borrow.Author.Tests.{eqb-true, ltb-true, lt-ltb}
use Rattle.views.specs.declared.View.{View}
use Rattle.views.specs.Limits.{max_members}
use Rattle.views.specs.Lists.{id_of, is_rising}
use Rattle.views.proofs.Members.{In, top, pop, in-nil, in-cons}
use Rattle.views.proofs.SetLaws.{both_true}
use Rattle.views.proofs.ListLaws.{rising-unique}
use Rattle.views.proofs.PointLaws.{upd-ind}
use Rattle.rules.specs.Data.{Identifier, Member, Group, Step, Event, attempt, register, send, hand, safe, accepted}
use Rattle.rules.specs.Group.{start, first_view}
use Rattle.rules.specs.Runs.{last_of, answers_of, events_of, Attempted}
use Rattle.rules.specs.Crossing.{Marks, first_marks, marking, marks_after, picked, first_of, newest_before, Falls, Crossed, MarksTold, NewestBefore, NewestTold}
use Rattle.rules.proofs.TestLaws.{both-from}
use Rattle.rules.proofs.Sound.Views.{kept-start}
use Rattle.rules.proofs.NeverWedged.{kept-last}
use Rattle.rules.proofs.Flat.RunMoves.{began, runs}
use Rattle.rules.proofs.Run.Whole.{att-listed}
use Rattle.rules.proofs.Crossing.Newest.{newest-has, newest-only, newest-falls}
pub mod Newest

module _ {M : Type 0} where
  -- ---- marks and events

  -- g was marked before, or an event says that a view of this identifier was attempted
  abbrev Told : Marks → List (Event M) → Identifier → Type 0
  Told m l g = (m g ≡ true) ⊎ ((p : Member) × (v : View) × In (attempt p v) l × (id_of v ≡ g))

  -- one more event in front
  more : (a : Event M) (l : List (Event M)) (m : Marks) (g : Identifier) → Told (marking a m) l g → Told m (a ∷ l) g
  more (attempt p v) l m g (inl e) = upd-ind (id_of v) true m (λ h b. b ≡ true → Told m (attempt p v ∷ l) h) (λ _. inr (p, v, top, refl)) (λ h _ k. inl k) g e
  more (register p h) l m g (inl e) = inl e
  more (send p h y) l m g (inl e) = inl e
  more (hand p h y) l m g (inl e) = inl e
  more (safe p h y) l m g (inl e) = inl e
  more a l m g (inr x) = inr (x.0, x.1, pop x.2, x.3)

  marked-told : (l : List (Event M)) (m : Marks) (g : Identifier) → marks_after m l g ≡ true → Told m l g
  unfolding marks_after
  marked-told [] m g e = inl e
  marked-told (a ∷ l) m g e = more a l m g (marked-told l (marking a m) g e)

  -- a mark stays
  stays : (a : Event M) (m : Marks) (g : Identifier) → m g ≡ true → marking a m g ≡ true
  stays (attempt p v) m g e = upd-ind (id_of v) true m (λ h b. m h ≡ true → b ≡ true) (λ _. refl) (λ h _ k. k) g e
  stays (register p h) m g e = e
  stays (send p h y) m g e = e
  stays (hand p h y) m g e = e
  stays (safe p h y) m g e = e

  still : (l : List (Event M)) (m : Marks) (g : Identifier) → m g ≡ true → marks_after m l g ≡ true
  unfolding marks_after
  still [] m g e = e
  still (a ∷ l) m g e = still l (marking a m) g (stays a m g e)

  told-marked : (l : List (Event M)) (m : Marks) (p : Member) (v : View) → In (attempt p v) l → marks_after m l (id_of v) ≡ true
  unfolding marks_after
  told-marked [] m p v i = absurd (in-nil i)
  told-marked (a ∷ l) m p v top = still l (marking a m) (id_of v) (upd-ind (id_of v) true m (λ h b. h ≡ id_of v → b ≡ true) (λ _. refl) (λ h n e. absurd (n e)) (id_of v) refl)
  told-marked (a ∷ l) m p v (pop i) = told-marked l (marking a m) p v i

  -- ---- the attempted views are among the views made, whose identifiers rise

  module _ (S : ℕ) (l : List (Event M)) (views : List View) (listed : (v : View) → Attempted S l v → In v views) (rising : is_rising views ≡ true) where
    attempted-marked : (v : View) → Attempted S l v → marks_after first_marks l (id_of v) ≡ true
    attempted-marked v (inl k) = still l first_marks (id_of v) (rw k refl)
    attempted-marked v (inr x) = told-marked l first_marks x.0 v x.1

    by-told : (g : Identifier) → Told first_marks l g → (v : View) × Attempted S l v × (id_of v ≡ g)
    by-told g (inl k) = (first_view S, inl refl, sym (eqb-true g 0 k))
    by-told g (inr x) = (x.1, inr (x.0, x.2), x.3)

    marked-attempted : (v : View) → In v views → marks_after first_marks l (id_of v) ≡ true → Attempted S l v
    marked-attempted v i k =
        let t = by-told (id_of v) (marked-told l first_marks (id_of v) k) in
        let z : t.0 ≡ v = rising-unique views rising t.0 v (listed t.0 t.1) i t.2 in
        rw z at t.1

    pub crossed : (f : View → Bool) → Crossed S l f (picked views (marks_after first_marks l) f)
    unfolding picked
    crossed f = record {
      all = λ v a k. newest-has _ v views (listed v a) (both-from _ _ (attempted-marked v a) k);
      only = λ v i.
          let t = newest-only _ v views i in
          let u = both_true (marks_after first_marks l (id_of v)) (f v) t.1 in
          (marked-attempted v t.0 u.0, u.1);
      falls = newest-falls _ views rising;
    }

  -- the newest before an identifier
  newest-of : (S : ℕ) (l : List (Event M)) (g : ℕ) (found : List View) → Crossed S l (λ v. ltb (id_of v) g) found → NewestBefore S l g (first_of found)
  newest-of S l g [] c = λ v a h. in-nil (c.all v a (lt-ltb (id_of v) g h))
  newest-of S l g (v ∷ k) c =
      let t = c.only v top in
      (t.0, ltb-true (id_of v) g t.1, λ w a h. go c.falls w (in-cons (c.all w a (lt-ltb (id_of w) g h))))
    where
      go : Falls (v ∷ k) → (w : View) → (w ≡ v) ⊎ In w k → id_of w ≤ id_of v
      go f w (inl z) = rw z (omega arith)
      go (Falls.down a f) w (inr i) = omega (arith, a w i)

-- ---- from a start

pub marks-told : MarksTold
marks-told weight n S room s e steps f =
    let g = began n S room s e in
    crossed S (events_of (answers_of weight s steps)) (last_of weight s steps).views
    (att-listed max_members weight S g.below g.some_one (runs weight n S room s e steps))
    (kept-last weight s steps (kept-start n S room s e)).sound.rising f

pub newest-told : NewestTold
unfolding newest_before
newest-told weight n S room s e steps g = newest-of S _ g _ (marks-told weight n S room s e steps (λ v. ltb (id_of v) g))
