-- Demand 3 of members by themselves over any carrier: every history is a run of the flat group in which each view that comes to exist is made first, in
-- rising order. A view does nothing until a member joins it, so that it makes no difference when it came to exist.
use mathlib.Core.Path.{◌≡◌, refl, sym, subst}
use mathlib.Core.Logic.{◌≢◌, ⊎_elim}
use mathlib.Core.Bool.{true}
use mathlib.Core.List.{List, [], ◌∷◌, ◌++◌, append-nil, append_assoc}
use Prim.Native.Nat.{ℕ, ◌≤◌, ◌<◌}
use native.Mathlib.Omega.{arith}
use lib.Dec.{T}
use Rattle.views.specs.declared.View.{View}
use Rattle.views.specs.Limits.{max_members}
use Rattle.views.specs.Sets.{has, fits}
use Rattle.views.specs.Lists.{id_of, rises_above, insert_of}
use Rattle.views.proofs.Members.{In, top, pop, in-nil, in-cons, in_top}
use Rattle.views.proofs.ListLaws.{rises-front, insert-in, insert-keep, insert-there, insert-rises}
use Rattle.rules.specs.Data.{Member, Event, Result, refused, accepted}
use Rattle.rules.specs.Member.{DoneOf, PassingOf, passing}
use Rattle.rules.specs.Sound.{within}
use Rattle.rules.specs.Group.{fresh, first_view, started}
use Rattle.rules.specs.Alone.{alone}
use Rattle.rules.specs.Hosts as H
use Rattle.rules.specs.Hosts.{World, world0, called, passed, Happens, History, Demand3Hosts}
use Rattle.rules.proofs.TestLaws.{within-says}
use Rattle.rules.proofs.Sound.ListsWithin.{Within}
use Rattle.rules.proofs.Sound.QueueLaws.{in-snoc}
use Rattle.rules.proofs.Sound.Members.{fresh_kept}
use Rattle.rules.proofs.Flat as F
use Rattle.rules.proofs.Flat.{Flat, Steps}
use Rattle.rules.proofs.Flat.Flatten.{flat}
use Rattle.rules.proofs.Flat.Firm.{set_below, set-some}
use Rattle.rules.proofs.Flat.RunMoves.{start-flat}
use Rattle.rules.proofs.Run.Whole.{trace, unique, share}
use Rattle.rules.proofs.Hosts.{among, Fitting, group_of, Well}
use Rattle.rules.proofs.Hosts.Moves.{goes_on}

-- ---- the views in existence, in rising order

-- the first view, and the rest of them above it
pub record Ranged (n S : ℕ) (views : List View) : Type 0 where
  pub rest : List View
  pub rises : rises_above 0 rest ≡ true
  pub fit : (v : View) → In v rest → fits n v.set ≡ true
  pub all : Within views (first_view S ∷ rest)
  pub none-else : Within (first_view S ∷ rest) views

one_more : (n S : ℕ) (views : List View) → Ranged n S views → (v : View) → fits n v.set ≡ true → ((u : View) → In u views → id_of u ≢ id_of v) → Ranged n S (v ∷ views)
one_more n S views r v f new = record {
  rest = insert_of v r.rest;
  rises = insert-rises 0 v r.rest r.rises above;
  fit = λ u h. ⊎_elim (λ (e : u ≡ v). rw e f) (λ (j : In u r.rest). r.fit u j) (insert-in v r.rest u h);
  all = λ u h. ⊎_elim (λ (e : u ≡ v). rw e (pop there))
      (λ (j : In u views). ⊎_elim (λ (e : u ≡ first_view S). in_top e) (λ (i : In u r.rest). pop (insert-keep v r.rest u i)) (in-cons (r.all u j)))
      (in-cons h);
  none-else = λ u h. ⊎_elim (λ (e : u ≡ first_view S). pop (r.none-else u (in_top e)))
      (λ (j : In u (insert_of v r.rest)). ⊎_elim (λ (e : u ≡ v). in_top e) (λ (i : In u r.rest). pop (r.none-else u (pop i))) (insert-in v r.rest u j))
      (in-cons h);
}
  where
    above : 0 < id_of v
    above = let z : 0 ≢ id_of v = new (first_view S) (r.none-else (first_view S) top) in omega (arith, z)

    there : In v (insert_of v r.rest)
    there =
        let t = insert-there v r.rest in
        let e : t.0 ≡ v = ⊎_elim (λ (e : t.0 ≡ v). e) (λ (j : In t.0 r.rest). absurd (new t.0 (r.none-else t.0 (pop j)) t.2)) (insert-in v r.rest t.0 t.1) in
        rw e at t.1

-- ---- all views are made first

module _ (M : Type 0) (weight : Member → ℕ) (n S : ℕ) where
  -- a flat group with these views, in which nothing has happened
  abbrev Made : List View → Type 0
  Made l = Steps max_members weight (first_view S) (flat (group_of n l (world0 {M = M} S))) []

  first_made : Made (first_view S ∷ [])
  unfolding started
  first_made = subst (λ (t : Flat M). Steps max_members weight (first_view S) t []) (sym (start-flat weight n S 0)) Steps.begin

  all_made : n ≤ max_members → (l rest : List View) (g : ℕ) → ((u : View) → In u l → id_of u ≤ g) → rises_above g rest ≡ true
      → ((v : View) → In v rest → fits n v.set ≡ true) → Made l → Made (l ++ rest)
  all_made h l [] g low r f m = subst Made (sym (append-nil l)) m
  all_made h l (v ∷ rest) g low r f m =
      let up = rises-front g v rest r in
      subst Made (append_assoc l (v ∷ []) rest)
      (all_made h (l ++ (v ∷ [])) rest (id_of v)
      (λ u i. ⊎_elim (λ (j : In u l). omega (arith, low u j, up.0)) (λ (j : u ≡ v). rw j (omega arith)) (in-snoc l v u i))
      up.1 (λ u i. f u (pop i))
      (Steps.then m (F.create v (λ u i. omega (arith, low u i, up.0)) (set-some n v.set (f v top)) (set_below n v.set (f v top) h))))

module _ {M : Type 0} where
  -- a call and a pass make no view
  called-views : (w : World M) (p : Member) (r : Result (DoneOf M)) → (called w p r).views ≡ w.views
  called-views w p (refused r) = refl
  called-views w p (accepted d) = refl

  passed-views : (w : World M) (p : Member) (r : Result (PassingOf M)) → (passed w p r).views ≡ w.views
  passed-views w p (refused r) = refl
  passed-views w p (accepted x) = refl

  module _ (weight : Member → ℕ) (n S : ℕ) where
    -- what holds of the views in existence, and still does where one more comes to exist
    views-hold : (P : List View → Type 0) {w t : World M} {m : List (Event M)} → Happens weight n w t m → P w.views
        → ((v : View) → fits n v.set ≡ true → ((u : View) → In u w.views → id_of u ≢ id_of v) → P (v ∷ w.views)) → P t.views
    views-hold P (H.exist v f new) h more = more v f new
    views-hold P {w} (H.call p {r = x} c) h more = subst P (sym (called-views w p x)) h
    views-hold P {w} (H.pass p) h more = subst P (sym (passed-views w p (alone n p (w.books p) (passing (w.books p))))) h
    views-hold P (H.order p g e rest k) h more = h

    pub ranged : {w : World M} {l : List (Event M)} → History weight n S w l → Ranged n S w.views
    unfolding rises_above
    ranged (H.begin c f) = record { rest = []; rises = refl; fit = λ v h. absurd (in-nil h); all = λ v h. h; none-else = λ v h. h }
    ranged (H.then {w = w} g s) = let r = ranged g in views-hold (Ranged n S) s r (one_more n S w.views r)

    grows : {w t : World M} {m : List (Event M)} → Happens weight n w t m → Within w.views t.views
    grows {w} s = views-hold (Within w.views) s (λ u h. h) (λ v f new u h. pop h)

    -- ---- the start

    pub begun : {w : World M} {l : List (Event M)} → History weight n S w l → (within 1 n max_members ≡ true) × (fits n S ≡ true)
    begun (H.begin c f) = (c, f)
    begun (H.then g s) = begun g

    -- ---- a run, with views that have those of its end

    module _ (views : List View) (f : Fitting n views) (first : In (first_view S) views) (made : Made M weight n S views) where
      well-begun : Well n views (world0 {M = M} S)
      unfolding fresh
      well-begun = record {
        book = λ p i. fresh_kept (among n views) S p first;
        sent = λ p g e h. absurd (in-nil h);
        order = λ g e h. absurd (in-nil h);
        own = record { outgoing = λ p e h. absurd (in-nil h); waiting = λ p g e h. absurd (in-nil h) };
      }

      runs_on : {w : World M} {l : List (Event M)} → History weight n S w l → Within w.views views
          → Steps max_members weight (first_view S) (flat (group_of n views w)) l × Well n views w
      runs_on (H.begin c e) i = (made, well-begun)
      runs_on (H.then {w = w} {l = l} g s) i =
          let j : Within w.views views = λ u h. i u (grows s u h) in
          let x = runs_on g j in
          goes_on weight n views f w x.1 (first_view S) l x.0 s j

    module _ {w : World M} {l : List (Event M)} (g : History weight n S w l) where
      abbrev pub existing : List View
      existing = first_view S ∷ (ranged g).rest

      pub high : n ≤ max_members
      high = (within-says 1 n max_members (begun g).0).1

      pub fitting : Fitting n existing
      fitting = record {
        members-high = high;
        fits = λ v i. ⊎_elim (λ (e : v ≡ first_view S). rw e (begun g).1) (λ (j : In v (ranged g).rest). (ranged g).fit v j) (in-cons i);
      }

      existing-made : Made M weight n S existing
      existing-made =
          all_made M weight n S high (first_view S ∷ []) (ranged g).rest 0
          (λ u i. ⊎_elim (λ (e : u ≡ first_view S). rw e (omega arith)) (λ (j : In u []). absurd (in-nil j)) (in-cons i)) (ranged g).rises (ranged g).fit (first_made M weight n S)

      -- every history is a run of the flat group with the same outward events, and what the moves rest on holds at its end
      hosts-run : Steps max_members weight (first_view S) (flat (group_of n existing w)) l × Well n existing w
      hosts-run = runs_on existing fitting top existing-made g (ranged g).all

      pub run : Steps max_members weight (first_view S) (flat (group_of n existing w)) l
      run = hosts-run.0

      pub well : Well n existing w
      well = hosts-run.1

      pub below : (p : ℕ) → T (has S p) → p < max_members
      below = set_below n S (begun g).1 high

      pub some_one : (p : ℕ) × T (has S p)
      some_one = set-some n S (begun g).1

pub demand3-hosts : {M : Type 0} → Demand3Hosts M
demand3-hosts weight n S w l g =
    let b = below weight n S g in
    let o = some_one weight n S g in
    let st = run weight n S g in
    record {
      run = trace max_members weight S b o st;
      same = unique max_members weight S b o st;
      share = λ v u av au lt nn. let c = share max_members weight S b o st v u av au lt nn in (c.0, c.2, c.3, c.4);
    }
