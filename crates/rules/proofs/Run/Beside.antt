-- Runs side by side: of the membership machine, of Figure 1 and of the flat group, tied where they stand. An attempt is taken here, for Figure 1 may have to
-- create the view first, and that it may is the intersection property.
use mathlib.Core.Path.{◌≡◌, refl, ◌∙◌, subst, ap}
use mathlib.Core.Logic.{◌≢◌, ◌⊎◌, inl, inr}
use mathlib.Core.List.{List, [], ◌∷◌, ◌++◌, append-nil}
use Prim.Native.Nat.{ℕ, suc, ◌≤◌, ◌<◌}
use native.Mathlib.Omega.{arith}
use lib.Dec.{T}
use Rattle.views.specs.declared.View.{View}
use Rattle.views.specs.Sets.{has}
use Rattle.views.specs.Lists.{id_of}
use Rattle.views.proofs.Members.{In, top, pop, in-cons}
use Rattle.membership.proofs.Counting.{Most}
use Rattle.membership.proofs.Covering.{None, tri, look}
use Rattle.membership.proofs.Updates.{Plus2}
use Rattle.membership.proofs.Machine.{Env, State, settled-view, open-view, Use, Mem, Maj, TotReg, attempt_s, Reach}
use Rattle.membership.proofs.Statements.{Inv}
use Rattle.membership.proofs.Invariants.{reach-inv}
use Rattle.membership.proofs.Intersection.{Att, facts, inv-4-18}
use Rattle.rules.specs.Data.{Event, attempt}
use Rattle.rules.specs.Group.{first_view}
use Rattle.rules.specs.Figure1 as D
use Rattle.rules.specs.Figure1.{Outer, Act, Run, Total, Apart}
use Rattle.rules.proofs.Flat.{Flat, Holds, attempt_f}
use Rattle.rules.proofs.Ties.{Tied, carrier-is, client-is, settled_is, current-is}
use Rattle.rules.proofs.Ties.Attempt.{attempt-tied}
use Rattle.rules.proofs.Run.Listed.{Naming, Agrees, to_named, from_named, same_view}

-- what Figure 1 does beside one step: nothing, a step with its events, or a create and then a new view
pub data Acts {M : Type 0} : Outer M → Outer M → List (Event M) → Type 0 where
  nothing : {d : Outer M} → Acts d d []
  acts : {d e : Outer M} {k : List (Event M)} → Act d e k → Acts d e k
  made : {d e f : Outer M} {p : ℕ} {v : View} → Act d e [] → Act e f (attempt p v ∷ []) → Acts d f (attempt p v ∷ [])

-- a run goes on with them
pub goes_on : {M : Type 0} {v : View} {d e : Outer M} {l k : List (Event M)} → Run v d l → Acts d e k → Run v e (l ++ k)
goes_on {l = l} r nothing = rw (append-nil l) r
goes_on r (acts x) = Run.then r x
goes_on {v = v} {l = l} r (made {e = e} x y) = Run.then {l = l} (subst (λ (k : List (Event _)). Run v e k) (append-nil l) (Run.then r x)) y

module _ (size : ℕ) (weight : ℕ → ℕ) (n : Naming size) where
  -- the membership machine's surroundings: the sets of the views that the identifiers name
  abbrev pub E : Env
  E = record { size = size; weight = weight; set = λ g p. has (n.view_of g).set p; below = n.below; some_one = n.some_one }

  module _ {M : Type 0} (S : ℕ) where
    -- a run of each machine, tied at the end
    abbrev pub Beside : Flat M → List (Event M) → Type 1
    Beside s es = (a : State) × (d : Outer M) × Reach E a × Run (first_view S) d es × Tied a d s

    -- a step of each machine from here, tied after it
    abbrev pub Follows : Outer M → Flat M → List (Event M) → Type 1
    Follows d t k = (b : State) × (e : Outer M) × Reach E b × Acts d e k × Tied b e t

    module _ (s : Flat M) (ag : Agrees n s.views) (a : State) (d : Outer M) (ra : Reach E a) (r : Tied a d s) where
      inv : Inv E a
      inv = reach-inv ra

      -- what is totally registered inside is so outside
      total-out : (x : ℕ) → TotReg E a x → (v : View) × Total d v × (id_of v ≡ x)
      total-out x t =
          let q = n.some_one x in
          let y = r.attempted-created q.0 x (inv.reg-att x q.0 (t q.0 q.1)) in
          let all : TotReg E a (id_of y.0) = rw y.2 t in
          (y.0, (y.1, λ p m. r.reg-outward (id_of y.0) p (all p (to_named n ag y.0 p (r.created-listed y.0 y.1) m))), y.2)

      -- ---- attempt
      module _ (p : ℕ) (v : View) (os : List ℕ) (c : s.carrier p ≡ suc (id_of v)) (hv : In v s.views) (l : s.client p ≤ id_of v)
          (infos : (q : ℕ) → T (has v.set q) → T (s.infos p q))
          (tests : (w : ℕ) → Holds s p w → (u : View) × In u s.views × (id_of u ≡ w) × Most weight size (has v.set) (has u.set))
          (keeps : (w : ℕ) → In w (s.opens p) → In w os) (opens : s.settled p < id_of v → In (id_of v) os) where
        passes : (w : ℕ) → Holds s p w → Maj E (id_of v) w
        passes w h =
            let x = tests w h in
            subst (λ (u : View). Most weight size (has u.set) (has (n.view_of w).set)) (ag v hv)
            (subst (λ (u : View). Most weight size (has v.set) (has u.set)) (ag x.0 x.1 ∙ ap n.view_of x.2) x.3)

        passes-held : (w : ℕ) → Use a p w → Maj E (id_of v) w
        passes-held w settled-view = passes w (inl (settled_is r p))
        passes-held w (open-view o) = passes w (inr (r.opened-listed p w o))

        got : (q : ℕ) → Mem E (id_of v) q → a.got_info p (id_of v) q
        got q m = r.infos-received p (id_of v) c q (infos q (from_named n ag v q hv m))

        reach⁺ : Reach E (attempt_s a p (id_of v))
        reach⁺ = Reach.attempt {s = a} p (id_of v) (carrier-is r p ∙ c) (omega (arith, client-is r p)) got passes-held ra

        inv⁺ : Inv E (attempt_s a p (id_of v))
        inv⁺ = reach-inv reach⁺

        own : Mem E (id_of v) p
        own = inv.carrier-mem p (id_of v) (carrier-is r p ∙ c)

        -- p's own info holds what is below v, so v is not the first view, and above what p has settled
        opened : In (id_of v) os
        opened =
            let x = inv.got-sent p (id_of v) p (got p own) in
            opens (omega (arith, inv.use-bound p (a.settled p) settled-view, inv.sent-bound (id_of v) p x.0 (inl x.1), carrier-is r p, client-is r p, settled_is r p))

        -- two views that are attempted after the step share a member, or have a totally registered one between them
        either : (u w : View) → In u s.views → In w s.views → Att E (attempt_s a p (id_of v)) (id_of u) → Att E (attempt_s a p (id_of v)) (id_of w) → id_of w < id_of u
            → ((q : ℕ) × T (has u.set q) × T (has w.set q)) ⊎ ((x : View) × Total d x × (id_of w < id_of x) × (id_of x < id_of u))
        either u w hu hw au aw lt = go (look (TotReg E a) (facts E a inv).dec (id_of w) (id_of u))
          where
            go : ((x : ℕ) × TotReg E a x × (id_of w < x) × (x < id_of u)) ⊎ None (TotReg E a) (id_of w) (id_of u)
                → ((q : ℕ) × T (has u.set q) × T (has w.set q)) ⊎ ((x : View) × Total d x × (id_of w < id_of x) × (id_of x < id_of u))
            go (inl y) = let z = total-out y.0 y.1 in inr (z.0, z.1, omega arith, omega arith)
            go (inr none) =
                let q = inv-4-18 E (attempt_s a p (id_of v)) inv⁺ (id_of u) (id_of w) au aw lt none in
                inl (q.0, from_named n ag u q.0 hu q.2, from_named n ag w q.0 hw q.3)

        apart : (w : View) → In w d.created → id_of w ≢ id_of v → (id_of w < id_of v) ⊎ ((id_of w ≡ id_of v) ⊎ (id_of v < id_of w)) → Apart d v w
        apart w h ne o =
            let hw = r.created-listed w h in
            let x = r.created-attempted w h in
            let aw : Att E (attempt_s a p (id_of v)) (id_of w) = (x.0, Plus2.old x.1) in
            elim o [
              | inl lt ↦ elim (either v w hv hw (p, Plus2.new) aw lt) [ inl q ↦ inl q | inr x ↦ inr (inl x) ]
              | inr (inl e) ↦ absurd (ne e)
              | inr (inr gt) ↦ elim (either w v hw hv aw (p, Plus2.new) gt) [ inl q ↦ inl (q.0, q.2, q.1) | inr x ↦ inr (inr x) ]
            ]

        -- Figure 1 has created the view already, or does so now
        pub attempt-beside : Dec ((u : View) × In u d.created × (id_of u ≡ id_of v)) → Follows d (attempt_f s p (id_of v) os) (attempt p v ∷ [])
        attempt-beside (yes x) = (
          attempt_s a p (id_of v),
          _,
          reach⁺,
          acts (D.new_view {d = d} p v here (from_named n ag v p hv own) (omega (arith, current-is r p))),
          attempt-tied a d s r p (id_of v) os c l keeps opened d.created r.created-listed
              (λ u h. let y = r.created-attempted u h in (y.0, Plus2.old y.1)) known,
        )
          where
            here : In v d.created
            here = rw (same_view n ag x.0 v (r.created-listed x.0 x.1) hv x.2) at x.1

            known : (q g : ℕ) → Plus2 a.attempted p (id_of v) q g → (u : View) × In u d.created × (id_of u ≡ g)
            known q g (Plus2.old t) = r.attempted-created q g t
            known q g Plus2.new = (v, here, refl)
        attempt-beside (no x) =
            let fresh : (w : View) → In w d.created → id_of w ≢ id_of v = λ w h e. x (w, h, e) in
            let first = D.create v (p, from_named n ag v p hv own) (λ w h. (fresh w h, apart w h (fresh w h) (tri (id_of w) (id_of v)))) in (
              attempt_s a p (id_of v),
              _,
              reach⁺,
              made first (D.new_view p v top (from_named n ag v p hv own) low),
              attempt-tied a d s r p (id_of v) os c l keeps opened (v ∷ d.created) (λ u h. in_list u (in-cons h)) (λ u h. by-some u (in-cons h)) known,
            )
          where
            low : d.current p ≤ id_of v
            low = omega (arith, current-is r p)

            in_list : (u : View) → (u ≡ v) ⊎ In u d.created → In u s.views
            in_list u (inl e) = rw e hv
            in_list u (inr h) = r.created-listed u h

            by-some : (u : View) → (u ≡ v) ⊎ In u d.created → (q : ℕ) × Plus2 a.attempted p (id_of v) q (id_of u)
            by-some u (inl e) = (p, rw e Plus2.new)
            by-some u (inr h) = let y = r.created-attempted u h in (y.0, Plus2.old y.1)

            known : (q g : ℕ) → Plus2 a.attempted p (id_of v) q g → (u : View) × In u (v ∷ d.created) × (id_of u ≡ g)
            known q g (Plus2.old t) = let y = r.attempted-created q g t in (y.0, pop y.1, y.2)
            known q g Plus2.new = (v, top, refl)
