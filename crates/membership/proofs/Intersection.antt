-- The intersection property, in every reachable state: Invariants 4.17, 4.18 and 3.4 of the report.
use mathlib.Core.Path.{◌≡◌, refl}
use mathlib.Core.Logic.{inl, inr}
use mathlib.Core.Bool.{Bool, true, false}
use Prim.Native.Nat.{ℕ, zero, suc, ◌<◌}
use native.Mathlib.Omega.{arith}
use native.Mathlib.Decide.{ℕ_discrete, map_dec}
use lib.Dec.{T}
use Rattle.membership.proofs.Counting.{Common, two-most, one-most}
use Rattle.membership.proofs.Covering.{None, Facts, latest, meet, look}
use Rattle.membership.proofs.Machine.{Env, State, Mem, Maj, TotReg, Reach}
use Rattle.membership.proofs.Invariants.{Inv, reach-inv}

-- ---- whether all members of a set have a property

abbrev All : (ℕ → Bool) → (ℕ → Type 0) → ℕ → Type 0
All b R k = (p : ℕ) → p < k → T (b p) → R p

all-step : (b : ℕ → Bool) (R : ℕ → Type 0) (k : ℕ) → All b R k → (T (b k) → R k) → All b R (suc k)
all-step b R k f r p h t = go (ℕ_discrete p k)
  where
    go : Dec (p ≡ k) → R p
    go (yes e) = rw e (r (rw e at t))
    go (no n) = f p (omega arith) t

all-dec : (b : ℕ → Bool) (R : ℕ → Type 0) → ((p : ℕ) → Dec (R p)) → (k : ℕ) → Dec (All b R k)
all-dec b R d zero = yes (λ p h t. absurd (omega arith))
all-dec b R d (suc k) = go (all-dec b R d k) (d k) (b k) refl
  where
    go : Dec (All b R k) → Dec (R k) → (c : Bool) → b k ≡ c → Dec (All b R (suc k))
    go (no n) _ _ _ = no (λ f. n (λ p h t. f p (omega arith) t))
    go (yes f) (yes r) _ _ = yes (all-step b R k f (λ _. r))
    go (yes f) (no n) true e = no (λ g. n (g k (omega arith) (rw e tt)))
    go (yes f) (no n) false e = yes (all-step b R k f (λ t. absurd (rw e at t)))

module _ (E : Env) (s : State) where
  members-dec : (R : ℕ → Type 0) → ((p : ℕ) → Dec (R p)) → (x : ℕ) → Dec ((p : ℕ) → Mem E x p → R p)
  members-dec R d x = map_dec (λ f p m. f p (E.below x p m) m) (λ f p _ m. f p m) (all-dec (E.set x) R d E.size)

  -- v is attempted by a member, and by all its members
  abbrev pub Att : ℕ → Type 0
  Att v = (p : ℕ) × s.attempted p v

  abbrev pub TotAtt : ℕ → Type 0
  TotAtt v = (p : ℕ) → Mem E v p → s.attempted p v

  -- v and w have a member in common, and one that weighs something
  abbrev pub Share : ℕ → ℕ → Type 0
  Share v w = Common E.weight (E.set v) (E.set w) E.size

  module _ (i : Inv E s) where
    pub facts : Facts (TotReg E s) Att (Maj E)
    facts = record {
      dec = λ x. members-dec (s.registered x) (i.reg-dec x) x;
      tot0 = i.tot0;
      tot-att = λ x t. let q = E.some_one x in (q.0, i.reg-att x q.0 (t q.0 q.1));
      base = λ v a. i.att-base a.0 v a.1;
      step = λ v m a av tm l mv mm.
          let q = two-most E.weight E.size (E.set v) (E.set m) (E.set a) mv mm in
          i.att-maj av.0 v av.1 q.0 q.2 m (i.reg-att m q.0 (tm q.0 q.3)) l;
    }

    -- 4.17: an attempted view has a majority of the latest totally registered view below it
    pub inv-4-17 : (v : ℕ) → Att v → (w : ℕ) → TotReg E s w → w < v → None (TotReg E s) w v → Maj E v w
    inv-4-17 = latest (TotReg E s) Att (Maj E) facts

    -- 4.18: two attempted views with no totally registered view between them share a member
    pub inv-4-18 : (v w : ℕ) → Att v → Att w → w < v → None (TotReg E s) w v → Share v w
    inv-4-18 = meet (TotReg E s) Att (Maj E) facts Share
        (λ v w. one-most E.weight E.size (E.set v) (E.set w))
        (λ v w z. two-most E.weight E.size (E.set v) (E.set w) (E.set z))

    -- every member of w has w as client view, or a later one
    abbrev pub Past : ℕ → Type 0
    Past w = (p : ℕ) → Mem E w p → w < s.client p

    -- down from w by the totally registered views between v and w, until none is left
    past-below : (k v w : ℕ) → w < k → Att v → Att w → Past w → v < w → (p : ℕ) × Mem E v p × (suc v < s.client p)
    past-below zero v w h av aw pw l = absurd (omega arith)
    past-below (suc k) v w h av aw pw l = elim (look (TotReg E s) facts.dec v w) [
      | inl x ↦
          past-below k v x.0 (omega arith) av (facts.tot-att x.0 x.1)
          (λ p m. i.att-client p x.0 (i.reg-att x.0 p (x.1 p m)))
          x.2
      | inr none ↦ let q = inv-4-18 w v aw av l none in (q.0, q.3, omega (arith, pw q.0 q.2))
    ]

    -- 3.4 from less than total attempt: some member of v has a later client view
    pub inv-3-4-past : (v w : ℕ) → Att v → Att w → Past w → v < w → (p : ℕ) × Mem E v p × (suc v < s.client p)
    inv-3-4-past v w = past-below (suc w) v w (omega arith)

    -- 3.4: a view below a totally attempted one has a member whose client view is later
    pub inv-3-4 : (v w : ℕ) → Att v → TotAtt w → v < w → (p : ℕ) × Mem E v p × (suc v < s.client p)
    inv-3-4 v w av tw l =
        let q = E.some_one w in
        inv-3-4-past v w av (q.0, tw q.0 q.1) (λ p m. i.att-client p w (tw p m)) l

pub always-4-18 : (E : Env) (s : State) → Reach E s → (v w : ℕ) → Att E s v → Att E s w → w < v → None (TotReg E s) w v → Share E s v w
always-4-18 E s r = inv-4-18 E s (reach-inv r)

pub always-3-4 : (E : Env) (s : State) → Reach E s → (v w : ℕ) → Att E s v → TotAtt E s w → v < w → (p : ℕ) × Mem E v p × (suc v < s.client p)
always-3-4 E s r = inv-3-4 E s (reach-inv r)
