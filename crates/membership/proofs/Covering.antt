-- Covering: in what sense an attempted view stays in sight of later tests, and what follows from it in any one state.
-- Numbers and relations alone: read TR x as 'x is totally registered', Att v as 'v is attempted', Maj v w as 'v passes the test against w'.
use mathlib.Core.Path.{◌≡◌, refl, ◌∙◌, subst}
use mathlib.Core.Logic.Dec
use mathlib.Core.Logic.{◌⊎◌, inl, inr}
use Prim.Native.Nat.{ℕ, zero, suc, ◌+◌, ◌≤◌, ◌<◌}
use native.Mathlib.Omega.{arith}
use native.Mathlib.Decide.{ℕ_discrete, dec_lt}

-- P covers w: it has w itself, or a totally registered view above w
abbrev pub Cov : (ℕ → Type 0) → (ℕ → Type 0) → ℕ → Type 0
Cov TR P w = (z : ℕ) × P z × (w ≤ z) × ((z ≡ w) ⊎ TR z)

pub cov-self : {TR P : ℕ → Type 0} {w : ℕ} → P w → Cov TR P w
cov-self {w = w} h = (w, h, omega arith, inl refl)

-- what covers a totally registered view is totally registered
pub cov-tot : {TR P : ℕ → Type 0} {w : ℕ} → TR w → (c : Cov TR P w) → TR c.0
cov-tot t c = elim c.3 [ inl e ↦ rw e t | inr u ↦ u ]

-- z stands for w and y for z, so y stands for w
stands : {TR TR' : ℕ → Type 0} {w z y : ℕ} → ((x : ℕ) → TR x → TR' x) → (y ≡ z) ⊎ TR' y → (z ≡ w) ⊎ TR z → (y ≡ w) ⊎ TR' y
stands f (inr t) _ = inr t
stands f (inl e) (inl k) = inl (e ∙ k)
stands f (inl e) (inr t) = inr (rw e (f _ t))

-- covering goes on from P to P' if P' covers all that P has; totally registered views may become more
pub cov-map : {TR TR' P P' : ℕ → Type 0} {w : ℕ}
    → ((x : ℕ) → TR x → TR' x) → ((z : ℕ) → P z → Cov TR' P' z) → Cov TR P w → Cov TR' P' w
cov-map f h c = let d = h c.0 c.1 in (d.0, d.1, omega arith, stands f d.3 c.3)

-- the same with the totally registered views unchanged, and with P' above P
pub cov-into : {TR P P' : ℕ → Type 0} {w : ℕ} → ((z : ℕ) → P z → Cov TR P' z) → Cov TR P w → Cov TR P' w
cov-into = cov-map (λ _ t. t)

pub cov-sub : {TR P P' : ℕ → Type 0} {w : ℕ} → ((z : ℕ) → P z → P' z) → Cov TR P w → Cov TR P' w
cov-sub h = cov-into (λ z k. cov-self (h z k))

-- ---- totally registered views between two identifiers

-- none is strictly between
abbrev pub None : (ℕ → Type 0) → ℕ → ℕ → Type 0
None TR a b = (x : ℕ) → a < x → x < b → ¬ TR x

pub tri : (a b : ℕ) → (a < b) ⊎ ((a ≡ b) ⊎ (b < a))
tri a b = go (dec_lt a b) (dec_lt b a)
  where
    go : Dec (a < b) → Dec (b < a) → (a < b) ⊎ ((a ≡ b) ⊎ (b < a))
    go (yes l) _ = inl l
    go (no l) (yes g) = inr (inr g)
    go (no l) (no g) = inr (inl (omega arith))

module _ (TR : ℕ → Type 0) (TR? : (x : ℕ) → Dec (TR x)) where
  -- the lowest strictly between, or none is
  abbrev Lowest : ℕ → ℕ → Type 0
  Lowest lo k = ((x : ℕ) × TR x × (lo < x) × (x < k) × None TR lo x) ⊎ None TR lo k

  lowest_step : (lo k : ℕ) → Dec (TR k × (lo < k)) → Lowest lo k → Lowest lo (suc k)
  lowest_step lo k _ (inl f) = inl (f.0, f.1, f.2, omega arith, f.4)
  lowest_step lo k (yes t) (inr none) = inl (k, t.0, t.1, omega arith, none)
  lowest_step lo k (no n) (inr none) = inr (λ x l h t. go x l h t (ℕ_discrete x k))
    where
      go : (x : ℕ) → lo < x → x < suc k → TR x → Dec (x ≡ k) → ⊥
      go x l h t (yes e) = n (subst TR e t, omega arith)
      go x l h t (no e) = none x l (omega arith) t

  lowest : (lo k : ℕ) → Lowest lo k
  lowest lo zero = inr (λ x l h _. omega arith)
  lowest lo (suc k) = lowest_step lo k (Dec.and (TR? k) (dec_lt lo k)) (lowest lo k)

  -- one strictly between, or none
  abbrev pub Between : ℕ → ℕ → Type 0
  Between lo k = ((x : ℕ) × TR x × (lo < x) × (x < k)) ⊎ None TR lo k

  pub look : (lo k : ℕ) → Between lo k
  look lo k = elim (lowest lo k) [ inl f ↦ inl (f.0, f.1, f.2, f.3) | inr none ↦ inr none ]

  -- from a totally registered view below k that has P to the latest below k, if P covers the next one each time
  module _ (P : ℕ → Type 0) (k : ℕ) (next : (a x : ℕ) → TR a → P a → TR x → a < x → x < k → None TR a x → Cov TR (λ z. (z < k) × P z) x) where
    climb : (j a : ℕ) → k ≤ a + j → TR a → a < k → P a → (z : ℕ) × TR z × (z < k) × None TR z k × P z
    climb zero a h t l pa = absurd (omega arith)
    climb (suc j) a h t l pa = elim (lowest a k) [
      | inl f ↦
          let c = next a f.0 t pa f.1 f.2 f.3 f.4 in
          climb j c.0 (omega arith) (cov-tot f.1 c) c.1.0 c.1.1
      | inr none ↦ (a, t, l, none, pa)
    ]

-- two that are both the latest below k are one
one-latest : {TR : ℕ → Type 0} {k : ℕ} (a b : ℕ) → TR a → a < k → None TR a k → TR b → b < k → None TR b k → a ≡ b
one-latest {TR} {k} a b ta la na tb lb nb = go (tri a b)
  where
    go : (a < b) ⊎ ((a ≡ b) ⊎ (b < a)) → a ≡ b
    go (inl l) = absurd (na b l lb tb)
    go (inr (inl e)) = e
    go (inr (inr g)) = absurd (nb a g la ta)

-- ---- Invariants 4.17 and 4.18 from facts of one state

pub record Facts (TR : ℕ → Type 0) (Att : ℕ → Type 0) (Maj : ℕ → ℕ → Type 0) : Type 0 where
  pub dec : (x : ℕ) → Dec (TR x)
  pub tot0 : TR 0
  pub tot-att : (x : ℕ) → TR x → Att x
  -- where the climb starts: of some totally registered view below v, v has a majority
  pub base : (v : ℕ) → Att v → 0 < v → Cov TR (λ z. (z < v) × Maj v z) 0
  -- and how it goes on: v and m have a majority of one view a, so they share a member, and that one told v of m
  pub step : (v m a : ℕ) → Att v → TR m → m < v → Maj v a → Maj m a → Cov TR (λ z. (z < v) × Maj v z) m

module _ (TR : ℕ → Type 0) (Att : ℕ → Type 0) (Maj : ℕ → ℕ → Type 0) (F : Facts TR Att Maj) where
  abbrev Latest : ℕ → Type 0
  Latest v = Att v → (w : ℕ) → TR w → w < v → None TR w v → Maj v w

  -- all views below k, by the lower ones
  latest-below : (k v : ℕ) → v < k → Latest v
  latest-below zero v h av w tw l none = absurd (omega arith)
  latest-below (suc k) v h av w tw l none =
      let c = F.base v av (omega arith) in
      let r = climb TR F.dec (Maj v) v
      (λ a m ta ma tm am mv between. F.step v m a av tm mv ma (latest-below k m (omega arith) (F.tot-att m tm) a ta am between))
      v c.0 (omega arith) (cov-tot F.tot0 c) c.1.0 c.1.1 in
      let e : r.0 ≡ w = one-latest r.0 w r.1 r.2 r.3 tw l none in
      rw e at r.4

  -- Invariant 4.17: an attempted view has a majority of the latest totally registered view below it
  pub latest : (v : ℕ) → Latest v
  latest v = latest-below (suc v) v (omega arith)

  -- Invariant 4.18, for any sense of sharing that a majority gives, and two majorities of one view
  module _ (Share : ℕ → ℕ → Type 0) (one : (v w : ℕ) → Maj v w → Share v w) (two : (v w z : ℕ) → Maj v z → Maj w z → Share v w) where
    pub meet : (v w : ℕ) → Att v → Att w → w < v → None TR w v → Share v w
    meet v w av aw l none = go (F.dec w)
      where
        -- w is not totally registered, so the latest below w is the latest below v too
        past : (z : ℕ) → ¬ TR w → None TR z w → (x : ℕ) → z < x → x < v → TR x → (x < w) ⊎ ((x ≡ w) ⊎ (w < x)) → ⊥
        past z n below x g h t (inl a) = below x g a t
        past z n below x g h t (inr (inl e)) = n (rw e at t)
        past z n below x g h t (inr (inr b)) = none x b h t

        go : Dec (TR w) → Share v w
        go (yes t) = one v w (latest v av w t l none)
        go (no n) =
            let above : w ≡ 0 → ⊥ = λ e. n (rw e F.tot0) in
            let r = climb TR F.dec (λ _. Unit {0}) w (λ a x _ _ _ _ h _. cov-self (h, tt)) w 0 (omega arith) F.tot0 (omega arith) tt in
            let z : ℕ = r.0 in
            two v w z (latest v av z r.1 (omega arith) (λ x g h t. past z n r.3 x g h t (tri x w))) (latest w aw z r.1 r.2 r.3)
