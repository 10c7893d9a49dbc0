-- Join keeps the invariants: the carrier view rises, and the info that p sends is new and says what p holds.
use mathlib.Core.Path.{◌≡◌, refl, sym, subst}
use mathlib.Core.Logic.{◌⊎◌, inl, inr}
use Prim.Native.Nat.{ℕ, zero, suc, ◌≤◌, ◌<◌}
use native.Mathlib.Omega.{arith}
use Rattle.views.proofs.PointLaws.{upd-ind, upd-here, upd-up}
use Rattle.membership.proofs.Covering.{Cov, cov-sub}
use Rattle.membership.proofs.Updates.{Plus3, plus3, Also}
use Rattle.membership.proofs.Machine.{Env, State, settled-view, open-view, Use, Sent, Mem, TotReg, join_s}
use Rattle.membership.proofs.Statements.{Inv, CarrierHasMember, FirstHasCarrier, ClientToCarrier, SettledSentToCarrier, OpenSentToCarrier, SentOnce, ReceivedSent, SentTotal, HeldBelow, SentBelow, AttemptedToCarrier, ReceivedHeld, AttemptedSent}

module _ (E : Env) (s : State) (i : Inv E s) (p v : ℕ) (m : Mem E v p) (above : s.carrier p ≤ v) where
  abbrev s' : State
  s' = join_s s p v

  -- v is not the first view, which every one of its members had from the start
  not_first : 0 < v
  not_first = go v m above
    where
      go : (u : ℕ) → Mem E u p → s.carrier p ≤ u → 0 < u
      go zero k l = absurd (omega (arith, i.first-carrier p k))
      go (suc u) k l = omega arith

  carrier-up : (q : ℕ) → s.carrier q ≤ s'.carrier q
  carrier-up = upd-up p (suc v) s.carrier (omega arith)

  carrier-now : s'.carrier p ≡ suc v
  carrier-now = upd-here p (suc v) s.carrier

  held_below : (w : ℕ) → Use s p w → w < v
  held_below w u = omega (arith, i.use-bound p w u, i.client-carrier p, not_first)

  -- p sent no info in v before, and so no one received one
  unsent : (x : ℕ) → s.sent_settled v p x → ⊥
  unsent x t = omega (arith, i.sent-carrier v p x t)

  unreceived : (r : ℕ) → s.got_info r v p → ⊥
  unreceived r t = let x = i.got-sent r v p t in unsent x.0 x.1

  open-sent : (g q w : ℕ) → s'.sent_open g q w → g < s'.carrier q
  open-sent g q w (Also.old t) = omega (arith, i.open-carrier g q w t, carrier-up q)
  open-sent g q w (Also.new t) = omega (arith, carrier-now)

  was-or-new : (g q x : ℕ) → s'.sent_settled g q x → s.sent_settled g q x ⊎ ((g ≡ v) × (q ≡ p) × (x ≡ s.settled p))
  was-or-new = plus3 (λ g q x. s.sent_settled g q x ⊎ ((g ≡ v) × (q ≡ p) × (x ≡ s.settled p))) (inr (refl, refl, refl)) (λ g q x t. inl t)

  sent-once : (g q x : ℕ) → s'.sent_settled g q x → (y : ℕ) → s'.sent_settled g q y → x ≡ y
  sent-once g q x (Plus3.old t) y (Plus3.old u) = i.sent-one g q x t y u
  sent-once g q x (Plus3.old t) y Plus3.new = absurd (unsent x t)
  sent-once g q x Plus3.new y u = elim (was-or-new v p y u) [ inl k ↦ absurd (unsent y k) | inr e ↦ sym e.2 ]

  sent-below : (g q w : ℕ) → Sent s' g q w → w < g
  sent-below g q w (inl (Plus3.old t)) = i.sent-bound g q w (inl t)
  sent-below g q w (inl Plus3.new) = held_below w settled-view
  sent-below g q w (inr (Also.old t)) = i.sent-bound g q w (inr t)
  sent-below g q w (inr (Also.new o)) = held_below w (open-view o)

  -- an info that was received says what it said
  sent-before : (r g q : ℕ) → s.got_info r g q → (y : ℕ) → Sent s' g q y → Sent s g q y
  sent-before r g q t y (inl (Plus3.old u)) = inl u
  sent-before r g q t y (inl Plus3.new) = absurd (unreceived r t)
  sent-before r g q t y (inr (Also.old u)) = inr u
  sent-before r g q t y (inr (Also.new o)) = absurd (unreceived r t)

  -- what was said is said still, and p's info says what p holds
  sent-still : (g q z : ℕ) → Sent s g q z → Sent s' g q z
  sent-still g q z (inl t) = inl (Plus3.old t)
  sent-still g q z (inr t) = inr (Also.old t)

  sent-now : (z : ℕ) → Use s p z → Sent s' v p z
  sent-now z settled-view = inl Plus3.new
  sent-now z (open-view o) = inr (Also.new o)

  pub join-inv : Inv E (join_s s p v)
  join-inv =
      let carrier-mem⁺ : CarrierHasMember E s' = upd-ind p (suc v) s.carrier (λ q c. (g : ℕ) → c ≡ suc g → Mem E g q)
      (λ g e. let k : v ≡ g = omega arith in subst (λ (u : ℕ). Mem E u p) k m) (λ q _. i.carrier-mem q) in
      let first-carrier⁺ : FirstHasCarrier E s' = λ q k. omega (arith, i.first-carrier q k, carrier-up q) in
      let client-carrier⁺ : ClientToCarrier E s' = λ q. omega (arith, i.client-carrier q, carrier-up q) in
      let sent-carrier⁺ : SettledSentToCarrier E s' = plus3 (λ g q x. g < s'.carrier q) (omega (arith, carrier-now))
      (λ g q x t. omega (arith, i.sent-carrier g q x t, carrier-up q)) in
      let open-carrier⁺ : OpenSentToCarrier E s' = open-sent in
      let sent-one⁺ : SentOnce E s' = sent-once in
      let got-sent⁺ : ReceivedSent E s' = λ r g q t. let x = i.got-sent r g q t in (x.0, Plus3.old x.1) in
      let sent-tot⁺ : SentTotal E s' = plus3 (λ g q x. TotReg E s x) (i.settled-tot p) i.sent-tot in
      let use-bound⁺ : HeldBelow E s' = λ q w u. omega (arith, i.use-bound q w u, carrier-up q) in
      let sent-bound⁺ : SentBelow E s' = sent-below in
      let att-carrier⁺ : AttemptedToCarrier E s' = λ r u t q k. omega (arith, i.att-carrier r u t q k, carrier-up q) in
      let got-use⁺ : ReceivedHeld E s' = λ r g q t y k. i.got-use r g q t y (sent-before r g q t y k) in
      let att-sent⁺ : AttemptedSent E s' = plus3 (λ g q x. (w : ℕ) → s.attempted q w → w < g → Cov (TotReg E s) (Sent s' g q) w)
      (λ w t _. cov-sub sent-now (i.att-use p w t))
      (λ g q x t w k l. cov-sub (sent-still g q) (i.att-sent g q x t w k l)) in
      search
