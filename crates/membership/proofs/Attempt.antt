-- Attempt keeps the invariants: the attempted view has a majority of all that p holds, which covers all that its members told p,
-- which covers all that they attempted before.
use mathlib.Core.Path.{◌≡◌, subst}
use mathlib.Core.Logic.{inl, inr}
use Prim.Native.Nat.{ℕ, suc, ◌≤◌, ◌<◌}
use native.Mathlib.Omega.{arith}
use Rattle.views.proofs.PointLaws.{upd-ind, upd-here, upd-up}
use Rattle.membership.proofs.Covering.{Cov, cov-self, cov-into, cov-sub}
use Rattle.membership.proofs.Updates.{Plus2, plus2}
use Rattle.membership.proofs.Machine.{Env, State, settled-view, open-view, Use, Sent, Mem, Maj, TotReg, attempt_s}
use Rattle.membership.proofs.Statements.{Inv, ceiling, Won, RegisteredAttempted, ClientAttempted, AttemptedToClient, ClientToCarrier, HeldBelow, AttemptedToCarrier, AttemptedHeld, ReceivedHeld, AttemptedSent, AttemptedWon, AttemptedBase}

module _ (E : Env) (s : State) (i : Inv E s) (p v : ℕ) (carried : s.carrier p ≡ suc v) (above : s.client p ≤ v)
    (infos : (q : ℕ) → Mem E v q → s.got_info p v q) (test : (w : ℕ) → Use s p w → Maj E v w) where
  abbrev s' : State
  s' = attempt_s s p v

  -- p sent an info in v itself, so v is not the first view, and what p holds is below it
  won : (w : ℕ) → Use s p w → Won E v w
  won w u =
      let x = i.got-sent p v p (infos p (i.carrier-mem p v carried)) in
      (omega (arith, i.use-bound p w u, i.sent-bound v p x.0 (inl x.1)), test w u)

  client-up : (q : ℕ) → s.client q ≤ s'.client q
  client-up = upd-up p (suc v) s.client (omega arith)

  client-now : s'.client p ≡ suc v
  client-now = upd-here p (suc v) s.client

  held-still : (r z : ℕ) → Use s r z → Use s' r z
  held-still r z settled-view = settled-view
  held-still r z (open-view o) = open-view (Plus2.old o)

  held_below : (r w : ℕ) → Use s' r w → w < ceiling s' r
  held_below r w settled-view = omega (arith, i.use-bound r _ settled-view, client-up r)
  held_below r w (open-view o) = plus2 (λ r w. w < ceiling s' r)
      (omega (arith, client-now)) (λ r w o. omega (arith, i.use-bound r w (open-view o), client-up r)) r w o

  -- q joined v before p received q's info, so all that q attempts from now on is above v
  joined : (q : ℕ) → Mem E v q → v < s.carrier q
  joined q k = let x = i.got-sent p v q (infos q k) in i.sent-carrier v q x.0 x.1

  -- the heart of 4.16: from q's attempts to q's info, from there to what p holds, and from there to the test
  told-won : (q w : ℕ) → s.attempted q w → Mem E v q → w < v → Cov (TotReg E s) (Won E v) w
  told-won q w t k l =
      let x = i.got-sent p v q (infos q k) in
      cov-sub won (cov-into (i.got-use p v q (infos q k)) (i.att-sent v q x.0 x.1 w t l))

  -- 4.16 of a view u that r attempted before: p, if it is in u, attempts nothing below u any more
  still-won : (r u : ℕ) → s.attempted r u → (q w : ℕ) → s'.attempted q w → Mem E u q → w < u → Cov (TotReg E s) (Won E u) w
  still-won r u t = plus2 (λ q w. Mem E u q → w < u → Cov (TotReg E s) (Won E u) w)
      (λ k l. absurd (omega (arith, i.att-carrier r u t p k))) (λ q w t' k l. i.att-maj r u t q k w t' l)

  now-won : (q w : ℕ) → s'.attempted q w → Mem E v q → w < v → Cov (TotReg E s) (Won E v) w
  now-won = plus2 (λ q w. Mem E v q → w < v → Cov (TotReg E s) (Won E v) w) (λ _ l. absurd (omega arith)) told-won

  pub attempt-inv : Inv E (attempt_s s p v)
  attempt-inv =
      let reg-att⁺ : RegisteredAttempted E s' = λ g q t. Plus2.old (i.reg-att g q t) in
      let client-att⁺ : ClientAttempted E s' = upd-ind p (suc v) s.client (λ q c. (u : ℕ) → c ≡ suc u → s'.attempted q u)
      (λ u e. let k : v ≡ u = omega arith in subst (λ (u : ℕ). s'.attempted p u) k Plus2.new) (λ q _ u e. Plus2.old (i.client-att q u e)) in
      let att-client⁺ : AttemptedToClient E s' = plus2 (λ q u. u < s'.client q) (omega (arith, client-now))
      (λ q u t. omega (arith, i.att-client q u t, client-up q)) in
      let client-carrier⁺ : ClientToCarrier E s' = upd-ind p (suc v) s.client (λ q c. c ≤ s.carrier q) (omega arith) (λ q _. i.client-carrier q) in
      let use-bound⁺ : HeldBelow E s' = held_below in
      let att-carrier⁺ : AttemptedToCarrier E s' = plus2 (λ r u. (q : ℕ) → Mem E u q → u < s.carrier q) joined i.att-carrier in
      let att-use⁺ : AttemptedHeld E s' = plus2 (λ r u. Cov (TotReg E s) (Use s' r) u) (cov-self (open-view Plus2.new))
      (λ r u t. cov-sub (held-still r) (i.att-use r u t)) in
      let got-use⁺ : ReceivedHeld E s' = λ r g q t y k. cov-sub (held-still r) (i.got-use r g q t y k) in
      let att-sent⁺ : AttemptedSent E s' = λ g q x t w k. plus2 (λ q w. (x : ℕ) → s.sent_settled g q x → w < g → Cov (TotReg E s) (Sent s g q) w)
      (λ x t l. absurd (omega (arith, i.sent-carrier g p x t))) (λ q w k x t. i.att-sent g q x t w k) q w k x t in
      let att-maj⁺ : AttemptedWon E s' = plus2 (λ r u. (q : ℕ) → Mem E u q → (w : ℕ) → s'.attempted q w → w < u → Cov (TotReg E s) (Won E u) w)
      (λ q k w t l. now-won q w t k l) (λ r u t q k w t' l. still-won r u t q w t' k l) in
      let att-base⁺ : AttemptedBase E s' = plus2 (λ r u. 0 < u → Cov (TotReg E s) (Won E u) 0)
      (λ _. (s.settled p, won (s.settled p) settled-view, omega arith, inr (i.settled-tot p))) i.att-base in
      search
