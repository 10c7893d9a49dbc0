-- A view becomes settled at a member: what collect and info have in common, and that both keep the invariants.
use mathlib.Core.Path.{◌≡◌}
use mathlib.Core.Logic.{◌≢◌, ◌⊎◌, inl, inr}
use Prim.Native.Nat.{ℕ, suc, ◌≤◌, ◌<◌, max}
use native.Mathlib.Omega.{arith, max_cases}
use native.Mathlib.Decide.{dec_le}
use Rattle.views.proofs.PointLaws.{upd-ind, upd-here}
use Rattle.membership.proofs.Covering.{Cov, cov-self, cov-into}
use Rattle.membership.proofs.Updates.{plus3, Put}
use Rattle.membership.proofs.Machine.{Env, State, Held, settled-view, open-view, Use, Sent, Mem, TotReg, settle_s, info_s, collect_s}
use Rattle.membership.proofs.Statements.{Inv, ceiling, ReceivedSent, SettledTotal, HeldBelow, AttemptedHeld, ReceivedHeld}

module _ (E : Env) (s : State) (i : Inv E s) where
  -- a, not below p's settled view, becomes settled at p; X are the open views that come with it
  module _ (p a : ℕ) (X : ℕ → Type 0) (total : TotReg E s a) (up : s.settled p ≤ a) where
    abbrev Kept : ℕ → ℕ → Type 0
    Kept = Put p (λ w. (s.opened p w ⊎ X w) × (a < w)) s.opened

    -- a covers what it passed, and what is above it stays open
    by-settled : (z : ℕ) → z ≤ a → Cov (TotReg E s) (Held a (Kept p)) z
    by-settled z l = (a, settled-view, l, inr total)

    by-open : (z : ℕ) → s.opened p z ⊎ X z → Dec (z ≤ a) → Cov (TotReg E s) (Held a (Kept p)) z
    by-open z o (yes l) = by-settled z l
    by-open z o (no n) = cov-self (open-view (Put.here (o, omega arith)))

    was-held : (z : ℕ) → Use s p z → Cov (TotReg E s) (Held a (Kept p)) z
    was-held z settled-view = by-settled z up
    was-held z (open-view o) = by-open z (inl o) (dec_le z a)

    others : (r : ℕ) → r ≢ p → (z : ℕ) → Use s r z → Cov (TotReg E s) (Held (s.settled r) (Kept r)) z
    others r n z settled-view = cov-self settled-view
    others r n z (open-view o) = cov-self (open-view (Put.there n o))

    -- what was held is covered by what is held now
    settle-held : (r z : ℕ) → Use s r z → Cov (TotReg E s) (Use (settle_s s p a X) r) z
    settle-held = upd-ind p a s.settled (λ r c. (z : ℕ) → Use s r z → Cov (TotReg E s) (Held c (Kept r)) z) was-held others

    -- and so is what came: what is at or below a, and X
    settle-came : (z : ℕ) → (z ≤ a) ⊎ X z → Cov (TotReg E s) (Use (settle_s s p a X) p) z
    settle-came z o = rw (upd-here p a s.settled) (go o)
      where
        go : (z ≤ a) ⊎ X z → Cov (TotReg E s) (Held a (Kept p)) z
        go (inl l) = by-settled z l
        go (inr x) = by-open z (inr x) (dec_le z a)

    settle-inv : a < ceiling s p → ((w : ℕ) → X w → w < ceiling s p) → Inv E (settle_s s p a X)
    settle-inv ab xb =
        let settled-tot⁺ : SettledTotal E (settle_s s p a X) = upd-ind p a s.settled (λ r c. TotReg E s c) total (λ r _. i.settled-tot r) in
        let use-bound⁺ : HeldBelow E (settle_s s p a X) = bound in
        let att-use⁺ : AttemptedHeld E (settle_s s p a X) = λ r w t. cov-into (settle-held r) (i.att-use r w t) in
        let got-use⁺ : ReceivedHeld E (settle_s s p a X) = λ r g q t y k. cov-into (settle-held r) (i.got-use r g q t y k) in
        search
      where
        kept : (r w : ℕ) → Kept r w → w < ceiling s r
        kept r w (Put.here (inl o, _)) = i.use-bound p w (open-view o)
        kept r w (Put.here (inr x, _)) = xb w x
        kept r w (Put.there n o) = i.use-bound r w (open-view o)

        bound : (r w : ℕ) → Use (settle_s s p a X) r w → w < ceiling s r
        bound r w settled-view = upd-ind p a s.settled (λ r c. c < ceiling s r) ab (λ r _. i.use-bound r _ settled-view) r
        bound r w (open-view o) = kept r w o

  -- p is a member of v, for it received registrations there; so its own is among them, and it attempted v
  pub collect-inv : (p v : ℕ) → ((q : ℕ) → Mem E v q → s.got_reg p v q) → s.settled p < v → Inv E (collect_s s p v)
  collect-inv p v heard l =
      let q = E.some_one v in
      let m : Mem E v p = i.gotreg-mem p v q.0 (heard q.0 q.1) in
      let c : v < s.client p = i.att-client p v (i.reg-att v p (i.gotreg-reg p v p (heard p m))) in
      settle-inv p v (λ w. ⊥) (λ r k. i.gotreg-reg p v r (heard r k)) (omega arith) (omega arith) (λ w x. absurd x)

  -- the higher of the two settled views becomes settled, and with q's open views covers all that q's info says
  pub info-inv : (p g q x : ℕ) → s.carrier p ≡ suc g → s.sent_settled g q x → Inv E (info_s s p g q x)
  info-inv p g q x e t =
      let got-sent⁺ : ReceivedSent E (info_s s p g q x) = plus3 (λ p g q. (x : ℕ) × s.sent_settled g q x) (x, t) i.got-sent in
      let got-use⁺ : ReceivedHeld E (info_s s p g q x) = plus3 (λ p g q. (y : ℕ) → Sent s g q y → Cov (TotReg E s) (Use s' p) y) told j.got-use in
      search j
    where
      a : ℕ
      a = max (s.settled p) x

      s' : State
      s' = settle_s s p a (s.sent_open g q)

      total : TotReg E s a
      total = max_cases (s.settled p) x (TotReg E s a) (λ _ k. rw k (i.sent-tot g q x t)) (λ _ k. rw k (i.settled-tot p))

      j : Inv E s'
      j = settle-inv p a (s.sent_open g q) total (omega arith)
          (omega (arith, i.use-bound p _ settled-view, i.sent-bound g q x (inl t)))
          (λ w o. omega (arith, i.sent-bound g q w (inr o)))

      told : (y : ℕ) → Sent s g q y → Cov (TotReg E s) (Use s' p) y
      told y (inl u) = settle-came p a (s.sent_open g q) total (omega arith) y (inl (omega (arith, i.sent-one g q x t y u)))
      told y (inr o) = settle-came p a (s.sent_open g q) total (omega arith) y (inr o)
