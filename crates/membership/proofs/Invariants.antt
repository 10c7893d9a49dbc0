-- The invariants hold in every reachable state: at the start, and after each step if before it.
use mathlib.Core.Path.{◌≡◌, refl, sym}
use mathlib.Core.Logic.Dec
use mathlib.Core.Logic.{inl, inr}
use mathlib.Core.Bool.{Bool, true, false, cond}
use Prim.Native.Nat.{ℕ, suc, ◌<◌}
use native.Mathlib.Omega.{arith}
use native.Mathlib.Decide.{ℕ_discrete}
use lib.Dec.{T}
use Rattle.membership.proofs.Covering.{Cov, cov-map, cov-self}
use Rattle.membership.proofs.Updates.{Plus2, plus2, plus2-dec, plus3}
use Rattle.membership.proofs.Machine.{Env, State, settled-view, open-view, Use, Sent, Mem, TotReg, start, create_s, register_s, heard_s, Reach, begin, create, join, info, attempt, register, heard, collect}
use Rattle.membership.proofs.Statements.{ceiling, RegisteredAttempted, SettledTotal, SentTotal, ReceivedRegistered, ReceiverIsMember, AttemptedHeld, ReceivedHeld, AttemptedSent, AttemptedWon, AttemptedBase, FirstTotal, RegisteredKnown}
use Rattle.membership.proofs.Settle.{collect-inv, info-inv}
use Rattle.membership.proofs.Join.{join-inv}
use Rattle.membership.proofs.Attempt.{attempt-inv}
pub use Rattle.membership.proofs.Statements.{Inv}

-- ---- the start

first-view : (b : Bool) (g : ℕ) → cond b 1 0 ≡ suc g → (g ≡ 0) × T b
first-view true g e = (omega arith, tt)
first-view false g e = absurd (omega arith)

in-first : (b : Bool) → T b → 0 < cond b 1 0
in-first true t = omega arith
in-first false t = absurd t

T-dec : (b : Bool) → Dec (T b)
T-dec true = yes tt
T-dec false = no (λ t. t)

begin-inv : (E : Env) → Inv E (start E)
begin-inv E = record {
  carrier-mem = λ p g e. let f = first-view (E.set 0 p) g e in rw f.0 f.1;
  first-carrier = λ p m. in-first (E.set 0 p) m;
  reg-att = λ g p t. t;
  client-att = λ p v e. first-view (E.set 0 p) v e;
  att-client = λ p v t. omega (arith, in-first (E.set 0 p) t.1);
  client-carrier = λ p. omega arith;
  sent-carrier = λ g p x t. absurd t;
  open-carrier = λ g p w t. absurd t;
  sent-one = λ g p x t. absurd t;
  got-sent = λ p g q t. absurd t;
  settled-tot = λ p q m. (refl, m);
  sent-tot = λ g p x t. absurd t;
  use-bound = held;
  sent-bound = sent;
  gotreg-reg = λ p g q t. absurd t;
  gotreg-mem = λ p g q t. absurd t;
  att-carrier = λ p v t q m. omega (arith, in-first (E.set 0 q) (rw t.0 at m));
  att-use = λ p w t. (0, settled-view, omega arith, inl (sym t.0));
  got-use = λ p g q t. absurd t;
  att-sent = λ g q x t. absurd t;
  att-maj = λ p v t q m w k l. absurd (omega arith);
  att-base = λ p v t l. absurd (omega arith);
  tot0 = λ p m. (refl, m);
  reg-dec = λ g p. Dec.and (ℕ_discrete g 0) (T-dec (E.set 0 p));
}
  where
    held : (p w : ℕ) → Use (start E) p w → w < ceiling (start E) p
    held p w settled-view = omega arith
    held p w (open-view o) = absurd o

    sent : (g p w : ℕ) → Sent (start E) g p w → w < g
    sent g p w (inl t) = absurd t
    sent g p w (inr t) = absurd t

-- ---- the smaller steps

module _ (E : Env) (s : State) (i : Inv E s) where
  create-inv : (v : ℕ) → Inv E (create_s s v)
  create-inv v = search

  heard-inv : (p g q : ℕ) → s.carrier p ≡ suc g → s.registered g q → Inv E (heard_s s p g q)
  heard-inv p g q e r =
      let gotreg-reg⁺ : ReceivedRegistered E (heard_s s p g q) = plus3 (λ p g q. s.registered g q) r i.gotreg-reg in
      let gotreg-mem⁺ : ReceiverIsMember E (heard_s s p g q) = plus3 (λ p g q. Mem E g p) (i.carrier-mem p g e) i.gotreg-mem in
      search

  -- totally registered views become more, so what was covered is covered
  register-inv : (p v : ℕ) → s.client p ≡ suc v → Inv E (register_s s p v)
  register-inv p v e =
      let reg-att⁺ : RegisteredAttempted E s' = plus2 (λ g p. s.attempted p g) (i.client-att p v e) i.reg-att in
      let settled-tot⁺ : SettledTotal E s' = λ p. more _ (i.settled-tot p) in
      let sent-tot⁺ : SentTotal E s' = λ g p x t. more x (i.sent-tot g p x t) in
      let gotreg-reg⁺ : ReceivedRegistered E s' = λ p g q t. Plus2.old (i.gotreg-reg p g q t) in
      let att-use⁺ : AttemptedHeld E s' = λ p w t. covered (i.att-use p w t) in
      let got-use⁺ : ReceivedHeld E s' = λ p g q t y k. covered (i.got-use p g q t y k) in
      let att-sent⁺ : AttemptedSent E s' = λ g q x t w k l. covered (i.att-sent g q x t w k l) in
      let att-maj⁺ : AttemptedWon E s' = λ p v t q m w k l. covered (i.att-maj p v t q m w k l) in
      let att-base⁺ : AttemptedBase E s' = λ p v t l. covered (i.att-base p v t l) in
      let tot0⁺ : FirstTotal E s' = more 0 i.tot0 in
      let reg-dec⁺ : RegisteredKnown E s' = plus2-dec v p i.reg-dec in
      search
    where
      s' : State
      s' = register_s s p v

      more : (x : ℕ) → TotReg E s x → TotReg E s' x
      more x t q m = Plus2.old (t q m)

      covered : {P : ℕ → Type 0} {w : ℕ} → Cov (TotReg E s) P w → Cov (TotReg E s') P w
      covered c = cov-map more (λ z. cov-self) c

-- ---- every run

pub reach-inv : {E : Env} {s : State} → Reach E s → Inv E s
reach-inv {E} begin = begin-inv E
reach-inv {E} (create {s} v h r) = create-inv E s (reach-inv r) v
reach-inv {E} (join {s} p v h m l r) = join-inv E s (reach-inv r) p v m l
reach-inv {E} (info {s} p g q x e t r) = info-inv E s (reach-inv r) p g q x e t
reach-inv {E} (attempt {s} p v e l infos test r) = attempt-inv E s (reach-inv r) p v e l infos test
reach-inv {E} (register {s} p v e r) = register-inv E s (reach-inv r) p v e
reach-inv {E} (heard {s} p g q e t r) = heard-inv E s (reach-inv r) p g q e t
reach-inv {E} (collect {s} p v h l r) = collect-inv E s (reach-inv r) p v h l
