-- What holds in every reachable state of the membership machine, one statement at a time, and the record of them all.
-- The report's number stands beside each that it has. 4.13 to 4.15 are said by covering, which asks less than 'held, or below the settled view'
-- and is enough: 4.16 follows as the report has it.
use mathlib.Core.Path.{◌≡◌}
use Prim.Native.Nat.{ℕ, suc, ◌≤◌, ◌<◌, max, pred}
use Rattle.membership.proofs.Covering.{Cov}
use Rattle.membership.proofs.Machine.{Env, State, Use, Sent, Mem, Maj, TotReg}

-- ---- who is where

-- a member is in the set of its carrier view
abbrev pub CarrierHasMember : Env → State → Type 0
CarrierHasMember E s = (p g : ℕ) → s.carrier p ≡ suc g → Mem E g p

-- the members of the first view are never without a carrier view
abbrev pub FirstHasCarrier : Env → State → Type 0
FirstHasCarrier E s = (p : ℕ) → Mem E 0 p → 0 < s.carrier p

-- who registered a view attempted it (3.1)
abbrev pub RegisteredAttempted : Env → State → Type 0
RegisteredAttempted E s = (g p : ℕ) → s.registered g p → s.attempted p g

-- the client view is attempted
abbrev pub ClientAttempted : Env → State → Type 0
ClientAttempted E s = (p v : ℕ) → s.client p ≡ suc v → s.attempted p v

-- an attempted view is at or below the client view (4.3)
abbrev pub AttemptedToClient : Env → State → Type 0
AttemptedToClient E s = (p v : ℕ) → s.attempted p v → v < s.client p

-- the client view is at or below the carrier view
abbrev pub ClientToCarrier : Env → State → Type 0
ClientToCarrier E s = (p : ℕ) → s.client p ≤ s.carrier p

-- ---- infos

-- an info's sender has the info's view as carrier view, or a later one: by the settled view and by each open view in it (4.4)
abbrev pub SettledSentToCarrier : Env → State → Type 0
SettledSentToCarrier E s = (g p x : ℕ) → s.sent_settled g p x → g < s.carrier p

abbrev pub OpenSentToCarrier : Env → State → Type 0
OpenSentToCarrier E s = (g p w : ℕ) → s.sent_open g p w → g < s.carrier p

-- a member sends one info in a view, with one settled view
abbrev pub SentOnce : Env → State → Type 0
SentOnce E s = (g p x : ℕ) → s.sent_settled g p x → (y : ℕ) → s.sent_settled g p y → x ≡ y

-- an info received was sent (4.8)
abbrev pub ReceivedSent : Env → State → Type 0
ReceivedSent E s = (p g q : ℕ) → s.got_info p g q → (x : ℕ) × s.sent_settled g q x

-- ---- settled views are totally registered

-- a settled view (4.10, part 1)
abbrev pub SettledTotal : Env → State → Type 0
SettledTotal E s = (p : ℕ) → TotReg E s (s.settled p)

-- the settled view of an info (4.10, part 2)
abbrev pub SentTotal : Env → State → Type 0
SentTotal E s = (g p x : ℕ) → s.sent_settled g p x → TotReg E s x

-- ---- what is held is low enough

-- what p holds is below this: with no carrier view it is the first view alone; else it is at or below the carrier view,
-- and below it until that is attempted (4.7; 4.12, parts 1 and 2)
abbrev pub ceiling : State → ℕ → ℕ
ceiling s p = max 1 (max (s.client p) (pred (s.carrier p)))

abbrev pub HeldBelow : Env → State → Type 0
HeldBelow E s = (p w : ℕ) → Use s p w → w < ceiling s p

-- what an info says is held is below the info's view (4.12, part 3)
abbrev pub SentBelow : Env → State → Type 0
SentBelow E s = (g p w : ℕ) → Sent s g p w → w < g

-- ---- registrations

-- a registration received was made (4.9)
abbrev pub ReceivedRegistered : Env → State → Type 0
ReceivedRegistered E s = (p g q : ℕ) → s.got_reg p g q → s.registered g q

-- who received a registration is in the set of its view, so its own is among those that it needs to collect (in place of 4.6)
abbrev pub ReceiverIsMember : Env → State → Type 0
ReceiverIsMember E s = (p g q : ℕ) → s.got_reg p g q → Mem E g p

-- ---- attempted views stay in sight

-- all members of an attempted view have it as carrier view, or a later one (4.11)
abbrev pub AttemptedToCarrier : Env → State → Type 0
AttemptedToCarrier E s = (p v : ℕ) → s.attempted p v → (q : ℕ) → Mem E v q → v < s.carrier q

-- what p holds covers what p attempted (4.13)
abbrev pub AttemptedHeld : Env → State → Type 0
AttemptedHeld E s = (p w : ℕ) → s.attempted p w → Cov (TotReg E s) (Use s p) w

-- what p holds covers each info that p received (4.14)
abbrev pub ReceivedHeld : Env → State → Type 0
ReceivedHeld E s = (p g q : ℕ) → s.got_info p g q → (y : ℕ) → Sent s g q y → Cov (TotReg E s) (Use s p) y

-- q's info in g covers what q attempted below g (4.15)
abbrev pub AttemptedSent : Env → State → Type 0
AttemptedSent E s = (g q x : ℕ) → s.sent_settled g q x → (w : ℕ) → s.attempted q w → w < g → Cov (TotReg E s) (Sent s g q) w

-- the views below v of which v has a majority
abbrev pub Won : Env → ℕ → ℕ → Type 0
Won E v z = (z < v) × Maj E v z

-- the views of which an attempted view has a majority cover each earlier view that one of its members attempted (4.16: with no
-- totally registered view between, only that view itself can cover it)
abbrev pub AttemptedWon : Env → State → Type 0
AttemptedWon E s = (p v : ℕ) → s.attempted p v → (q : ℕ) → Mem E v q → (w : ℕ) → s.attempted q w → w < v → Cov (TotReg E s) (Won E v) w

-- an attempted view above the first has a majority of some totally registered view below it (4.10, part 3, with the test)
abbrev pub AttemptedBase : Env → State → Type 0
AttemptedBase E s = (p v : ℕ) → s.attempted p v → 0 < v → Cov (TotReg E s) (Won E v) 0

-- ---- total registration

-- the first view is totally registered (4.5, part 1)
abbrev pub FirstTotal : Env → State → Type 0
FirstTotal E s = TotReg E s 0

-- whether a member registered a view can be decided, so the latest totally registered view can be looked for
abbrev pub RegisteredKnown : Env → State → Type 0
RegisteredKnown E s = (g p : ℕ) → Dec (s.registered g p)

pub record Inv (E : Env) (s : State) : Type 0 where
  pub carrier-mem : CarrierHasMember E s
  pub first-carrier : FirstHasCarrier E s
  pub reg-att : RegisteredAttempted E s
  pub client-att : ClientAttempted E s
  pub att-client : AttemptedToClient E s
  pub client-carrier : ClientToCarrier E s
  pub sent-carrier : SettledSentToCarrier E s
  pub open-carrier : OpenSentToCarrier E s
  pub sent-one : SentOnce E s
  pub got-sent : ReceivedSent E s
  pub settled-tot : SettledTotal E s
  pub sent-tot : SentTotal E s
  pub use-bound : HeldBelow E s
  pub sent-bound : SentBelow E s
  pub gotreg-reg : ReceivedRegistered E s
  pub gotreg-mem : ReceiverIsMember E s
  pub att-carrier : AttemptedToCarrier E s
  pub att-use : AttemptedHeld E s
  pub got-use : ReceivedHeld E s
  pub att-sent : AttemptedSent E s
  pub att-maj : AttemptedWon E s
  pub att-base : AttemptedBase E s
  pub tot0 : FirstTotal E s
  pub reg-dec : RegisteredKnown E s
