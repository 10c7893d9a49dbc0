-- The accepted steps of the flat group as a relation, and its runs with their outward events.
pub mod States
pub mod Flatten
pub mod Changes
pub mod Firm
pub mod Moves
pub mod JointMoves
pub mod RunMoves
pub mod Queues
use mathlib.Core.Path.{◌≡◌}
use mathlib.Core.Logic.{◌≢◌, ◌⊎◌}
use mathlib.Core.List.{List, [], ◌∷◌, ◌++◌}
use Prim.Native.Nat.{ℕ, suc, ◌≤◌, ◌<◌, max}
use lib.Dec.{T}
use lib.ListN.{length}
use Rattle.views.specs.declared.View.{View}
use Rattle.views.specs.Members.{In}
use Rattle.views.specs.Sets.{has}
use Rattle.views.specs.Lists.{id_of}
use Rattle.membership.proofs.Counting.{Most}
use Rattle.rules.specs.Data.{Item, item, Event, attempt, register, send, hand, safe}
use Rattle.rules.specs.Figure1.{At}
pub use Rattle.rules.proofs.Flat.States.{Msg, client, info, registered, told, Ent, ent, Flat, create_f, join_f, pass_f, order_f, info_f, heard_f, told_f, inward_f, arrive_f, attempt_f, queue_f, hand_f, safe_f, collect_f, Holds, flat0}

-- the accepted steps, of members below a size and with these weights, each with the outward events it gives
pub data Move {M : Type 0} (size : ℕ) (weight : ℕ → ℕ) : Flat M → Flat M → List (Event M) → Type 0 where
  create : {s : Flat M} (v : View) → ((w : View) → In w s.views → id_of w < id_of v) → ((p : ℕ) × T (has v.set p)) → ((p : ℕ) → T (has v.set p) → p < size)
      → Move size weight s (create_f s v) []
  join : {s : Flat M} (p : ℕ) (v : View) → In v s.views → T (has v.set p) → s.carrier p ≤ id_of v → Move size weight s (join_f s p (id_of v)) []
  pass : {s : Flat M} (p g : ℕ) (m : Msg M) (r : List (Msg M)) → s.carrier p ≡ suc g → s.outgoing p ≡ m ∷ r → Move size weight s (pass_f s p g m r) []
  order : {s : Flat M} (p g : ℕ) (m : Msg M) (r : List (Msg M)) → s.waiting p g ≡ m ∷ r → Move size weight s (order_f s p g m r) []
  -- the open views after it have all of both lists that are above the settled one after it
  take_info : {s : Flat M} (p g q x : ℕ) (ws os : List ℕ) → s.carrier p ≡ suc g → At (s.order g) (s.taken p) (ent q (info x ws))
      → ((w : ℕ) → In w (s.opens p) ⊎ In w ws → max (s.settled p) x < w → In w os) → Move size weight s (info_f s p q (max (s.settled p) x) os) []
  take_registered : {s : Flat M} (p g q : ℕ) → s.carrier p ≡ suc g → At (s.order g) (s.taken p) (ent q registered) → Move size weight s (heard_f s p q) []
  take_told : {s : Flat M} (p g q c : ℕ) → s.carrier p ≡ suc g → At (s.order g) (s.taken p) (ent q (told c)) → Move size weight s (told_f s p q c) []
  take_inward : {s : Flat M} (p g q : ℕ) (m : M) → s.carrier p ≡ suc g → s.client p ≡ suc g → At (s.order g) (s.taken p) (ent q (client m))
      → Move size weight s (inward_f s p (item q m)) []
  take_arrived : {s : Flat M} (p g q : ℕ) (m : M) → s.carrier p ≡ suc g → s.client p ≢ suc g → At (s.order g) (s.taken p) (ent q (client m))
      → Move size weight s (arrive_f s p (item q m)) []
  -- the open views after it have the old ones and v
  attempts : {s : Flat M} (p : ℕ) (v : View) (os : List ℕ) → s.carrier p ≡ suc (id_of v) → In v s.views → s.client p ≤ id_of v
      → ((q : ℕ) → T (has v.set q) → T (s.infos p q))
      → ((w : ℕ) → Holds s p w → (u : View) × In u s.views × (id_of u ≡ w) × Most weight size (has v.set) (has u.set))
      → ((w : ℕ) → In w (s.opens p) → In w os) → (s.settled p < id_of v → In (id_of v) os)
      → Move size weight s (attempt_f s p (id_of v) os) (attempt p v ∷ [])
  registers : {s : Flat M} (p v : ℕ) → s.client p ≡ suc v → s.carrier p ≡ suc v → Move size weight s (queue_f s p registered) (register p v ∷ [])
  registers_old : {s : Flat M} (p v : ℕ) → s.client p ≡ suc v → s.carrier p ≢ suc v → Move size weight s s (register p v ∷ [])
  sends : {s : Flat M} (p v : ℕ) (m : M) → s.client p ≡ suc v → s.carrier p ≡ suc v → Move size weight s (queue_f s p (client m)) (send p v m ∷ [])
  sends_old : {s : Flat M} (p v : ℕ) (m : M) → s.client p ≡ suc v → s.carrier p ≢ suc v → Move size weight s s (send p v m ∷ [])
  hands : {s : Flat M} (p v : ℕ) (e : Item M) (r : List (Item M)) → s.client p ≡ suc v → s.ahead p ≡ e ∷ r → Move size weight s (hand_f s p e r) (hand p v e ∷ [])
  tells : {s : Flat M} (p v : ℕ) → s.client p ≡ suc v → s.carrier p ≡ suc v → Move size weight s (queue_f s p (told (length (s.given p)))) []
  safes : {s : Flat M} (p : ℕ) (v : View) (e : Item M) → s.client p ≡ suc (id_of v) → s.carrier p ≡ suc (id_of v) → In v s.views → At (s.given p) (s.reported p) e
      → ((q : ℕ) → T (has v.set q) → s.reported p < s.tolds p q) → Move size weight s (safe_f s p) (safe p (id_of v) e ∷ [])
  -- the open views after it have all of the old ones that are above v
  collects : {s : Flat M} (p : ℕ) (v : View) (os : List ℕ) → s.carrier p ≡ suc (id_of v) → In v s.views → s.settled p < id_of v
      → ((q : ℕ) → T (has v.set q) → T (s.regs p q)) → ((w : ℕ) → In w (s.opens p) → id_of v < w → In w os)
      → Move size weight s (collect_f s p (id_of v) os) []

pub data Steps {M : Type 0} (size : ℕ) (weight : ℕ → ℕ) (v : View) : Flat M → List (Event M) → Type 0 where
  begin : Steps size weight v (flat0 v) []
  then : {s t : Flat M} {l k : List (Event M)} → Steps size weight v s l → Move size weight s t k → Steps size weight v t (l ++ k)
