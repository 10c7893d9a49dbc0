-- The membership machine: which views each member holds, attempts and registers, without messages in queues.
-- A view is its identifier, 0 the first view's. Its set comes from an `Env`, which stays the same for a whole run.
-- A history is a relation that only grows, so what a member received in a view is never forgotten here.
use mathlib.Core.Path.{◌≡◌}
use mathlib.Core.Logic.{◌⊎◌}
use mathlib.Core.Bool.{Bool, cond}
use Prim.Native.Nat.{ℕ, suc, ◌≤◌, ◌<◌, max}
use lib.Dec.{T}
use Rattle.membership.proofs.Counting.{Most}
use Rattle.membership.proofs.Updates.{upd, Plus2, Plus3, Also, Put}

-- the number of members, what each weighs, and the set of each view: of members only, and never empty
pub record Env : Type 0 where
  pub size : ℕ
  pub weight : ℕ → ℕ
  pub set : ℕ → ℕ → Bool
  pub below : (v p : ℕ) → T (set v p) → p < size
  pub some_one : (v : ℕ) → (p : ℕ) × T (set v p)

-- what is held when a is settled and O open (the report's use)
pub data Held (a : ℕ) (O : ℕ → Type 0) : ℕ → Type 0 where
  settled-view : Held a O a
  open-view : {w : ℕ} → O w → Held a O w

pub record State : Type 1 where
  -- v is created
  pub made : ℕ → Type 0
  -- p's carrier view (the report's cur): 0 for none, suc g for the view g, so that none is below every view
  pub carrier : ℕ → ℕ
  -- p's client view (client-cur), in the same way
  pub client : ℕ → ℕ
  -- p's settled view (act)
  pub settled : ℕ → ℕ
  -- at p, w is open (amb)
  pub opened : ℕ → ℕ → Type 0
  -- p attempted v (attempted)
  pub attempted : ℕ → ℕ → Type 0
  -- in g, p registered (reg)
  pub registered : ℕ → ℕ → Type 0
  -- in g, p's info has x settled (info-sent)
  pub sent_settled : ℕ → ℕ → ℕ → Type 0
  -- in g, p's info has w open (info-sent)
  pub sent_open : ℕ → ℕ → ℕ → Type 0
  -- p took in g the info of q (info-rcvd)
  pub got_info : ℕ → ℕ → ℕ → Type 0
  -- p took in g the registration of q (rcvd-rgst)
  pub got_reg : ℕ → ℕ → ℕ → Type 0

-- p holds w
abbrev pub Use : State → ℕ → ℕ → Type 0
Use s p w = Held (s.settled p) (s.opened p) w

-- in g, p's info says that it holds w
abbrev pub Sent : State → ℕ → ℕ → ℕ → Type 0
Sent s g p w = s.sent_settled g p w ⊎ s.sent_open g p w

module _ (E : Env) where
  -- p is in the set of v
  abbrev pub Mem : ℕ → ℕ → Type 0
  Mem v p = T (E.set v p)

  -- v passes the test against w
  abbrev pub Maj : ℕ → ℕ → Type 0
  Maj v w = Most E.weight E.size (E.set v) (E.set w)

  -- x is totally registered
  abbrev pub TotReg : State → ℕ → Type 0
  TotReg s x = (p : ℕ) → Mem x p → s.registered x p

  -- ---- a fresh group: the first view is carrier and client view of its members, attempted and registered, and settled for all

  abbrev pub start : State
  start = record {
    made = λ v. v ≡ 0;
    carrier = λ p. cond (E.set 0 p) 1 0;
    client = λ p. cond (E.set 0 p) 1 0;
    settled = λ p. 0;
    opened = λ p w. ⊥;
    attempted = λ p v. (v ≡ 0) × T (E.set 0 p);
    registered = λ g p. (g ≡ 0) × T (E.set 0 p);
    sent_settled = λ g p x. ⊥;
    sent_open = λ g p w. ⊥;
    got_info = λ p g q. ⊥;
    got_reg = λ p g q. ⊥;
  }

-- ---- the state after each step

abbrev pub create_s : State → ℕ → State
create_s s v = record {
  made = λ g. s.made g ⊎ (g ≡ v);
  carrier = s.carrier;
  client = s.client;
  settled = s.settled;
  opened = s.opened;
  attempted = s.attempted;
  registered = s.registered;
  sent_settled = s.sent_settled;
  sent_open = s.sent_open;
  got_info = s.got_info;
  got_reg = s.got_reg;
}

-- v becomes p's carrier view, and p's info in v is what p holds now
abbrev pub join_s : State → ℕ → ℕ → State
join_s s p v = record {
  made = s.made;
  carrier = upd p (suc v) s.carrier;
  client = s.client;
  settled = s.settled;
  opened = s.opened;
  attempted = s.attempted;
  registered = s.registered;
  sent_settled = Plus3 s.sent_settled v p (s.settled p);
  sent_open = Also s.sent_open v p (s.opened p);
  got_info = s.got_info;
  got_reg = s.got_reg;
}

-- a becomes settled at p; of p's open views and those of X the ones above a are open now
abbrev pub settle_s : State → ℕ → ℕ → (ℕ → Type 0) → State
settle_s s p a X = record {
  made = s.made;
  carrier = s.carrier;
  client = s.client;
  settled = upd p a s.settled;
  opened = Put p (λ w. (s.opened p w ⊎ X w) × (a < w)) s.opened;
  attempted = s.attempted;
  registered = s.registered;
  sent_settled = s.sent_settled;
  sent_open = s.sent_open;
  got_info = s.got_info;
  got_reg = s.got_reg;
}

abbrev pub note_s : State → ℕ → ℕ → ℕ → State
note_s s p g q = record {
  made = s.made;
  carrier = s.carrier;
  client = s.client;
  settled = s.settled;
  opened = s.opened;
  attempted = s.attempted;
  registered = s.registered;
  sent_settled = s.sent_settled;
  sent_open = s.sent_open;
  got_info = Plus3 s.got_info p g q;
  got_reg = s.got_reg;
}

-- p takes the info that q sent in g with x settled: the higher settled view stays, and the open views are joined
abbrev pub info_s : State → ℕ → ℕ → ℕ → ℕ → State
info_s s p g q x = note_s (settle_s s p (max (s.settled p) x) (s.sent_open g q)) p g q

abbrev pub attempt_s : State → ℕ → ℕ → State
attempt_s s p v = record {
  made = s.made;
  carrier = s.carrier;
  client = upd p (suc v) s.client;
  settled = s.settled;
  opened = Plus2 s.opened p v;
  attempted = Plus2 s.attempted p v;
  registered = s.registered;
  sent_settled = s.sent_settled;
  sent_open = s.sent_open;
  got_info = s.got_info;
  got_reg = s.got_reg;
}

abbrev pub register_s : State → ℕ → ℕ → State
register_s s p v = record {
  made = s.made;
  carrier = s.carrier;
  client = s.client;
  settled = s.settled;
  opened = s.opened;
  attempted = s.attempted;
  registered = Plus2 s.registered v p;
  sent_settled = s.sent_settled;
  sent_open = s.sent_open;
  got_info = s.got_info;
  got_reg = s.got_reg;
}

-- p takes the registration that q sent in g
abbrev pub heard_s : State → ℕ → ℕ → ℕ → State
heard_s s p g q = record {
  made = s.made;
  carrier = s.carrier;
  client = s.client;
  settled = s.settled;
  opened = s.opened;
  attempted = s.attempted;
  registered = s.registered;
  sent_settled = s.sent_settled;
  sent_open = s.sent_open;
  got_info = s.got_info;
  got_reg = Plus3 s.got_reg p g q;
}

abbrev pub collect_s : State → ℕ → ℕ → State
collect_s s p v = settle_s s p v (λ w. ⊥)

-- ---- the runs: each step with what it asks of the state before

pub data Reach (E : Env) : State → Type 1 where
  begin : Reach E (start E)
  -- above every view made
  create : {s : State} (v : ℕ) → ((g : ℕ) → s.made g → g < v) → Reach E s → Reach E (create_s s v)
  -- a made view that has p, above p's carrier view
  join : {s : State} (p v : ℕ) → s.made v → Mem E v p → s.carrier p ≤ v → Reach E s → Reach E (join_s s p v)
  -- an info sent in p's carrier view
  info : {s : State} (p g q x : ℕ) → s.carrier p ≡ suc g → s.sent_settled g q x → Reach E s → Reach E (info_s s p g q x)
  -- p's carrier view, above its client view; p took the infos of all its members; it passes the test against all that p holds
  attempt : {s : State} (p v : ℕ) → s.carrier p ≡ suc v → s.client p ≤ v → ((q : ℕ) → Mem E v q → s.got_info p v q)
      → ((w : ℕ) → Use s p w → Maj E v w) → Reach E s → Reach E (attempt_s s p v)
  -- p's client view
  register : {s : State} (p v : ℕ) → s.client p ≡ suc v → Reach E s → Reach E (register_s s p v)
  -- a registration made in p's carrier view
  heard : {s : State} (p g q : ℕ) → s.carrier p ≡ suc g → s.registered g q → Reach E s → Reach E (heard_s s p g q)
  -- any view above p's settled one, once p took the registrations of all its members
  collect : {s : State} (p v : ℕ) → ((q : ℕ) → Mem E v q → s.got_reg p v q) → s.settled p < v → Reach E s → Reach E (collect_s s p v)
