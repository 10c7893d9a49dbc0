-- The group as one flat record of functions, and what each step makes of it: the form in which the simulations are proved. Views are their
-- identifiers here, a view or none is 0 or one more than the identifier, and limits are left out. Messages are of any type M.
use mathlib.Core.Path.{◌≡◌}
use mathlib.Core.Logic.{◌⊎◌}
use mathlib.Core.Bool.{Bool, true, false, cond}
use mathlib.Core.List.{List, [], ◌∷◌, ◌++◌}
use Prim.Native.Nat.{ℕ, suc}
use Rattle.views.specs.declared.View.{View}
use Rattle.views.specs.Members.{In}
use Rattle.views.specs.Points.{at, at2}
use Rattle.views.specs.Sets.{has}
use Rattle.views.specs.Lists.{id_of}
use Rattle.rules.specs.Data.{Item}

pub data Msg (M : Type 0) : Type 0 where
  client : M → Msg M
  info : ℕ → List ℕ → Msg M  -- the settled view, the open views
  registered : Msg M
  told : ℕ → Msg M

pub data Ent (M : Type 0) : Type 0 where
  ent : ℕ → Msg M → Ent M  -- sender, message

pub record Flat (M : Type 0) : Type 0 where
  pub views : List View
  pub carrier : ℕ → ℕ
  pub client : ℕ → ℕ
  pub settled : ℕ → ℕ
  pub opens : ℕ → List ℕ
  pub outgoing : ℕ → List (Msg M)
  pub infos : ℕ → ℕ → Bool  -- at p, q's info is noted
  pub regs : ℕ → ℕ → Bool  -- at p, q's registration is noted
  pub tolds : ℕ → ℕ → ℕ  -- at p, the count that q told
  pub taken : ℕ → ℕ
  pub arrived : ℕ → List (Item M)  -- the inward list of a carrier view that is not the client view
  pub ahead : ℕ → List (Item M)  -- of the client view's inward list what was not handed out
  pub given : ℕ → List (Item M)  -- and what was
  pub reported : ℕ → ℕ
  pub waiting : ℕ → ℕ → List (Msg M)  -- of p, in g
  pub order : ℕ → List (Ent M)  -- in g

module _ {M : Type 0} where
  abbrev pub create_f : Flat M → View → Flat M
  create_f s v = record {
    views = s.views ++ (v ∷ []);
    carrier = s.carrier;
    client = s.client;
    settled = s.settled;
    opens = s.opens;
    outgoing = s.outgoing;
    infos = s.infos;
    regs = s.regs;
    tolds = s.tolds;
    taken = s.taken;
    arrived = s.arrived;
    ahead = s.ahead;
    given = s.given;
    reported = s.reported;
    waiting = s.waiting;
    order = s.order;
  }

  abbrev pub join_f : Flat M → ℕ → ℕ → Flat M
  join_f s p v = record {
    views = s.views;
    carrier = at p (suc v) s.carrier;
    client = s.client;
    settled = s.settled;
    opens = s.opens;
    outgoing = at p (info (s.settled p) (s.opens p) ∷ []) s.outgoing;
    infos = at p (λ q. false) s.infos;
    regs = at p (λ q. false) s.regs;
    tolds = at p (λ q. 0) s.tolds;
    taken = at p 0 s.taken;
    arrived = at p [] s.arrived;
    ahead = s.ahead;
    given = s.given;
    reported = s.reported;
    waiting = s.waiting;
    order = s.order;
  }

  abbrev pub pass_f : Flat M → ℕ → ℕ → Msg M → List (Msg M) → Flat M
  pass_f s p g m r = record {
    views = s.views;
    carrier = s.carrier;
    client = s.client;
    settled = s.settled;
    opens = s.opens;
    outgoing = at p r s.outgoing;
    infos = s.infos;
    regs = s.regs;
    tolds = s.tolds;
    taken = s.taken;
    arrived = s.arrived;
    ahead = s.ahead;
    given = s.given;
    reported = s.reported;
    waiting = at2 p g (s.waiting p g ++ (m ∷ [])) s.waiting;
    order = s.order;
  }

  abbrev pub order_f : Flat M → ℕ → ℕ → Msg M → List (Msg M) → Flat M
  order_f s p g m r = record {
    views = s.views;
    carrier = s.carrier;
    client = s.client;
    settled = s.settled;
    opens = s.opens;
    outgoing = s.outgoing;
    infos = s.infos;
    regs = s.regs;
    tolds = s.tolds;
    taken = s.taken;
    arrived = s.arrived;
    ahead = s.ahead;
    given = s.given;
    reported = s.reported;
    waiting = at2 p g r s.waiting;
    order = at g (s.order g ++ (ent p m ∷ [])) s.order;
  }

  -- p takes q's info: x becomes its settled view, os its open ones
  abbrev pub info_f : Flat M → ℕ → ℕ → ℕ → List ℕ → Flat M
  info_f s p q x os = record {
    views = s.views;
    carrier = s.carrier;
    client = s.client;
    settled = at p x s.settled;
    opens = at p os s.opens;
    outgoing = s.outgoing;
    infos = at p (at q true (s.infos p)) s.infos;
    regs = s.regs;
    tolds = s.tolds;
    taken = at p (suc (s.taken p)) s.taken;
    arrived = s.arrived;
    ahead = s.ahead;
    given = s.given;
    reported = s.reported;
    waiting = s.waiting;
    order = s.order;
  }

  abbrev pub heard_f : Flat M → ℕ → ℕ → Flat M
  heard_f s p q = record {
    views = s.views;
    carrier = s.carrier;
    client = s.client;
    settled = s.settled;
    opens = s.opens;
    outgoing = s.outgoing;
    infos = s.infos;
    regs = at p (at q true (s.regs p)) s.regs;
    tolds = s.tolds;
    taken = at p (suc (s.taken p)) s.taken;
    arrived = s.arrived;
    ahead = s.ahead;
    given = s.given;
    reported = s.reported;
    waiting = s.waiting;
    order = s.order;
  }

  abbrev pub told_f : Flat M → ℕ → ℕ → ℕ → Flat M
  told_f s p q c = record {
    views = s.views;
    carrier = s.carrier;
    client = s.client;
    settled = s.settled;
    opens = s.opens;
    outgoing = s.outgoing;
    infos = s.infos;
    regs = s.regs;
    tolds = at p (at q c (s.tolds p)) s.tolds;
    taken = at p (suc (s.taken p)) s.taken;
    arrived = s.arrived;
    ahead = s.ahead;
    given = s.given;
    reported = s.reported;
    waiting = s.waiting;
    order = s.order;
  }

  -- a client message is taken in the client view, and in a carrier view that is not the client view
  abbrev pub inward_f : Flat M → ℕ → Item M → Flat M
  inward_f s p e = record {
    views = s.views;
    carrier = s.carrier;
    client = s.client;
    settled = s.settled;
    opens = s.opens;
    outgoing = s.outgoing;
    infos = s.infos;
    regs = s.regs;
    tolds = s.tolds;
    taken = at p (suc (s.taken p)) s.taken;
    arrived = s.arrived;
    ahead = at p (s.ahead p ++ (e ∷ [])) s.ahead;
    given = s.given;
    reported = s.reported;
    waiting = s.waiting;
    order = s.order;
  }

  abbrev pub arrive_f : Flat M → ℕ → Item M → Flat M
  arrive_f s p e = record {
    views = s.views;
    carrier = s.carrier;
    client = s.client;
    settled = s.settled;
    opens = s.opens;
    outgoing = s.outgoing;
    infos = s.infos;
    regs = s.regs;
    tolds = s.tolds;
    taken = at p (suc (s.taken p)) s.taken;
    arrived = at p (s.arrived p ++ (e ∷ [])) s.arrived;
    ahead = s.ahead;
    given = s.given;
    reported = s.reported;
    waiting = s.waiting;
    order = s.order;
  }

  -- os are the open views after the attempt
  abbrev pub attempt_f : Flat M → ℕ → ℕ → List ℕ → Flat M
  attempt_f s p v os = record {
    views = s.views;
    carrier = s.carrier;
    client = at p (suc v) s.client;
    settled = s.settled;
    opens = at p os s.opens;
    outgoing = s.outgoing;
    infos = s.infos;
    regs = s.regs;
    tolds = s.tolds;
    taken = s.taken;
    arrived = at p [] s.arrived;
    ahead = at p (s.arrived p) s.ahead;
    given = at p [] s.given;
    reported = at p 0 s.reported;
    waiting = s.waiting;
    order = s.order;
  }

  abbrev pub queue_f : Flat M → ℕ → Msg M → Flat M
  queue_f s p m = record {
    views = s.views;
    carrier = s.carrier;
    client = s.client;
    settled = s.settled;
    opens = s.opens;
    outgoing = at p (s.outgoing p ++ (m ∷ [])) s.outgoing;
    infos = s.infos;
    regs = s.regs;
    tolds = s.tolds;
    taken = s.taken;
    arrived = s.arrived;
    ahead = s.ahead;
    given = s.given;
    reported = s.reported;
    waiting = s.waiting;
    order = s.order;
  }

  abbrev pub hand_f : Flat M → ℕ → Item M → List (Item M) → Flat M
  hand_f s p e r = record {
    views = s.views;
    carrier = s.carrier;
    client = s.client;
    settled = s.settled;
    opens = s.opens;
    outgoing = s.outgoing;
    infos = s.infos;
    regs = s.regs;
    tolds = s.tolds;
    taken = s.taken;
    arrived = s.arrived;
    ahead = at p r s.ahead;
    given = at p (s.given p ++ (e ∷ [])) s.given;
    reported = s.reported;
    waiting = s.waiting;
    order = s.order;
  }

  abbrev pub safe_f : Flat M → ℕ → Flat M
  safe_f s p = record {
    views = s.views;
    carrier = s.carrier;
    client = s.client;
    settled = s.settled;
    opens = s.opens;
    outgoing = s.outgoing;
    infos = s.infos;
    regs = s.regs;
    tolds = s.tolds;
    taken = s.taken;
    arrived = s.arrived;
    ahead = s.ahead;
    given = s.given;
    reported = at p (suc (s.reported p)) s.reported;
    waiting = s.waiting;
    order = s.order;
  }

  abbrev pub collect_f : Flat M → ℕ → ℕ → List ℕ → Flat M
  collect_f s p g os = record {
    views = s.views;
    carrier = s.carrier;
    client = s.client;
    settled = at p g s.settled;
    opens = at p os s.opens;
    outgoing = s.outgoing;
    infos = s.infos;
    regs = s.regs;
    tolds = s.tolds;
    taken = s.taken;
    arrived = s.arrived;
    ahead = s.ahead;
    given = s.given;
    reported = s.reported;
    waiting = s.waiting;
    order = s.order;
  }

  abbrev pub Holds : Flat M → ℕ → ℕ → Type 0
  Holds s p w = (w ≡ s.settled p) ⊎ In w (s.opens p)

-- a fresh group with the first view v
abbrev pub flat0 : {M : Type 0} → View → Flat M
flat0 v = record {
  views = v ∷ [];
  carrier = λ p. cond (has v.set p) (suc (id_of v)) 0;
  client = λ p. cond (has v.set p) (suc (id_of v)) 0;
  settled = λ p. id_of v;
  opens = λ p. [];
  outgoing = λ p. [];
  infos = λ p q. false;
  regs = λ p q. false;
  tolds = λ p q. 0;
  taken = λ p. 0;
  arrived = λ p. [];
  ahead = λ p. [];
  given = λ p. [];
  reported = λ p. 0;
  waiting = λ p g. [];
  order = λ g. [];
}
