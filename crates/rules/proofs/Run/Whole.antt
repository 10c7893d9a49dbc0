-- A whole run of the flat group: its outward events are those of a run of Figure 1, and two views attempted with no totally registered view between their
-- identifiers share a member that weighs something. Attempted and registered go by the events.
use mathlib.Core.Path.{◌≡◌, sym}
use mathlib.Core.List.{List}
use Prim.Native.Nat.{ℕ, suc, ◌<◌}
use native.Mathlib.Omega.{arith}
use lib.Dec.{T}
use Rattle.views.specs.declared.View.{View}
use Rattle.views.specs.Sets.{has}
use Rattle.views.specs.Lists.{id_of}
use Rattle.views.proofs.Members.{In}
use Rattle.membership.proofs.Counting.{Common}
use Rattle.membership.proofs.Covering.{None}
use Rattle.membership.proofs.Machine.{State, TotReg}
use Rattle.membership.proofs.Statements.{Inv}
use Rattle.membership.proofs.Invariants.{reach-inv}
use Rattle.membership.proofs.Intersection.{Att, inv-4-18, inv-3-4-past}
use Rattle.rules.specs.Data.{Event, attempt}
use Rattle.rules.specs.Group.{first_view}
use Rattle.rules.specs.Figure1.{Outer, Run}
use Rattle.rules.proofs.Flat.{Flat, Steps}
use Rattle.rules.proofs.Ties.{Tied, client-is, current-is}
use Rattle.rules.proofs.Run.Listed.{Listed, listed, Naming, Agrees, naming, naming-agrees, to_named, from_named, same_view}
use Rattle.rules.proofs.Run.Events.{Attempted, Registered, attempted-created, event-created, event-current, registered-shown, registered-event}
use Rattle.rules.proofs.Run.Beside.{E, Beside}
use Rattle.rules.proofs.Run.Trace.{beside}

-- ---- by the events, the first view both from the start
module _ {M : Type 0} (S : ℕ) (es : List (Event M)) where
  abbrev pub AttE : View → Type 0
  AttE v = Attempted (first_view S) es v

  abbrev pub RegE : ℕ → ℕ → Type 0
  RegE p g = Registered (first_view S) es p g

  abbrev pub TotE : View → Type 0
  TotE v = AttE v × ((p : ℕ) → T (has v.set p) → RegE p (id_of v))

module _ {M : Type 0} (size : ℕ) (weight : ℕ → ℕ) (S : ℕ) (below : (p : ℕ) → T (has S p) → p < size) (some_one : (p : ℕ) × T (has S p)) where
  module _ {s : Flat M} {es : List (Event M)} (st : Steps size weight (first_view S) s es) where
    at-end : Listed size S s.views
    at-end = listed size S below some_one st

    abbrev named : Naming size
    named = naming size S s.views at-end

    agrees : Agrees named s.views
    agrees = naming-agrees size S s.views at-end

    runs : Beside size weight named S s es
    runs = beside size weight named S (sym (agrees (first_view S) at-end.first)) st agrees

    abbrev state : State
    state = runs.0

    abbrev outer : Outer M
    outer = runs.1

    abbrev run : Run (first_view S) outer es
    run = runs.3

    abbrev tied : Tied state outer s
    tied = runs.4

    inv : Inv (E size weight named) state
    inv = reach-inv runs.2

    -- the outward events are those of a run of Figure 1
    pub trace : (d : Outer M) × Run (first_view S) d es
    trace = (outer, run)

    -- what was attempted is listed
    pub att-listed : (v : View) → AttE S es v → In v s.views
    att-listed v av = tied.created-listed v (attempted-created (first_view S) run v av)

    att-inside : (v : View) → AttE S es v → Att (E size weight named) state (id_of v)
    att-inside v av = tied.created-attempted v (attempted-created (first_view S) run v av)

    -- an identifier has one attempted view
    pub unique : (v w : View) → AttE S es v → AttE S es w → id_of v ≡ id_of w → v ≡ w
    unique v w av aw e = same_view named agrees v w (att-listed v av) (att-listed w aw) e

    -- what is totally registered inside is so by the events
    total-shown : (x : ℕ) → TotReg (E size weight named) state x → (v : View) × TotE S es v × (id_of v ≡ x)
    total-shown x t =
        let q = named.some_one x in
        let y = registered-shown (first_view S) run x q.0 (tied.reg-outward x q.0 (t q.0 q.1)) in
        let all : TotReg (E size weight named) state (id_of y.0) = rw y.1 t in (
          y.0,
          (
            y.2,
            λ p m. registered-event (first_view S) run (id_of y.0) p
                (tied.reg-outward (id_of y.0) p (all p (to_named named agrees y.0 p (att-listed y.0 y.2) m))),
          ),
          y.1,
        )

    -- two attempted views with no totally registered view between their identifiers share a member that weighs something (Invariant 3.3)
    pub share : (v w : View) → AttE S es v → AttE S es w → id_of w < id_of v → ((x : View) → TotE S es x → id_of w < id_of x → id_of x < id_of v → ⊥)
        → Common weight (has v.set) (has w.set) size
    share v w av aw lt none =
        let q = inv-4-18 (E size weight named) state inv (id_of v) (id_of w) (att-inside v av) (att-inside w aw) lt none_inside in
        (q.0, q.1, from_named named agrees v q.0 (att-listed v av) q.2, from_named named agrees w q.0 (att-listed w aw) q.3, q.4)
      where
        none_inside : None (TotReg (E size weight named) state) (id_of w) (id_of v)
        none_inside x h k t = let y = total-shown x t in none y.0 y.1 (omega arith) (omega arith)

    -- if every member of w attempted it, each earlier attempted view has a member whose client view is later (Invariant 3.4)
    pub moved_on : (v w : View) → AttE S es v → In w s.views → ((p : ℕ) → T (has w.set p) → In (attempt p w) es) → id_of v < id_of w
        → (p : ℕ) × T (has v.set p) × (suc (id_of v) < s.client p)
    moved_on v w av hw all lt =
        let m = at-end.some_one w hw in
        let aw : Att (E size weight named) state (id_of w) = tied.created-attempted w (event-created (first_view S) run m.0 w (all m.0 m.1)) in
        let q = inv-3-4-past (E size weight named) state inv (id_of v) (id_of w) (att-inside v av) aw past lt in
        (q.0, from_named named agrees v q.0 (att-listed v av) q.1, omega (arith, client-is tied q.0))
      where
        past : (p : ℕ) → T (has (named.view_of (id_of w)).set p) → id_of w < state.client p
        past p m =
            omega (arith, event-current (first_view S) run p w (all p (from_named named agrees w p hw m)), client-is tied p, current-is tied p)
