-- Demand 3, entire: the promise of `Promise.antt`, for every accepted start and every list of steps.
use mathlib.Core.Path.{◌≡◌}
use mathlib.Core.List.{List}
use Prim.Native.Nat.{ℕ, suc, ◌<◌}
use lib.Dec.{T}
use Rattle.views.specs.declared.View.{View}
use Rattle.views.specs.Limits.{max_members}
use Rattle.views.specs.Members.{In}
use Rattle.views.specs.Sets.{has}
use Rattle.views.specs.Lists.{id_of}
use Rattle.rules.specs.Data.{Member, Group, Step, attempt, accepted, rank}
use Rattle.rules.specs.Group.{start}
use Rattle.rules.specs.Runs.{last_of, answers_of, events_of, Attempted}
use Rattle.rules.specs.Promise.{Demand3}
use Rattle.rules.proofs.Flat.RunMoves.{began, runs}
use Rattle.rules.proofs.Run.Whole as W
use Rattle.rules.proofs.Run.Whole.{trace, unique, share}

pub demand3 : Demand3
demand3 weight n S room s e steps =
    let g = began n S room s e in
    let st = runs weight n S room s e steps in
    record {
      run = trace max_members weight S g.below g.some_one st;
      same = unique max_members weight S g.below g.some_one st;
      share = λ v w av aw lt nn. let c = share max_members weight S g.below g.some_one st v w av aw lt nn in (c.0, c.2, c.3, c.4);
    }

-- Invariant 3.4 of the report: if every server of a view attempted it, each earlier attempted view has a server whose client view is newer than that earlier view
pub moved_on : (weight : Member → ℕ) (n S room : ℕ) (s : Group) → start n S room ≡ accepted s → (steps : List Step) (v w : View)
    → Attempted S (events_of (answers_of weight s steps)) v → In w (last_of weight s steps).views
    → ((p : Member) → T (has w.set p) → In (attempt p w) (events_of (answers_of weight s steps))) → id_of v < id_of w
    → (p : Member) × T (has v.set p) × (suc (id_of v) < rank ((last_of weight s steps).books p).client.view)
moved_on weight n S room s e steps v w av hw all lt =
    let g = began n S room s e in
    W.moved_on max_members weight S g.below g.some_one (runs weight n S room s e steps) v w av hw all lt
